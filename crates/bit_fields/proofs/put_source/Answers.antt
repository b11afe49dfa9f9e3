use Rattle.bit_fields.proofs.Pieces.{source-read, source-bits}
use borrow.Author.Rules.{rules}
use Rattle.bit_fields.proofs.put_source.Goals as goal

pub returns-in-Read : goal.returns-in-Read
returns-in-Read c = search (source-read, rules)

pub returns-in-Bits : goal.returns-in-Bits
returns-in-Bits c = search (source-bits, rules)
