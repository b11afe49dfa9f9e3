use Rattle.bit_fields.proofs.Pieces.{open-line}
use borrow.Author.Rules.{rules}
use Rattle.bit_fields.proofs.put_open_enum.Goals as goal

pub returns : goal.returns
returns c = search (open-line, rules)
