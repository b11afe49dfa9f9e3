use Rattle.bit_fields.proofs.Pieces.{closed-lines}
use borrow.Author.Rules.{rules}
use Rattle.bit_fields.proofs.put_closed_enum.Goals as goal

pub returns : goal.returns
returns c = search (closed-lines, rules)
