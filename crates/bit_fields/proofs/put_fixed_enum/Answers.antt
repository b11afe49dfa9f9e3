use Rattle.bit_fields.proofs.Pieces.{tag-line}
use borrow.Author.Rules.{rules}
use Rattle.bit_fields.proofs.put_fixed_enum.Goals as goal

pub returns : goal.returns
returns c = search (tag-line, rules)
