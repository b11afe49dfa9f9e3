use Rattle.bit_fields.proofs.Pieces.{fixed-line}
use borrow.Author.Rules.{rules}
use Rattle.bit_fields.proofs.put_fixed_scalar.Goals as goal

pub returns : goal.returns
returns c = search (fixed-line, rules)
