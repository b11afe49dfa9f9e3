use Rattle.expressions.proofs.Terms.{backing}
use borrow.Author.Rules.{rules}
use Rattle.expressions.proofs.backing_bits.Goals as goal

pub returns : goal.returns
returns c = search (backing, rules)
