-- `bits::product` meets its contract.
-- Assumes nothing.
use Rattle.bits.proofs.Caps.{cap-saturated}
use borrow.Author.Rules.{rules}
use Rattle.bits.proofs.product.Goals as goal

pub returns : goal.returns
returns c = search (cap-saturated, rules)
