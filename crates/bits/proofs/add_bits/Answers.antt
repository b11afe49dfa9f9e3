-- `bits::add_bits` meets its contract.
-- Assumes nothing.
use Rattle.bits.proofs.Caps.{cap-saturated}
use borrow.Author.Rules.{rules}
use Rattle.bits.proofs.add_bits.Goals as goal

pub returns : goal.returns
returns c = search (cap-saturated, rules)
