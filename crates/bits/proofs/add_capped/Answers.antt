-- `bits::add_capped` meets its contract.
-- Assumes nothing.
use Rattle.bits.proofs.Caps.{capped-fit, capped-added}
use borrow.Author.Rules.{rules}
use Rattle.bits.proofs.add_capped.Goals as goal

pub add_size-requires : goal.add_size-requires
add_size-requires c = search (capped-fit, rules)

pub returns : goal.returns
returns c = search (capped-added, rules)
