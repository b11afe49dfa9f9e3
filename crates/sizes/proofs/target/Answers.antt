-- `sizes::target` meets its contract.
-- Assumes nothing.
use Rattle.sizes.proofs.Targets.{looking-start, looking-found, looking-turn, looking-end}
use borrow.Author.Rules.{rules}
use Rattle.sizes.proofs.target.Goals as goal

pub loop-i-init : goal.loop-i-init
loop-i-init c = search (looking-start, looking-found, looking-turn, looking-end, rules)

pub returns-then-is_target : goal.returns-then-is_target
returns-then-is_target c = search (looking-start, looking-found, looking-turn, looking-end, rules)

pub loop-i-preserved : goal.loop-i-preserved
loop-i-preserved c = search (looking-start, looking-found, looking-turn, looking-end, rules)

pub returns : goal.returns
returns c = search (looking-start, looking-found, looking-turn, looking-end, rules)
