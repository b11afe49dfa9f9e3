-- `planner::is_bit` meets its contract.
-- Assumes nothing.
use Rattle.planner.proofs.Tests.{bit-plain, bit-optional}
use borrow.Author.Rules.{rules}
use Rattle.planner.proofs.is_bit.Goals as goal

pub returns-in-None : goal.returns-in-None
returns-in-None c = search (bit-plain, bit-optional, rules)

pub returns-in-Some : goal.returns-in-Some
returns-in-Some c = search (bit-plain, bit-optional, rules)
