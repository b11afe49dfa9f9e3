-- `ranges::bad_here` meets its contract, by the laws of Tests.
-- Assumes nothing.
use Rattle.ranges.proofs.Tests.{here-width, here-none}
use borrow.Author.Rules.{rules}
use Rattle.ranges.proofs.bad_here.Goals as goal

pub returns-in-3-to-8 : goal.returns-in-3-to-8
returns-in-3-to-8 c = search (here-width, rules)

pub returns-in-9-to-11 : goal.returns-in-9-to-11
returns-in-9-to-11 c = search (here-none, rules)
