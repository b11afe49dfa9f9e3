-- `sizes::ragged_here` meets its contract.
-- Assumes nothing.
use Rattle.sizes.proofs.WholeBytes.{here-whole}
use borrow.Author.Rules.{rules}
use borrow.Author.Tests.{tests}
use Rattle.sizes.proofs.ragged_here.Goals as goal

pub returns-then-is_none : goal.returns-then-is_none
returns-then-is_none c = search (here-whole, rules, tests)
