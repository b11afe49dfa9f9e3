-- `schema::large_sizes` meets its contract.
-- Assumes nothing.
use Rattle.schema.proofs.RowLaws.{large-total}
use borrow.Author.Rules.{rules}
use borrow.Author.Tests.{tests}
use Rattle.schema.proofs.large_sizes.Goals as goal

pub returns-else-large_size-3 : goal.returns-else-large_size-3
returns-else-large_size-3 c = search (large-total, rules, tests)
