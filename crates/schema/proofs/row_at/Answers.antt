-- `schema::row_at` meets its contract.
-- Assumes nothing.
use Rattle.schema.proofs.RowLaws.{entry_at}
use borrow.Author.Rules.{rules}
use Rattle.schema.proofs.row_at.Goals as goal

pub returns : goal.returns
returns c = search (entry_at, rules)
