-- `schema::annotate_decl` meets its contract.
-- Assumes nothing.
use Rattle.schema.proofs.RowLaws.{entry-sized}
use borrow.Author.Rules.{rules}
use Rattle.schema.proofs.annotate_decl.Goals as goal

pub returns : goal.returns
returns c = search (entry-sized, rules)
