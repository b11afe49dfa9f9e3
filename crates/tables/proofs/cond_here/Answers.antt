-- `tables::cond_here` meets its contract, by the laws of Entries.
-- Assumes nothing.
use Rattle.tables.proofs.Entries.{cond-past, cond-there}
use borrow.Author.Rules.{rules}
use Rattle.tables.proofs.cond_here.Goals as goal

pub returns-then-values-e : goal.returns-then-values-e
returns-then-values-e c = search (cond-past, rules)

pub returns : goal.returns
returns c = search (cond-there, rules)
