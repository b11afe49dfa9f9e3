-- `tables::field_here` meets its contract, by the laws of Entries.
-- Assumes nothing.
use Rattle.tables.proofs.Entries.{field_past, field-there}
use borrow.Author.Rules.{rules}
use Rattle.tables.proofs.field_here.Goals as goal

pub returns-then-values-e : goal.returns-then-values-e
returns-then-values-e c = search (field_past, field-there, rules)

pub returns : goal.returns
returns c = search (field_past, field-there, rules)
