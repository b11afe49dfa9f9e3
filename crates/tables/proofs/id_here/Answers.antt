-- `tables::id_here` meets its contract, by the laws of Entries.
-- Assumes nothing.
use Rattle.tables.proofs.Entries.{id-past, id-there}
use borrow.Author.Rules.{rules}
use Rattle.tables.proofs.id_here.Goals as goal

pub returns-then-rows-i : goal.returns-then-rows-i
returns-then-rows-i c = search (id-past, rules)

pub returns : goal.returns
returns c = search (id-there, rules)
