-- `tables::decl_here` meets its contract, by the laws of Entries.
-- Assumes nothing.
use Rattle.tables.proofs.Entries.{decl-past, decl-there}
use borrow.Author.Rules.{rules}
use Rattle.tables.proofs.decl_here.Goals as goal

pub returns-then-rows-i : goal.returns-then-rows-i
returns-then-rows-i c = search (decl-past, decl-there, rules)

pub returns : goal.returns
returns c = search (decl-past, decl-there, rules)
