-- `tables::bits_here` meets its contract, by the laws of Entries.
-- Assumes nothing.
use Rattle.tables.proofs.Entries.{bits-past, bits-there}
use borrow.Author.Rules.{rules}
use Rattle.tables.proofs.bits_here.Goals as goal

pub returns-then-rows-i : goal.returns-then-rows-i
returns-then-rows-i c = search (bits-past, bits-there, rules)

pub returns : goal.returns
returns c = search (bits-past, bits-there, rules)
