-- `places::fill_behind` meets its contract, by the laws of Filling.
-- Assumes nothing.
use Rattle.places.proofs.Filling.{behind-none}
use borrow.Author.Rules.{rules}
use Rattle.places.proofs.fill_behind.Goals as goal

pub returns : goal.returns
returns c = search (behind-none, rules)
