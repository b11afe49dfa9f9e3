-- `sizes::element_size` meets its contract.
-- Assumes nothing.
use Rattle.sizes.proofs.Elements.{element-type}
use borrow.Author.Rules.{rules}
use Rattle.sizes.proofs.element_size.Goals as goal

pub returns-in-None-Some : goal.returns-in-None-Some
returns-in-None-Some c = search (element-type, rules)
