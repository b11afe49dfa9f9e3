-- `rows::parent_of` meets its contract.
-- Assumes nothing.
use Rattle.bits.proofs.Coding.{two-fit}
use Rattle.rows.proofs.Lookup.{parent-absent, parent-none, parent-found}
use borrow.Author.Rules.{rules}
use Rattle.rows.proofs.parent_of.Goals as goal

pub returns-in_default : goal.returns-in_default
returns-in_default c = search (parent-absent, rules)

pub returns-in_default-find : goal.returns-in_default-find
returns-in_default-find c = search (parent-none, rules)

pub add_size-requires : goal.add_size-requires
add_size-requires c = search (two-fit, rules)

pub returns : goal.returns
returns c = search (parent-found, rules)
