-- `rows::total_of` meets its contract.
-- Assumes nothing.
use Rattle.bits.proofs.Coding.{two-fit, three-fit}
use Rattle.rows.proofs.Lookup.{total-none, total-found}
use borrow.Author.Rules.{rules}
use Rattle.rows.proofs.total_of.Goals as goal

pub returns-in_default : goal.returns-in_default
returns-in_default c = search (total-none, rules)

pub add_size-requires : goal.add_size-requires
add_size-requires c = search (two-fit, rules)

pub add_size-requires-2 : goal.add_size-requires-2
add_size-requires-2 c = search (three-fit, rules)

pub returns : goal.returns
returns c = search (total-found, rules)
