-- `rows::enum_of` meets its contract.
-- Assumes nothing.
use Rattle.rows.proofs.Lookup.{enum-none, enum-found}
use borrow.Author.Rules.{rules}
use Rattle.rows.proofs.enum_of.Goals as goal

pub returns-in_err-i : goal.returns-in_err-i
returns-in_err-i c = search (enum-none, rules)

pub returns : goal.returns
returns c = search (enum-found, rules)
