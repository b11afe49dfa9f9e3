-- `lowering::lower_all` meets its contract, by what `lower_in` gives.
-- Assumes nothing.
use Rattle.lowering.proofs.Records.{gives_all}
use borrow.Author.Rules.{rules}
use Rattle.lowering.proofs.lower_all.Goals as goal

pub returns-in-0-to-4096 : goal.returns-in-0-to-4096
returns-in-0-to-4096 c = search (gives_all, rules)

pub returns-in_default : goal.returns-in_default
returns-in_default c = search (gives_all, rules)
