-- `references::reference_in` meets its contract, by the laws of KindNumbers.
-- Assumes nothing.
use Rattle.references.proofs.KindNumbers.{refers-not, refers-size, refers-count, refers-element}
use borrow.Author.Rules.{rules}
use Rattle.references.proofs.reference_in.Goals as goal

pub returns-in-3 : goal.returns-in-3
returns-in-3 c = search (refers-size, rules)

pub returns-in-4 : goal.returns-in-4
returns-in-4 c = search (refers-count, rules)

pub returns-in-5 : goal.returns-in-5
returns-in-5 c = search (refers-element, rules)

pub returns-in_default : goal.returns-in_default
returns-in_default c = search (refers-not, rules)
