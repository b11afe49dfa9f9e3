use Rattle.field_lines.proofs.Arms.{not-padded, padded}
use borrow.Author.Rules.{rules}
use Rattle.field_lines.proofs.put_array.Goals as goal

pub returns-in-None : goal.returns-in-None
returns-in-None c = λ w. search (not-padded, rules)

pub returns-in-Some : goal.returns-in-Some
returns-in-Some c = λ w. search (padded, rules)
