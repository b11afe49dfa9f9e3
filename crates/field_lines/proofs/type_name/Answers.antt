use Rattle.field_lines.proofs.Arms.{some-type}
use borrow.Author.Rules.{rules}
use Rattle.field_lines.proofs.type_name.Goals as goal

pub returns-in-Some : goal.returns-in-Some
returns-in-Some c = search (some-type, rules)
