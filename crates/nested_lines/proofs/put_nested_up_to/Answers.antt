use Rattle.nested_lines.proofs.Nested.{nested-up-to}
use borrow.Author.Rules.{rules}
use Rattle.nested_lines.proofs.put_nested_up_to.Goals as goal

pub returns : goal.returns
returns c = search (nested-up-to, rules)
