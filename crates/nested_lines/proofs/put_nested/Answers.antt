use Rattle.nested_lines.proofs.Nested.{nested-line}
use borrow.Author.Rules.{rules}
use Rattle.nested_lines.proofs.put_nested.Goals as goal

pub returns : goal.returns
returns c = search (nested-line, rules)
