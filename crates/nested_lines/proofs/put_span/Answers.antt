use Rattle.nested_lines.proofs.Nested.{span_lines}
use borrow.Author.Rules.{rules}
use Rattle.nested_lines.proofs.put_span.Goals as goal

pub returns : goal.returns
returns c = search (span_lines, rules)
