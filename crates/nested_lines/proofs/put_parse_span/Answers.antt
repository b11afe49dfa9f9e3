use Rattle.nested_lines.proofs.Nested.{parse-span-lines}
use borrow.Author.Rules.{rules}
use Rattle.nested_lines.proofs.put_parse_span.Goals as goal

pub returns : goal.returns
returns c = search (parse-span-lines, rules)
