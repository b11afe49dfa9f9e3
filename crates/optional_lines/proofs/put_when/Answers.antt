use Rattle.optional_lines.proofs.Optionals.{when-line}
use borrow.Author.Rules.{rules}
use Rattle.optional_lines.proofs.put_when.Goals as goal

pub returns : goal.returns
returns c = search (when-line, rules)
