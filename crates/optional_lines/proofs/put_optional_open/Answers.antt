use Rattle.optional_lines.proofs.Optionals.{optional-open}
use borrow.Author.Rules.{rules}
use Rattle.optional_lines.proofs.put_optional_open.Goals as goal

pub returns : goal.returns
returns c = search (optional-open, rules)
