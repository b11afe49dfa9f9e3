use Rattle.optional_lines.proofs.Optionals.{optional-nested}
use borrow.Author.Rules.{rules}
use Rattle.optional_lines.proofs.put_optional_nested.Goals as goal

pub returns : goal.returns
returns c = search (optional-nested, rules)
