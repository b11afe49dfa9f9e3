use Rattle.optional_lines.proofs.Optionals.{optional-closed}
use borrow.Author.Rules.{rules}
use Rattle.optional_lines.proofs.put_optional_closed.Goals as goal

pub returns : goal.returns
returns c = search (optional-closed, rules)
