use Rattle.optional_lines.proofs.Optionals.{optional-scalar}
use borrow.Author.Rules.{rules}
use Rattle.optional_lines.proofs.put_optional_scalar.Goals as goal

pub returns : goal.returns
returns c = search (optional-scalar, rules)
