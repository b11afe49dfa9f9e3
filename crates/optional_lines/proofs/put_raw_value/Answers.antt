use Rattle.optional_lines.proofs.Optionals.{raw-lines}
use borrow.Author.Rules.{rules}
use Rattle.optional_lines.proofs.put_raw_value.Goals as goal

pub returns : goal.returns
returns c = search (raw-lines, rules)
