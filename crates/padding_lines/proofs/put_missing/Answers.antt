use Rattle.padding_lines.proofs.Paddings.{missing-text}
use borrow.Author.Rules.{rules}
use Rattle.padding_lines.proofs.put_missing.Goals as goal

pub returns : goal.returns
returns c = search (missing-text, rules)
