use Rattle.padding_lines.proofs.Paddings.{padding-lines}
use borrow.Author.Rules.{rules}
use Rattle.padding_lines.proofs.put_padding.Goals as goal

pub returns : goal.returns
returns c = search (padding-lines, rules)
