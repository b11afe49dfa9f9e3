use Rattle.chunk_lines.proofs.Whole.{head-line}
use borrow.Author.Rules.{rules}
use Rattle.chunk_lines.proofs.put_head.Goals as goal

pub returns : goal.returns
returns c = search (head-line, rules)
