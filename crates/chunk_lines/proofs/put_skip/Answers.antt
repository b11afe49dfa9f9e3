use Rattle.chunk_lines.proofs.Whole.{skip-line}
use borrow.Author.Rules.{rules}
use Rattle.chunk_lines.proofs.put_skip.Goals as goal

pub returns : goal.returns
returns c = search (skip-line, rules)
