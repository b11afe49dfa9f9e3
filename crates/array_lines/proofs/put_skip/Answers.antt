use Rattle.array_lines.proofs.Laws.{skipped}
use borrow.Author.Rules.{rules}
use Rattle.array_lines.proofs.put_skip.Goals as goal

pub returns : goal.returns
returns c = search (skipped, rules)
