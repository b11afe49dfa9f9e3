use Rattle.array_lines.proofs.Laws.{ragged-or-zero}
use borrow.Author.Rules.{rules}
use Rattle.array_lines.proofs.put_ragged_or_zero.Goals as goal

pub returns : goal.returns
returns c = search (ragged-or-zero, rules)
