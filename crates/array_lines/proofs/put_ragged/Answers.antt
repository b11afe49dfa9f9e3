use Rattle.array_lines.proofs.Laws.{ragged-test}
use borrow.Author.Rules.{rules}
use Rattle.array_lines.proofs.put_ragged.Goals as goal

pub returns : goal.returns
returns c = search (ragged-test, rules)
