use Rattle.array_lines.proofs.Laws.{divided-test}
use borrow.Author.Rules.{rules}
use Rattle.array_lines.proofs.put_divided.Goals as goal

pub returns : goal.returns
returns c = search (divided-test, rules)
