use Rattle.expressions.proofs.Follow.{first}
use borrow.Author.Rules.{rules}
use Rattle.lite_arrays.proofs.put_taken.Goals as goal

pub returns : goal.returns
returns c = search (first, rules)
