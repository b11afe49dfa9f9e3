use Rattle.lite_arrays.proofs.Statements.{eaten-line}
use borrow.Author.Rules.{rules}
use Rattle.lite_arrays.proofs.put_eaten.Goals as goal

pub returns : goal.returns
returns c = search (eaten-line, rules)
