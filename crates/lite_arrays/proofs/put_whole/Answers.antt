use Rattle.lite_arrays.proofs.Statements.{whole-lines}
use borrow.Author.Rules.{rules}
use Rattle.lite_arrays.proofs.put_whole.Goals as goal

pub returns : goal.returns
returns c = search (whole-lines, rules)
