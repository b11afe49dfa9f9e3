use Rattle.lite_arrays.proofs.Statements.{cut-lines}
use borrow.Author.Rules.{rules}
use Rattle.lite_arrays.proofs.put_cut.Goals as goal

pub returns : goal.returns
returns c = search (cut-lines, rules)
