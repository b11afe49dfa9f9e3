use Rattle.lite_arrays.proofs.Statements.{zero_test_lem}
use borrow.Author.Rules.{rules}
use Rattle.lite_arrays.proofs.put_zero.Goals as goal

pub returns : goal.returns
returns c = search (zero_test_lem, rules)
