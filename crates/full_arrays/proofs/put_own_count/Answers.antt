use Rattle.full_arrays.proofs.Statements.{own-count}
use borrow.Author.Rules.{rules}
use Rattle.full_arrays.proofs.put_own_count.Goals as goal

pub returns : goal.returns
returns c = search (own-count, rules)
