use Rattle.full_arrays.proofs.Statements.{own-span}
use borrow.Author.Rules.{rules}
use Rattle.full_arrays.proofs.put_own_span.Goals as goal

pub returns : goal.returns
returns c = search (own-span, rules)
