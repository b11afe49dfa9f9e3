use borrow.Author.Rules.{rules}
use Rattle.expressions.proofs.put_term.Goals as goal

pub returns-in-ElementSize : goal.returns-in-ElementSize
returns-in-ElementSize c = rw c.in-ElementSize.is (search rules)
