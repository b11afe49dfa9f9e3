use Rattle.text.proofs.Wrotes.{then}
use borrow.Author.Rules.{rules}
use Rattle.expressions.proofs.put_named.Goals as goal

pub returns : goal.returns
returns c = search (then, rules)
