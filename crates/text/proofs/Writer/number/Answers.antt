use Rattle.text.proofs.Wrotes.{then}
use borrow.Author.Rules.{rules}
use Rattle.text.proofs.Writer.number.Goals as goal

pub returns : goal.returns
returns c = search (then, rules)
