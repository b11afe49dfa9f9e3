use Rattle.expressions.proofs.Terms.{sized-read}
use borrow.Author.Rules.{rules}
use Rattle.expressions.proofs.put_sized_read.Goals as goal

pub returns : goal.returns
returns c = search (sized-read, rules)
