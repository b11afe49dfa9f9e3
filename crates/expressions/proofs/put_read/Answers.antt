use Rattle.text.proofs.Wrotes.{then}
use Rattle.expressions.specs.Amounts.{sized_read}
use borrow.Author.Rules.{rules}
use Rattle.expressions.proofs.put_read.Goals as goal

pub returns-in-LittleEndian : goal.returns-in-LittleEndian
unfolding sized_read
returns-in-LittleEndian c = rw c.in-LittleEndian.is (search (then, rules))

pub returns-in-BigEndian : goal.returns-in-BigEndian
unfolding sized_read
returns-in-BigEndian c = rw c.in-BigEndian.is (search (then, rules))
