use Rattle.text.proofs.Wrotes.{nothing}
use Rattle.arrays.specs.Shapes.{modifier_text}
use borrow.Author.Rules.{rules}
use Rattle.arrays.proofs.put_modifier.Goals as goal

pub returns-in-None : goal.returns-in-None
unfolding modifier_text
returns-in-None c = rw c.in-None.is (search (nothing, rules))

pub returns-in-Plus : goal.returns-in-Plus
unfolding modifier_text
returns-in-Plus c = rw c.in-Plus.is (search rules)

pub returns-in-Minus : goal.returns-in-Minus
unfolding modifier_text
returns-in-Minus c = rw c.in-Minus.is (search rules)
