use Rattle.expressions.proofs.Follow.{first, only}
use Rattle.full_arrays.specs.Shapes.{full_text}
use borrow.Author.Rules.{rules}
use Rattle.full_arrays.proofs.put_unknown_full.Goals as goal

pub returns-in-StaticCount : goal.returns-in-StaticCount
unfolding full_text
returns-in-StaticCount c = rw c.in-StaticCount.is (search (first, only, rules))

pub returns-in-DynamicCount : goal.returns-in-DynamicCount
unfolding full_text
returns-in-DynamicCount c = rw c.in-DynamicCount.is (search (first, only, rules))

pub returns-in-DynamicSize : goal.returns-in-DynamicSize
unfolding full_text
returns-in-DynamicSize c = rw c.in-DynamicSize.is (search (first, only, rules))

pub returns-in-Unknown : goal.returns-in-Unknown
unfolding full_text
returns-in-Unknown c = rw c.in-Unknown.is (search (first, only, rules))
