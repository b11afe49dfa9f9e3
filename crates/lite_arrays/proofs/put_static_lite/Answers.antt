use Rattle.expressions.proofs.Follow.{first}
use Rattle.lite_arrays.specs.Shapes.{lite_text}
use borrow.Author.Rules.{rules}
use Rattle.lite_arrays.proofs.put_static_lite.Goals as goal

pub returns-in-StaticCount : goal.returns-in-StaticCount
unfolding lite_text
returns-in-StaticCount c = rw c.in-StaticCount.is (search (first, rules))

pub returns-in-DynamicCount : goal.returns-in-DynamicCount
unfolding lite_text
returns-in-DynamicCount c = rw c.in-DynamicCount.is (search (first, rules))

pub returns-in-DynamicSize : goal.returns-in-DynamicSize
unfolding lite_text
returns-in-DynamicSize c = rw c.in-DynamicSize.is (search (first, rules))

pub returns-in-Unknown : goal.returns-in-Unknown
unfolding lite_text
returns-in-Unknown c = rw c.in-Unknown.is (search (first, rules))
