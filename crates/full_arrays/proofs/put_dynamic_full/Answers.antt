use Rattle.full_arrays.specs.Shapes.{full_text}
use Rattle.full_arrays.proofs.Full.{full-dynamic-sized, full-dynamic-rest}
use borrow.Author.Rules.{rules}
use Rattle.full_arrays.proofs.put_dynamic_full.Goals as goal

pub returns-in-StaticCount : goal.returns-in-StaticCount
unfolding full_text
returns-in-StaticCount c = rw c.in-StaticCount.is (search rules)

pub returns-in-DynamicCount : goal.returns-in-DynamicCount
unfolding full_text
returns-in-DynamicCount c = rw c.in-DynamicCount.is (search rules)

pub returns-in-DynamicSize : goal.returns-in-DynamicSize
returns-in-DynamicSize c = rw c.in-DynamicSize.is (search (full-dynamic-sized, rules))

pub returns-in-Unknown : goal.returns-in-Unknown
returns-in-Unknown c = rw c.in-Unknown.is (search (full-dynamic-rest, rules))
