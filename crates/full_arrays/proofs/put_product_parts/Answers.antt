use Rattle.expressions.proofs.Follow.{first, only}
use borrow.Author.Rules.{rules}
use Rattle.full_arrays.proofs.put_product_parts.Goals as goal

pub returns : goal.returns
returns c = search (first, only, rules)
