use Rattle.expressions.proofs.Terms.{operation}
use borrow.Author.Rules.{rules}
use Rattle.expressions.proofs.put_amount.Goals as goal

pub returns-in-Product : goal.returns-in-Product
returns-in-Product c = rw c.in-Product.is (search (operation, rules))

pub returns-in-Quotient : goal.returns-in-Quotient
returns-in-Quotient c = rw c.in-Quotient.is (search (operation, rules))

pub returns-in-Remainder : goal.returns-in-Remainder
returns-in-Remainder c = rw c.in-Remainder.is (search (operation, rules))
