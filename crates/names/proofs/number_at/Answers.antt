-- `names::number_at` meets its contract, by the laws of Digits.
-- Assumes nothing.
use Rattle.names.proofs.Digits.{numbers, number_digits, digits-turn, digits-zero, digits-ten, digits-over}
use borrow.Author.Rules.{rules}
use Rattle.names.proofs.number_at.Goals.{then-not-is_ascii_digit-2-via-then-not-is_ascii_digit-2, then-not-is_ascii_digit-2-via-else-not-is_ascii_digit-2+then-v-eq0}
use Rattle.names.proofs.number_at.Goals as goal

pub returns-in_err-first : goal.returns-in_err-first
returns-in_err-first c = search (numbers, rules)

pub returns-then-not-is_ascii_digit : goal.returns-then-not-is_ascii_digit
returns-then-not-is_ascii_digit c = search (numbers, rules)

pub loop-p-init : goal.loop-p-init
loop-p-init c = search (number_digits, rules)

pub returns-then-b-eq10 : goal.returns-then-b-eq10
returns-then-b-eq10 c = search (numbers, rules)

pub returns-then-not-is_ascii_digit-2 : goal.returns-then-not-is_ascii_digit-2
returns-then-not-is_ascii_digit-2 c = elim c.then-not-is_ascii_digit-2.branch [
  | then-not-is_ascii_digit-2-via-then-not-is_ascii_digit-2 w ↦ search (numbers, rules)
  | then-not-is_ascii_digit-2-via-else-not-is_ascii_digit-2+then-v-eq0 w ↦ search (digits-zero, rules)
]

pub returns-in_err-checked_mul : goal.returns-in_err-checked_mul
returns-in_err-checked_mul c = search (digits-ten, rules)

pub returns-in_err-v : goal.returns-in_err-v
returns-in_err-v c = search (digits-over, rules)

pub loop-p-preserved : goal.loop-p-preserved
loop-p-preserved c = search (digits-turn, rules)

pub returns : goal.returns
returns c = search (numbers, rules)
