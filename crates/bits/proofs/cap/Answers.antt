-- `bits::cap` meets its contract.
-- Assumes nothing.
use Rattle.bits.proofs.Caps.{cap-over, cap-under}
use borrow.Author.Rules.{rules}
use Rattle.bits.proofs.cap.Goals as goal

pub returns-then-bits-gt-MOST_BITS : goal.returns-then-bits-gt-MOST_BITS
returns-then-bits-gt-MOST_BITS c = search (cap-over, rules)

pub returns : goal.returns
returns c = search (cap-under, rules)
