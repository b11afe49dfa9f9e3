-- What the loop of `keywords::is_among` keeps from turn to turn, and what falls.
-- Assumes nothing.
use Rattle.keywords.proofs.Among.{Left}
use Rattle.keywords.proofs.is_among.Given as goal

abbrev pub invariant-loop-left : goal.invariant-loop-left
invariant-loop-left l = Left l.words l.count l.name l.p l.left

abbrev pub decreases-loop-left : goal.decreases-loop-left
decreases-loop-left l = l.left
