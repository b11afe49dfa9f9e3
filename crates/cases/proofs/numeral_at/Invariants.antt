-- What the loop of `cases::numeral_at` keeps from turn to turn.
-- Assumes nothing.
use Rattle.std.proofs.Common.{◌≡◌, ◌<◌, ◌^◌, drop}
use Rattle.cases.specs.Form.{numeral_of, numeral_at}
use Rattle.cases.proofs.numeral_at.Given as goal

abbrev pub invariant-loop-p : goal.invariant-loop-p
invariant-loop-p l = (l.v < 10 ^ 9) × (numeral_of (drop l.p l.s) l.stop l.at l.v l.p ≡ numeral_at l.s l.stop l.at)
