-- What the loop of `slots::piece_end` keeps from turn to turn.
-- Assumes nothing.
use Rattle.std.specs.Prelude.{◌≡◌, ◌+◌, ◌≤◌, max, length, drop}
use Rattle.slots.specs.Pieces.{up_to}
use Rattle.slots.proofs.piece_end.Given as goal

abbrev pub invariant-loop-p : goal.invariant-loop-p
invariant-loop-p l = (l.p ≤ max l.at (length l.s)) × (l.p + up_to l.separator (drop l.p l.s) ≡ l.at + up_to l.separator (drop l.at l.s))
