-- What the loop of `slots::put_slots` keeps from turn to turn, and what falls.
-- Assumes nothing.
use Prim.Native.Nat.{◌-◌, ◌≤◌}
use mathlib.Core.Path.{◌≡◌}
use lib.ListN.{length}
use Rattle.slots.proofs.Drawing.{Left}
use Rattle.slots.proofs.put_slots.Given as goal

abbrev pub invariant-loop-state : goal.invariant-loop-state
invariant-loop-state l = (l.p ≤ length l.family) × (length l.out ≡ length l.initial.out) × Left l.family l.state l.initial.out l.p l.s l.at l.out

abbrev pub decreases-loop-state : goal.decreases-loop-state
decreases-loop-state l = length l.family - l.p
