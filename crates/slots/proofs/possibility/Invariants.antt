-- What the loop of `slots::possibility` keeps from turn to turn.
-- Assumes nothing.
use mathlib.Core.List.{[]}
use mathlib.Core.Path.{◌≡◌}
use lib.ListN.{get_or, drop}
use Rattle.slots.specs.Pieces.{parted}
use Rattle.slots.proofs.possibility.Given as goal

abbrev pub invariant-loop-p : goal.invariant-loop-p
invariant-loop-p l = get_or (parted 124 (drop l.p l.slot)) l.skip [] ≡ get_or (parted 124 l.slot) l.k []
