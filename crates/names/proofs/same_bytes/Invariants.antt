-- What the loop of `names::same_bytes` keeps from turn to turn.
-- Assumes nothing.
use Rattle.definitions.specs.Bytes.{same}
use lib.ListN.{drop}
use mathlib.Core.Path.{◌≡◌}
use Rattle.names.proofs.same_bytes.Given as goal

abbrev pub invariant-loop-i : goal.invariant-loop-i
invariant-loop-i l = same (drop l.i l.a) (drop l.i l.b) ≡ same l.a l.b
