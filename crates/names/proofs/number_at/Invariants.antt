-- What the loop of `names::number_at` keeps from turn to turn.
-- Assumes nothing.
use mathlib.Core.Path.{◌≡◌}
use lib.ListN.{drop}
use Rattle.definitions.specs.Record.{digits_of, number_at}
use Rattle.names.proofs.number_at.Given as goal

abbrev pub invariant-loop-p : goal.invariant-loop-p
invariant-loop-p l = digits_of (drop l.p l.rec) l.v l.p ≡ number_at l.rec l.at
