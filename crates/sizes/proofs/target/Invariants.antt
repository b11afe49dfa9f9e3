-- What the loop of `sizes::target` keeps from turn to turn.
-- Assumes nothing.
use Rattle.sizes.proofs.Targets.{Looking}
use Rattle.sizes.proofs.target.Given as goal

abbrev pub invariant-loop-i : goal.invariant-loop-i
invariant-loop-i l = Looking l.t.source l.t.rows l.name l.n l.i
