-- What the loop of `planner::plan_target` keeps from turn to turn.
-- Assumes nothing.
use Rattle.planner.proofs.Turns.{Filled}
use Rattle.planner.proofs.plan_target.Given as goal

abbrev pub invariant-loop-k : goal.invariant-loop-k
invariant-loop-k l = Filled l.t.tables.now.source l.t.tables.now.rows l.t.tables.now.values l.t.tables.now.fields l.t.i l.t.n l.t.options l.plan l.later l.k
