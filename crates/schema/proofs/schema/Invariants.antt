-- What the loop of `schema::schema` keeps from turn to turn.
-- Assumes nothing.
use Rattle.schema.proofs.Passing.{Going}
use Rattle.schema.proofs.schema.Given as goal

abbrev pub invariant-loop-i : goal.invariant-loop-i
invariant-loop-i l = Going l.rec l.initial.rows l.values l.fields l.n l.rows l.i
