-- What the loop of `places::fill` keeps from turn to turn.
-- Assumes nothing.
use Rattle.places.proofs.Filling.{Reading}
use Rattle.places.proofs.fill.Given as goal

abbrev pub invariant-loop-i : goal.invariant-loop-i
invariant-loop-i l = Reading l.rec l.at l.kept l.initial.rows l.initial.values l.initial.fields l.rows l.values l.fields l.p l.i l.met
