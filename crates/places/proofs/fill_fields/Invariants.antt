-- What the loop of `places::fill_fields` keeps from turn to turn.
-- Assumes nothing.
use Rattle.places.proofs.Filling.{Left}
use Rattle.places.proofs.fill_fields.Given as goal

abbrev pub invariant-loop-n : goal.invariant-loop-n
invariant-loop-n l = Left l.rec l.at l.kept l.initial.values l.initial.fields l.values l.fields l.base l.n l.p l.met
