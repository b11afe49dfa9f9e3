-- What the loop of `targets::put_sections` keeps from turn to turn.
-- Assumes nothing.
use Rattle.targets.proofs.Each.{Writing}
use Rattle.targets.proofs.put_sections.Given as goal

abbrev pub invariant-loop-i : goal.invariant-loop-i
invariant-loop-i l = Writing l.t l.options l.n l.initial.w l.w l.i
