-- What the loop of `parser::lower_target` keeps from turn to turn.
-- Assumes nothing.
use Rattle.parser.proofs.Drives.{Run}
use Rattle.parser.proofs.lower_target.Given as goal

abbrev pub invariant-loop-k : goal.invariant-loop-k
invariant-loop-k l = Run l.options l.rec l.plan l.n l.initial.w l.w l.k l.t l.c l.kinds
