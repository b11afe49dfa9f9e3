-- What the loop of `verdicts::target_verdict` keeps from turn to turn.
-- Assumes nothing.
use Rattle.verdicts.proofs.Verdicts.{Counting}
use Rattle.verdicts.proofs.target_verdict.Given as goal

abbrev pub invariant-loop-k : goal.invariant-loop-k
invariant-loop-k l = Counting l.plan l.n l.k l.t
