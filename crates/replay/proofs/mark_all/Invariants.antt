use Rattle.replay.proofs.Marks.{Marking}
use Rattle.replay.proofs.mark_all.Given as goal

abbrev pub invariant-loop-i : goal.invariant-loop-i
invariant-loop-i l = Marking l.fn.out l.out l.i
