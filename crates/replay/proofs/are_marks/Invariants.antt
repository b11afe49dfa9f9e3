use Rattle.std.proofs.Common.{◌≡◌, drop}
use Rattle.replay.specs.Marks.{are_marks}
use Rattle.replay.proofs.are_marks.Given as goal

abbrev pub invariant-loop-i : goal.invariant-loop-i
invariant-loop-i l = are_marks (drop l.i l.out) l.i ≡ are_marks (drop l.from l.out) l.from
