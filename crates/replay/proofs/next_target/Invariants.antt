use Rattle.std.proofs.Common.{◌≡◌, drop}
use Rattle.replay.specs.Targets.{next_target}
use Rattle.replay.proofs.next_target.Given as goal

abbrev pub invariant-loop-p : goal.invariant-loop-p
invariant-loop-p l = next_target l.rec (drop l.p l.rec) l.p ≡ next_target l.rec (drop l.at l.rec) l.at
