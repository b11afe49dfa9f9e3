use Rattle.std.proofs.Common.{rules, refl}
use Rattle.replay.proofs.Targets.{target-here}
use Rattle.replay.proofs.next_target.Goals as goal

pub returns-in-Some : goal.returns-in-Some
returns-in-Some c = target-here _ _ c.loop-p.invariant (search rules) c.in-Some.ensures refl
