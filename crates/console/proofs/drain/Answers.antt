use Rattle.console.proofs.Pieces.{skips_then}
use Rattle.console.proofs.drain.Goals as goal

pub returns-in_err-drop_some-clause-skips : goal.returns-in_err-drop_some-clause-skips
returns-in_err-drop_some-clause-skips g c = skips_then _ _ _ c.loop-turns.invariant c.drop_some.ensures.skips

pub returns-then-not-branch-clause-skips : goal.returns-then-not-branch-clause-skips
returns-then-not-branch-clause-skips g c = skips_then _ _ _ c.loop-turns.invariant c.drop_some.ensures.skips

pub loop-turns-preserved : goal.loop-turns-preserved
loop-turns-preserved g c = skips_then _ _ _ c.loop-turns.invariant c.drop_some.ensures.skips
