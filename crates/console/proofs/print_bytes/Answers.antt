use Rattle.std.proofs.Common.{rules}
use Rattle.console.proofs.Pieces.{wrote_more}
use Rattle.console.proofs.print_bytes.Goals as goal

pub loop-done-preserved : goal.loop-done-preserved
loop-done-preserved g c = (search rules, wrote_more _ _ _ _ _ _ c.loop-done.invariant.1 c.in_ok-n.ensures.bytes)
