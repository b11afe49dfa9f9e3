use Rattle.console.specs.Reads.{Skips}
use Rattle.console.proofs.drain.Given as goal

abbrev pub invariant-loop-turns : goal.invariant-loop-turns
invariant-loop-turns g l = Skips (g.R.Read.remaining l.fn.from) (g.R.Read.remaining l.from)

abbrev pub decreases-loop-turns : goal.decreases-loop-turns
decreases-loop-turns g l = l.turns
