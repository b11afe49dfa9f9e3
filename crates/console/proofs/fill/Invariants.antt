use Rattle.std.proofs.Common.{length, ◌-◌, ◌≡◌, take, drop, ◌≤◌}
use Rattle.std.specs.Io.KnownBytes.{Consumes}
use Rattle.console.proofs.fill.Given as goal

abbrev pub invariant-loop-end : goal.invariant-loop-end
invariant-loop-end g l =
    (l.at ≤ l.end)
    × (take l.at l.buf ≡ take l.at l.fn.buf)
    × Consumes (g.R.Read.remaining l.fn.from) (g.R.Read.remaining l.from) (drop l.at (take l.end l.buf))

abbrev pub decreases-loop-end : goal.decreases-loop-end
decreases-loop-end g l = length l.initial.buf - l.end
