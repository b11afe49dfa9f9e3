use Rattle.std.proofs.Common.{◌-◌, ◌≤◌}
use Rattle.grammar.specs.Load.{load}
use Rattle.load.proofs.Records.{Written}
use Rattle.load.proofs.print_records.Given as goal

abbrev pub invariant-loop : goal.invariant-loop
invariant-loop g l =
    (l.counter ≤ l.count) × Written (g.W.Write.contents l.fn.to) (g.W.Write.contents l.to) (load l.count l.start) (l.count - l.counter) l.state
