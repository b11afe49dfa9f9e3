-- What the loop of `trailing::get_trailing_size` keeps from turn to turn.
-- Assumes nothing.
use Prim.Native.Nat.{◌+◌, ◌*◌, ◌≤◌}
use mathlib.Core.Path.{◌≡◌}
use Rattle.definitions.specs.FieldParser.{trailing_from, get_trailing_size}
use Rattle.emits.specs.Target.{rest_at}
use Rattle.trailing.proofs.get_trailing_size.Given as goal

abbrev pub invariant-loop-j : goal.invariant-loop-j
invariant-loop-j l =
    (trailing_from l.t.options.trailing l.trailing_size (rest_at l.t.tables.now l.t.i l.t.n l.j)
    ≡ get_trailing_size l.t.options.trailing (rest_at l.t.tables.now l.t.i l.t.n (l.k + 1)))
    × (l.trailing_size ≤ l.j * 2147483647)
