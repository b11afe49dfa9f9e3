-- What the loop of `annotate::sum_fields` keeps from turn to turn.
-- Assumes nothing.
use Prim.Native.Nat.{◌+◌, ◌*◌, ◌-◌}
use mathlib.Core.Path.{◌≡◌}
use Rattle.definitions.specs.Sizes.{annotate_fields}
use Rattle.tables.specs.Tables.{fields_from, rows_from}
use Rattle.annotate.specs.Sums.{sum_fields, no_fields}
use Rattle.annotate.proofs.sum_fields.Given as goal

abbrev pub invariant-loop-k : goal.invariant-loop-k
invariant-loop-k l =
    sum_fields l.sums
    (annotate_fields l.t.source (rows_from l.t.rows 0 l.i) (fields_from l.t.values l.t.fields (l.i * 64) l.n)
    (fields_from l.t.values l.t.fields (l.i * 64 + l.k) (l.n - l.k)))
    ≡ sum_fields no_fields
    (annotate_fields l.t.source (rows_from l.t.rows 0 l.i) (fields_from l.t.values l.t.fields (l.i * 64) l.n)
    (fields_from l.t.values l.t.fields (l.i * 64) l.n))
