-- What the loop of `references::first_count` keeps from turn to turn.
-- Assumes nothing.
use Rattle.std.proofs.Common.{◌≡◌, ◌+◌, ◌-◌, ◌*◌}
use Rattle.tables.specs.Tables.{fields_from}
use Rattle.definitions.specs.Sizes.{first_count}
use Rattle.references.proofs.first_count.Given as goal

abbrev pub invariant-loop-k : goal.invariant-loop-k
invariant-loop-k l =
    first_count l.t.source l.id (fields_from l.t.values l.t.fields (l.i * 64 + l.k) (l.n - l.k))
    ≡ first_count l.t.source l.id (fields_from l.t.values l.t.fields (l.i * 64) l.n)
