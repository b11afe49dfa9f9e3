-- What field k of the target comes to where it is no bit field, on an octet boundary, by the tables.
-- Assumes nothing.
use Rattle.std.specs.Prelude.{ℕ, ◌+◌}
use Rattle.definitions.specs.declared.Options.{Options}
use Rattle.tables.specs.Tables.{Tables, rows_of, fields_of}
use Rattle.emits.specs.Target.{annotated_at, rest_at}
use Rattle.emits.specs.declared.EmitAt.{EmitAt}
use Rattle.fields.specs.Values.{unchecked_at}

abbrev pub parsed_at : Tables → ℕ → ℕ → ℕ → Options → EmitAt
parsed_at t i n k options = unchecked_at t.source (rows_of t i) (fields_of t i n) options (annotated_at t i n k) (rest_at t i n (k + 1))
