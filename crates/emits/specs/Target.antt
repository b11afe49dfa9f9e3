-- The fields of the target, by index, as the tables give them: the declaration with the index i, of n fields.
-- Assumes nothing.
use Rattle.std.specs.Prelude.{false, List, ◌≡◌, ℕ, ◌+◌, ◌*◌, ◌-◌, ◌≤◌, get_or}
use Rattle.definitions.specs.Bytes.{any}
use Rattle.definitions.specs.Sizes.{Annotated, annotate_field, annotate_fields, padded_by}
use Rattle.definitions.specs.Refusals.{too_large, large_field, static_sum}
use Rattle.definitions.specs.FieldParser.{Setting}
use Rattle.definitions.specs.declared.Field.{Field}
use Rattle.definitions.specs.declared.Options.{Options}
use Rattle.tables.specs.Tables.{field_here, fields_from, Tables, rows_of, fields_of}

module _ (t : Tables) (i n : ℕ) where
  -- `scope` is the rows before it
  abbrev pub setting_at : Options → Setting
  setting_at o = record { source = t.source; scope = rows_of t i; options = o; fields = fields_of t i n }

  -- from number k on, with their sizes
  abbrev pub rest_at : ℕ → List Annotated
  rest_at k = annotate_fields t.source (rows_of t i) (fields_of t i n) (fields_from t.values t.fields (i * 64 + k) (n - k))

  abbrev pub field_in : ℕ → Field
  field_in k = field_here t.values (get_or t.fields (i * 64 + k) 0)

  -- number k, with its sizes
  abbrev pub annotated_at : ℕ → Annotated
  annotated_at k =
      record {
        field = field_in k;
        field_size = annotate_field t.source (rows_of t i) (fields_of t i n) (field_in k);
        padded_size = padded_by (fields_from t.values t.fields (i * 64 + (k + 1)) (n - (k + 1)));
      }

  -- behind refusals 3 and 7
  pub record Fine : Type 0 where
    pub few : n ≤ 64
    pub sizes : any large_field (rest_at 0) ≡ false
    pub sum : too_large (static_sum (rest_at 0)) ≡ false
