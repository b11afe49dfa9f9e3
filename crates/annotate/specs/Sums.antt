-- What the code keeps of the fields of a declaration, one field after the other: `any large_field`, `fields_size`, `payloads_size` and `static_sum` at
-- once, with what is over the limit capped.
-- Assumes nothing.
use Rattle.std.specs.Prelude.{Option, Bool, false, ◌||◌, List, [], ◌∷◌, ℕ, ◌+◌, ◌-◌, get_or}
use Rattle.definitions.specs.Bytes.{Text, pick}
use Rattle.definitions.specs.Sizes.{Row, Annotated, is_payload, add_size, outer_size, annotate_field, padded_by, static_width}
use Rattle.definitions.specs.Refusals.{large_size, too_large, bad_maybe}
use Rattle.definitions.specs.declared.Size.{Size}
use Rattle.tables.specs.Tables.{field_here, fields_from}
use Rattle.bits.specs.Capped.{cap, capped}
use Rattle.annotate.specs.declared.FieldSums.{FieldSums}

-- before the first field
abbrev pub no_fields : FieldSums
no_fields = record { large = false; sum = Size.Static 0; payload = Size.Static 0; bits = 0 }

-- one field more, with its `field_size` and `padded_size`
abbrev pub add_field : FieldSums → Bool → Size → Option ℕ → FieldSums
add_field t payload size padded =
    record {
      large = t.large || (large_size size || bad_maybe too_large padded);
      sum = pick payload t.sum (capped (add_size t.sum (outer_size size padded)));
      payload = pick payload (capped size) t.payload;
      bits = cap (t.bits + static_width size);
    }

-- field k of the n whose places the table of 2,048 has from j on
unfoldable pub next_field : Text → List Row → List ℕ → List ℕ → ℕ → ℕ → ℕ → FieldSums → FieldSums
next_field s rows values fields j n k t =
    add_field t (is_payload (field_here values (get_or fields (j + k) 0)).desc)
    (annotate_field s rows (fields_from values fields j n) (field_here values (get_or fields (j + k) 0)))
    (padded_by (fields_from values fields (j + (k + 1)) (n - (k + 1))))

unfoldable pub sum_fields : FieldSums → List Annotated → FieldSums
sum_fields t [] = t
sum_fields t (a ∷ xs) = sum_fields (add_field t (is_payload a.field.desc) a.field_size a.padded_size) xs
