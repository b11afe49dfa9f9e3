-- The fields from number k on are number k and those from the next on.
-- Assumes nothing.
use mathlib.Core.List.{List, [], ◌∷◌}
use mathlib.Core.Path.{◌≡◌, refl, ap, ◌∙◌}
use Prim.Native.Nat.{ℕ, zero, suc, ◌+◌, ◌*◌, ◌-◌, ◌<◌, ◌≤◌}
use native.Mathlib.Omega.{arith}
use lib.ListN.{get_or}
use Rattle.definitions.specs.Sizes.{annotate_fields}
use Rattle.definitions.specs.declared.Field.{Field}
use Rattle.tables.specs.Tables.{field_here, fields_from, Tables, tables_of, rows_of, fields_of}
use Rattle.emits.specs.Target.{rest_at, annotated_at}

fields-step : (values fields : List ℕ) (j m : ℕ) → 0 < m
    → fields_from values fields j m ≡ field_here values (get_or fields j 0) ∷ fields_from values fields (j + 1) (m - 1)
unfolding fields_from
fields-step values fields j zero w = absurd (omega arith)
fields-step values fields j (suc m) w =
    ap (λ (k : ℕ). field_here values (get_or fields j 0) ∷ fields_from values fields (j + 1) k) (let z : m ≡ suc m - 1 = omega arith in z)

fields-end : (values fields : List ℕ) (j m : ℕ) → m ≡ 0 → fields_from values fields j m ≡ []
unfolding fields_from
fields-end values fields j zero w = refl
fields-end values fields j (suc m) w = absurd (omega arith)

module _ (s rows values fields : List ℕ) (i n k : ℕ) where
  abbrev tables : Tables
  tables = tables_of s rows values fields

  abbrev from : ℕ → ℕ → List Field
  from j m = field_here values (get_or fields (i * 64 + k) 0) ∷ fields_from values fields j m

  pub rest-step : k < n → rest_at tables i n k ≡ annotated_at tables i n k ∷ rest_at tables i n (k + 1)
  unfolding annotate_fields
  rest-step w =
      ap (annotate_fields s (rows_of tables i) (fields_of tables i n))
      (fields-step values fields (i * 64 + k) (n - k) (omega arith)
      ∙ ap (λ (j : ℕ). from j (n - k - 1)) (let z : i * 64 + k + 1 ≡ i * 64 + (k + 1) = omega arith in z)
      ∙ ap (from (i * 64 + (k + 1))) (let z : n - k - 1 ≡ n - (k + 1) = omega arith in z))

  pub rest_end : n ≤ k → rest_at tables i n k ≡ []
  unfolding annotate_fields
  rest_end w = ap (annotate_fields s (rows_of tables i) (fields_of tables i n)) (fields-end values fields (i * 64 + k) (n - k) (omega arith))
