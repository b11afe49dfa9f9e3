-- What refusal 7 says of the target's fields from one on: none of them is over the limit, nor is the sum of their static sizes, nor what one counts
-- behind a payload.
-- Assumes nothing.
use Rattle.std.specs.Prelude.{Option, Some, None}
use lib.ListN.{get_or}
use Prim.Native.Nat.{ℕ, zero, suc, ◌+◌, ◌*◌, ◌≤◌, ◌<◌, ◌^◌}
use mathlib.Core.Bool.{Bool, true, false}
use mathlib.Core.List.{List, ◌∷◌}
use mathlib.Core.Path.{◌≡◌, sym, ap, subst, ◌∙◌}
use native.Mathlib.Numerals.{add-one}
use native.Mathlib.Omega.{arith}
use borrow.Author.Tests.{ltb-false}
use Rattle.definitions.specs.Bytes.{any, pick}
use Rattle.definitions.specs.Sizes.{Annotated, annotate_field, outer_size}
use Rattle.definitions.specs.Refusals.{large_size, too_large, bad_maybe, large_field, static_sum}
use Rattle.definitions.specs.FieldParser.{is_array_field, later_size}
use Rattle.definitions.specs.declared.Field.{Field}
use Rattle.definitions.specs.declared.Size.{Size}
use Rattle.definitions.specs.declared.Trailing.{Trailing}
use Rattle.bits.specs.Capped.{capped_number}
use Rattle.bits.proofs.Booleans.{or_left, or_right}
use Rattle.bits.proofs.Caps.{number-fine}
use Rattle.tables.specs.Tables.{field_here, Tables, tables_of, rows_of, fields_of}
use Rattle.emits.specs.Target.{rest_at, annotated_at, Fine}
use Rattle.emits.proofs.Rests.{rest-step}

module _ (s rows values fields : List ℕ) (i n : ℕ) where
  abbrev tables : Tables
  tables = tables_of s rows values fields

  abbrev rest : ℕ → List Annotated
  rest j = rest_at tables i n j

  abbrev here : ℕ → Annotated
  here j = annotated_at tables i n j

  step : (j : ℕ) → j < n → rest j ≡ here j ∷ rest (j + 1)
  step j h = rest-step s rows values fields i n j h

  module _ (fine : Fine tables i n) where
    abbrev Kept : ℕ → Type 0
    Kept j = (any large_field (rest j) ≡ false) × (static_sum (rest j) ≤ 2147483647)

    kept_next : (j : ℕ) → j < n → Kept j → Kept (j + 1)
    unfolding static_sum
    kept_next j h kept = (
      or_right (large_field (here j)) (any large_field (rest (j + 1))) (ap (any large_field) (sym (step j h)) ∙ kept.0),
      omega (arith, ap static_sum (step j h)),
    )

    kept : (j : ℕ) → j ≤ n → Kept j
    kept zero h = (fine.sizes, ltb-false 2147483647 (static_sum (rest 0)) fine.sum)
    kept (suc j) h = subst (λ (j : ℕ). Kept j) (add-one j) (kept_next j (omega arith) (kept j (omega arith)))

    -- all together from one on
    pub sum-fine : (j : ℕ) → j ≤ n → static_sum (rest j) < 2 ^ 31
    sum-fine j h = let z : static_sum (rest j) ≤ 2147483647 = (kept j h).1 in omega (arith, z)

    module _ (j : ℕ) (h : j < n) where
      large-here : large_field (here j) ≡ false
      large-here =
          or_left (large_field (here j)) (any large_field (rest (j + 1))) (ap (any large_field) (sym (step j h)) ∙ (kept j (omega arith)).0)

      -- one of them
      pub size-fine : large_size (here j).field_size ≡ false
      size-fine = or_left (large_size (here j).field_size) (bad_maybe too_large (here j).padded_size) large-here

      pub padding-fine : bad_maybe too_large (here j).padded_size ≡ false
      padding-fine = or_right (large_size (here j).field_size) (bad_maybe too_large (here j).padded_size) large-here

      -- what it counts behind a payload
      pub later-fine : (m : Trailing) → large_size (later_size m (here j)) ≡ false
      unfolding later_size
      later-fine Trailing.Plain = size-fine
      later-fine Trailing.Padded = by (is_array_field (here j).field) (here j).padded_size padding-fine
        where
          by : (b : Bool) (p : Option ℕ) → bad_maybe too_large p ≡ false → large_size (pick b (outer_size (here j).field_size p) (here j).field_size) ≡ false
          by true None e = size-fine
          by true (Some bits) e = e
          by false p e = size-fine

      -- as the tables give it, capped
      pub read-padding : {p : Option ℕ} → p ≡ capped_number (here j).padded_size → p ≡ (here j).padded_size
      read-padding e = e ∙ number-fine (here j).padded_size padding-fine

  -- a field as it is read at its place
  module _ (k : ℕ) {f : Field} (ef : f ≡ field_here values (get_or fields (i * 64 + k) 0)) where
    abbrev size : Field → Size
    size f = annotate_field s (rows_of tables i) (fields_of tables i n) f

    pub read-fine : Fine tables i n → k < n → large_size (size f) ≡ false
    read-fine fine h = ap (λ (f : Field). large_size (size f)) ef ∙ size-fine fine k h

    pub read-size : {z : Size} → z ≡ size f → z ≡ (here k).field_size
    read-size ez = ez ∙ ap size ef
