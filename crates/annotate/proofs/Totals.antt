-- The sums are those of the definitions: `any large_field`, `fields_size`, `payloads_size` and `static_sum`, capped.
-- Assumes nothing.
use Prim.Native.Nat.{ℕ, ◌+◌}
use mathlib.Core.Bool.{Bool, true, false, ◌||◌}
use mathlib.Core.List.{List, [], ◌∷◌}
use mathlib.Core.Path.{◌≡◌, refl, sym, ap, ◌∙◌}
use native.Mathlib.Nat.{add_assoc, add-zero, zero-add}
use native.Mathlib.Omega.{arith}
use Rattle.definitions.specs.Bytes.{pick, any}
use Rattle.definitions.specs.Sizes.{Annotated, is_payload, add_size, outer_size, fields_size, payloads_size, static_width}
use Rattle.definitions.specs.Refusals.{large_field, static_sum}
use Rattle.definitions.specs.declared.Size.{Size}
use Rattle.bits.specs.Capped.{cap, capped}
use Rattle.bits.proofs.Booleans.{or-none, or_assoc}
use Rattle.bits.proofs.Caps.{zero-capped, cap-sum, cap-under, capped-again, capped-sums}
use Rattle.annotate.specs.Sums.{add_field, sum_fields, no_fields}
use Rattle.annotate.specs.declared.FieldSums.{FieldSums}

abbrev next : FieldSums → Annotated → FieldSums
next t a = add_field t (is_payload a.field.desc) a.field_size a.padded_size

large-from : (t : FieldSums) (xs : List Annotated) → (sum_fields t xs).large ≡ (t.large || any large_field xs)
unfolding sum_fields
large-from t [] = or-none t.large
large-from t (a ∷ xs) = large-from (next t a) xs ∙ or_assoc t.large (large_field a) (any large_field xs)

left-capped : (z o : Size) → capped (add_size (capped z) o) ≡ capped (add_size z o)
left-capped z o = sym (capped-sums (capped z) o) ∙ ap (λ (z : Size). capped (add_size z (capped o))) (capped-again z) ∙ capped-sums z o

-- a capped sum goes on as the sum does
sum-capped : (z : Size) (xs : List Annotated) → capped (fields_size (capped z) xs) ≡ capped (fields_size z xs)
unfolding fields_size
sum-capped z [] = capped-again z
sum-capped z (a ∷ xs) =
    by (is_payload a.field.desc) (sum-capped z xs) (sum-capped (add_size (capped z) (outer_size a.field_size a.padded_size)) xs)
    (sum-capped (add_size z (outer_size a.field_size a.padded_size)) xs)
  where
    by : (b : Bool) → capped (fields_size (capped z) xs) ≡ capped (fields_size z xs)
        → capped (fields_size (capped (add_size (capped z) (outer_size a.field_size a.padded_size))) xs)
        ≡ capped (fields_size (add_size (capped z) (outer_size a.field_size a.padded_size)) xs)
        → capped (fields_size (capped (add_size z (outer_size a.field_size a.padded_size))) xs)
        ≡ capped (fields_size (add_size z (outer_size a.field_size a.padded_size)) xs)
        → capped (fields_size (pick b (capped z) (add_size (capped z) (outer_size a.field_size a.padded_size))) xs)
        ≡ capped (fields_size (pick b z (add_size z (outer_size a.field_size a.padded_size))) xs)
    by true same left right = same
    by false same left right =
        sym left ∙ ap (λ (z : Size). capped (fields_size z xs)) (left-capped z (outer_size a.field_size a.padded_size)) ∙ right

sum-from : (t : FieldSums) → capped t.sum ≡ t.sum → (xs : List Annotated) → (sum_fields t xs).sum ≡ capped (fields_size t.sum xs)
unfolding sum_fields fields_size
sum-from t h [] = sym h
sum-from t h (a ∷ xs) = sum-from (next t a) (still (is_payload a.field.desc)) xs ∙ by (is_payload a.field.desc)
  where
    still : (b : Bool) → capped (pick b t.sum (capped (add_size t.sum (outer_size a.field_size a.padded_size))))
        ≡ pick b t.sum (capped (add_size t.sum (outer_size a.field_size a.padded_size)))
    still true = h
    still false = capped-again (add_size t.sum (outer_size a.field_size a.padded_size))

    by : (b : Bool) → capped (fields_size (pick b t.sum (capped (add_size t.sum (outer_size a.field_size a.padded_size)))) xs)
        ≡ capped (fields_size (pick b t.sum (add_size t.sum (outer_size a.field_size a.padded_size))) xs)
    by true = refl
    by false = sum-capped (add_size t.sum (outer_size a.field_size a.padded_size)) xs

payload-from : (t : FieldSums) (last : Size) → t.payload ≡ capped last → (xs : List Annotated) → (sum_fields t xs).payload ≡ capped (payloads_size last xs)
unfolding sum_fields payloads_size
payload-from t last h [] = h
payload-from t last h (a ∷ xs) =
    payload-from (next t a) (pick (is_payload a.field.desc) a.field_size last) (by (is_payload a.field.desc)) xs
  where
    by : (b : Bool) → pick b (capped a.field_size) t.payload ≡ capped (pick b a.field_size last)
    by true = refl
    by false = h

bits-from : (t : FieldSums) → cap t.bits ≡ t.bits → (xs : List Annotated) → (sum_fields t xs).bits ≡ cap (t.bits + static_sum xs)
unfolding sum_fields static_sum
bits-from t h [] = sym (ap cap (add-zero t.bits) ∙ h)
bits-from t h (a ∷ xs) =
    bits-from (next t a) (again (t.bits + static_width a.field_size)) xs
    ∙ cap-sum (t.bits + static_width a.field_size) (static_sum xs)
    ∙ ap cap (add_assoc t.bits (static_width a.field_size) (static_sum xs))
  where
    again : (n : ℕ) → cap (cap n) ≡ cap n
    again n = ap cap (sym (add-zero (cap n))) ∙ cap-sum n 0 ∙ ap cap (add-zero n)

module _ (xs : List Annotated) where
  pub sums-large : (sum_fields no_fields xs).large ≡ any large_field xs
  sums-large = large-from no_fields xs

  pub sums-sum : (sum_fields no_fields xs).sum ≡ capped (fields_size (Size.Static 0) xs)
  sums-sum = sum-from no_fields (sym zero-capped) xs

  pub sums-payload : (sum_fields no_fields xs).payload ≡ capped (payloads_size (Size.Static 0) xs)
  sums-payload = payload-from no_fields (Size.Static 0) zero-capped xs

  pub sums-bits : (sum_fields no_fields xs).bits ≡ cap (static_sum xs)
  sums-bits = bits-from no_fields (sym (cap-under 0 (omega arith))) xs ∙ ap cap (zero-add (static_sum xs))
