-- Behind refusal 7, for the crates above: no entry that the tables give is over the limit, and no field of it (the premise of `field_size`).
-- Assumes nothing.
use Prim.Native.Nat.{ℕ, zero, suc, ◌+◌, ◌*◌, ◌<◌}
use mathlib.Core.Bool.{false, ◌||◌}
use mathlib.Core.List.{List}
use mathlib.Core.Path.{◌≡◌, ap, ◌∙◌}
use native.Mathlib.Nat.{add-zero}
use native.Mathlib.Omega.{arith}
use lib.ListN.{get_or}
use Rattle.definitions.specs.Bytes.{Text, any}
use Rattle.definitions.specs.Sizes.{Row, annotate_field, annotate_fields, padded_by}
use Rattle.definitions.specs.Refusals.{large_size, too_large, bad_maybe, large_field, large_entry, large_row, static_sum, large}
use Rattle.definitions.specs.declared.Field.{Field}
use Rattle.tables.specs.Tables.{count_here, field_here, fields_from, rows_from}
use Rattle.bits.proofs.Booleans.{or_left, or_right}
use Rattle.schema.specs.Entries.{entry_in, entries_from}

module _ (s : Text) (rows : List Row) (all : List Field) (values fields : List ℕ) where
  fields-fine : (j m : ℕ) → any large_field (annotate_fields s rows all (fields_from values fields j m)) ≡ false → (k : ℕ) → k < m
      → large_size (annotate_field s rows all (field_here values (get_or fields (j + k) 0))) ≡ false
  unfolding annotate_fields fields_from
  fields-fine j zero h k w = absurd (omega arith)
  fields-fine j (suc m) h zero w =
      ap (λ (i : ℕ). large_size (annotate_field s rows all (field_here values (get_or fields i 0)))) (add-zero j)
      ∙ or_left (large_size (annotate_field s rows all (field_here values (get_or fields j 0)))) (bad_maybe too_large (padded_by (fields_from values fields (j + 1) m)))
      (or_left _ (any large_field (annotate_fields s rows all (fields_from values fields (j + 1) m))) h)
  fields-fine j (suc m) h (suc k) w =
      ap (λ (i : ℕ). large_size (annotate_field s rows all (field_here values (get_or fields i 0)))) (let z : j + suc k ≡ j + 1 + k = omega arith in z)
      ∙ fields-fine (j + 1) m
      (or_right (large_size (annotate_field s rows all (field_here values (get_or fields j 0))) || bad_maybe too_large (padded_by (fields_from values fields (j + 1) m)))
      (any large_field (annotate_fields s rows all (fields_from values fields (j + 1) m))) h) k (omega arith)

module _ (s rows v f : List ℕ) where
  entries-fine : (j m : ℕ) → any large_entry (entries_from s rows v f j m) ≡ false → (k : ℕ) → k < m → large_entry (entry_in s rows v f (j + k)) ≡ false
  unfolding entries_from
  entries-fine j zero h k w = absurd (omega arith)
  entries-fine j (suc m) h zero w =
      ap (λ (i : ℕ). large_entry (entry_in s rows v f i)) (add-zero j)
      ∙ or_left (large_entry (entry_in s rows v f j)) (any large_entry (entries_from s rows v f (j + 1) m)) h
  entries-fine j (suc m) h (suc k) w =
      ap (λ (i : ℕ). large_entry (entry_in s rows v f i)) (let z : j + suc k ≡ j + 1 + k = omega arith in z)
      ∙ entries-fine (j + 1) m (or_right (large_entry (entry_in s rows v f j)) (any large_entry (entries_from s rows v f (j + 1) m)) h) k (omega arith)

  module _ (n i : ℕ) (w : i < n) (fine : large (entries_from s rows v f 0 n) ≡ false) where
    pub entry-fine : large_entry (entry_in s rows v f i) ≡ false
    unfolding large
    entry-fine = ap (λ (k : ℕ). large_entry (entry_in s rows v f k)) (let z : i ≡ 0 + i = omega arith in z) ∙ entries-fine 0 n fine i w

    pub field-fine : (k : ℕ) → k < count_here rows i
        → large_size (annotate_field s (rows_from rows 0 i) (fields_from v f (i * 64) (count_here rows i)) (field_here v (get_or f (i * 64 + k) 0))) ≡ false
    field-fine k below =
        fields-fine s (rows_from rows 0 i) (fields_from v f (i * 64) (count_here rows i)) v f (i * 64) (count_here rows i)
        (or_left (any large_field (entry_in s rows v f i).fields) (large_row (entry_in s rows v f i).row)
        (or_left (any large_field (entry_in s rows v f i).fields || large_row (entry_in s rows v f i).row)
        (too_large (static_sum (entry_in s rows v f i).fields)) entry-fine)) k below
