-- One field after the other: each part of `add_field`, and the walk over the fields.
-- Assumes nothing.
use Rattle.std.specs.Prelude.{Option}
use Prim.Native.Nat.{ℕ, ◌+◌, ◌-◌, ◌≤◌, ◌<◌}
use mathlib.Core.Bool.{Bool, ◌||◌}
use mathlib.Core.List.{List}
use mathlib.Core.Path.{◌≡◌, sym, ap, ◌∙◌}
use lib.ListN.{get_or}
use Rattle.definitions.specs.Bytes.{Text, pick}
use Rattle.definitions.specs.Sizes.{Row, is_payload, add_size, outer_size, annotate_field, annotate_fields, padded_by, static_width}
use Rattle.definitions.specs.Refusals.{large_size, too_large, bad_maybe}
use Rattle.definitions.specs.declared.Field.{Field}
use Rattle.definitions.specs.declared.Size.{Size}
use Rattle.tables.specs.Tables.{field_here, fields_from}
use Rattle.bits.specs.Capped.{cap, capped, capped_number}
use Rattle.bits.proofs.Caps.{cap-sums, cap-again, capped-sum, capped-again, capped-bits, capped-large, capped-outer, capped-padded}
use Rattle.tables.proofs.Walks.{fields-end, fields-more}
use Rattle.annotate.specs.Sums.{add_field, next_field, sum_fields}
use Rattle.annotate.specs.declared.FieldSums.{FieldSums}

module _ (t : FieldSums) (b : Bool) (z : Size) (p : Option ℕ) where
  pub field-added : {large : Bool} → large ≡ (t.large || (large_size z || bad_maybe too_large p))
      → {sum : Size} → sum ≡ pick b t.sum (capped (add_size t.sum (outer_size z p)))
      → {payload : Size} → payload ≡ pick b (capped z) t.payload → {bits : ℕ} → bits ≡ cap (t.bits + static_width z)
      → ◌≡◌ {A = FieldSums} (record { large = large; sum = sum; payload = payload; bits = bits }) (add_field t b z p)
  field-added el es ep eb = rw (el, es, ep, eb)

  -- what is capped adds the same
  add-capped : add_field t b (capped z) (capped_number p) ≡ add_field t b z p
  add-capped =
      field-added
      (ap (λ (l : Bool). t.large || (l || bad_maybe too_large (capped_number p))) (capped-large z)
      ∙ ap (λ (l : Bool). t.large || (large_size z || l)) (capped-padded p))
      (ap (λ (o : Size). pick b t.sum (capped (add_size t.sum o))) (capped-outer z p) ∙ ap (pick b t.sum) (capped-sum t.sum (outer_size z p)))
      (ap (λ (z : Size). pick b z t.payload) (capped-again z))
      (ap (λ (n : ℕ). cap (t.bits + n)) (capped-bits z) ∙ sum-capped t.bits (static_width z))
    where
      sum-capped : (a n : ℕ) → cap (a + cap n) ≡ cap (a + n)
      sum-capped a n = sym (cap-sums a (cap n)) ∙ ap (λ (m : ℕ). cap (cap a + m)) (cap-again n) ∙ cap-sums a n

-- ---- the walk

module _ (s : Text) (rows : List Row) (values fields : List ℕ) (j n : ℕ) where
  pub next-added : (k : ℕ) (t : FieldSums) {f : Field} → f ≡ field_here values (get_or fields (j + k) 0)
      → {z : Size} → z ≡ capped (annotate_field s rows (fields_from values fields j n) f)
      → {p : Option ℕ} → p ≡ capped_number (padded_by (fields_from values fields (j + (k + 1)) (n - (k + 1)))) → {b : Bool} → b ≡ is_payload f.desc
      → {u : FieldSums} → u ≡ add_field t b z p → u ≡ next_field s rows values fields j n k t
  unfolding next_field
  next-added k t {f} ef {z} ez {p} ep {b} eb {u} eu =
      eu ∙ ap (λ (b : Bool). add_field t b z p) eb ∙ ap (λ (z : Size). add_field t (is_payload f.desc) z p) ez
      ∙ ap (add_field t (is_payload f.desc) (capped (annotate_field s rows (fields_from values fields j n) f))) ep
      ∙ add-capped t (is_payload f.desc) (annotate_field s rows (fields_from values fields j n) f)
      (padded_by (fields_from values fields (j + (k + 1)) (n - (k + 1))))
      ∙ ap (λ (f : Field). add_field t (is_payload f.desc) (annotate_field s rows (fields_from values fields j n) f)
      (padded_by (fields_from values fields (j + (k + 1)) (n - (k + 1))))) ef

  module _ (k : ℕ) (t : FieldSums) {e : FieldSums}
      (inv : sum_fields t (annotate_fields s rows (fields_from values fields j n) (fields_from values fields (j + k) (n - k))) ≡ e) where
    pub walk_end : n ≤ k → t ≡ e
    unfolding sum_fields annotate_fields
    walk_end h =
        ap (λ (fs : List Field). sum_fields t (annotate_fields s rows (fields_from values fields j n) fs)) (sym (fields-end values fields j n k h)) ∙ inv

    pub walk_turn : k < n → {u : FieldSums} → u ≡ next_field s rows values fields j n k t
        → sum_fields u (annotate_fields s rows (fields_from values fields j n) (fields_from values fields (j + (k + 1)) (n - (k + 1)))) ≡ e
    unfolding sum_fields annotate_fields next_field
    walk_turn h {u} eu =
        ap (λ (u : FieldSums). sum_fields u (annotate_fields s rows (fields_from values fields j n) (fields_from values fields (j + (k + 1)) (n - (k + 1))))) eu
        ∙ ap (λ (fs : List Field). sum_fields t (annotate_fields s rows (fields_from values fields j n) fs)) (sym (fields-more values fields j n k h)) ∙ inv
