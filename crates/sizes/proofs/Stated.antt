-- Refusal 17: the `bits` lines beside the own sizes, row by row.
-- Assumes nothing.
use Prim.Native.Nat.{ℕ, zero, suc, ◌+◌}
use mathlib.Core.Bool.{Bool, true, false, ◌||◌}
use mathlib.Core.List.{List}
use mathlib.Core.Path.{◌≡◌, refl, sym, ap, ◌∙◌}
use borrow.Author.Tests.{eq-eqb, ne_eqb}
use Rattle.definitions.specs.Bytes.{Text}
use Rattle.definitions.specs.Refusals.{same_size, misstated}
use Rattle.definitions.specs.declared.Size.{Size}
use Rattle.tables.specs.Tables.{row_in, rows_from}
use Rattle.schema.specs.Entries.{entries_from}
use Rattle.sizes.specs.Answers.{misstated_row, misstated_rows}
use Rattle.tables.proofs.Walks.{Indexed}

-- ---- one row

same-true : (a b : Size) → a ≡ b → true ≡ same_size a b
same-true a b e = by a ∙ ap (same_size a) e
  where
    by : (a : Size) → true ≡ same_size a a
    by (Size.Static n) = sym (eq-eqb n n refl)
    by Size.Dynamic = refl
    by Size.Unknown = refl

same-false : (a b : Size) → (a ≡ b → ⊥) → false ≡ same_size a b
same-false (Size.Static n) (Size.Static m) h = sym (ne_eqb n m (λ e. h (ap (λ (n : ℕ). Size.Static n) e)))
same-false (Size.Static n) Size.Dynamic h = refl
same-false (Size.Static n) Size.Unknown h = refl
same-false Size.Dynamic (Size.Static m) h = refl
same-false Size.Dynamic Size.Dynamic h = absurd (h refl)
same-false Size.Dynamic Size.Unknown h = refl
same-false Size.Unknown (Size.Static m) h = refl
same-false Size.Unknown Size.Dynamic h = refl
same-false Size.Unknown Size.Unknown h = absurd (h refl)

-- ---- all of them

module _ (rows : List ℕ) where
  pub listed : Indexed (row_in rows) (rows_from rows)
  unfolding rows_from
  listed = record { none = λ i. refl; more = λ i m. refl }

-- the definition looks at no more of an entry than its row
pub misstated-rows : (s : Text) (rows v f : List ℕ) (i m : ℕ) → misstated (entries_from s rows v f i m) ≡ misstated_rows (rows_from rows i m)
unfolding misstated misstated_rows entries_from rows_from
misstated-rows s rows v f i zero = refl
misstated-rows s rows v f i (suc m) = ap (λ (b : Bool). misstated_row (row_in rows i) || b) (misstated-rows s rows v f (i + 1) m)
