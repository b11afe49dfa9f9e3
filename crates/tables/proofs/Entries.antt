-- What is read back depends on the numbers of an entry alone: 17 for a field, 9 for a declaration.
-- Assumes nothing.
use Rattle.std.specs.Prelude.{Option}
use Rattle.definitions.specs.declared.Size.{Size}
use Prim.Native.Nat.{ℕ, ◌+◌, ◌*◌, ◌/◌, ◌≤◌, ◌<◌}
use mathlib.Core.List.{List, [], ◌∷◌}
use mathlib.Core.Path.{◌≡◌, refl, sym, ap, ◌∙◌}
use native.Mathlib.Nat.{add-zero}
use native.Mathlib.Omega.{arith}
use lib.ListN.{length, get_or, get_or-eq_default}
use Rattle.definitions.specs.Record.{part_of}
use Rattle.definitions.specs.declared.Condition.{Condition}
use Rattle.definitions.specs.declared.Field.{Field}
use Rattle.definitions.specs.declared.Decl.{Decl}
use Rattle.definitions.specs.declared.Part.{Part}
use Rattle.tables.specs.Words.{desc_of, cond_of, field_of, stated_of, decl_of}
use Rattle.tables.specs.Tables.{field_here, decl_here}

-- the 17 numbers of an entry
entry : (ℕ → ℕ) → List ℕ
entry w =
    w 0 ∷ w 1 ∷ w 2 ∷ w 3 ∷ w 4 ∷ w 5 ∷ w 6 ∷ w 7 ∷ w 8 ∷ w 9 ∷ w 10 ∷ w 11 ∷ w 12 ∷ w 13 ∷ w 14 ∷ w 15 ∷ w 16 ∷ []

entry-same : (w v : ℕ → ℕ) → ((k : ℕ) → k < 17 → w k ≡ v k) → entry w ≡ entry v
unfolding entry
entry-same w v e =
    rw (
      e 0 (omega arith),
      e 1 (omega arith),
      e 2 (omega arith),
      e 3 (omega arith),
      e 4 (omega arith),
      e 5 (omega arith),
      e 6 (omega arith),
      e 7 (omega arith),
      e 8 (omega arith),
      e 9 (omega arith),
      e 10 (omega arith),
      e 11 (omega arith),
      e 12 (omega arith),
      e 13 (omega arith),
      e 14 (omega arith),
      e 15 (omega arith),
      e 16 (omega arith),
    )

of_entry : (t : List ℕ) (a : ℕ) → field_of t a ≡ field_of (entry (λ (k : ℕ). get_or t (a + k) 0)) 0
unfolding entry desc_of cond_of
of_entry t a = refl

module _ (t u : List ℕ) (a b : ℕ) where
  pub field-same : ((k : ℕ) → k < 17 → get_or t (a + k) 0 ≡ get_or u (b + k) 0) → field_of t a ≡ field_of u b
  field-same e =
      of_entry t a ∙ ap (λ (l : List ℕ). field_of l 0) (entry-same (λ (k : ℕ). get_or t (a + k) 0) (λ (k : ℕ). get_or u (b + k) 0) e) ∙ sym (of_entry u b)

  pub decl-same : ((k : ℕ) → k < 9 → get_or t (a + k) 0 ≡ get_or u (b + k) 0) → decl_of t a ≡ decl_of u b
  decl-same e =
      rw (
        sym (ap (λ (x : ℕ). get_or t x 0) (add-zero a)) ∙ e 0 (omega arith) ∙ ap (λ (x : ℕ). get_or u x 0) (add-zero b),
        e 1 (omega arith),
        e 2 (omega arith),
        e 3 (omega arith),
        e 4 (omega arith),
        e 5 (omega arith),
        e 6 (omega arith),
        e 7 (omega arith),
        e 8 (omega arith),
      )

-- ---- outside the table every number is 0

module _ (t : List ℕ) where
  out : (a k : ℕ) → length t ≤ a → get_or t (a + k) 0 ≡ 0
  out a k h = get_or-eq_default t 0 (omega arith)

  pub field_out : (a : ℕ) → length t ≤ a → field_of t (length t) ≡ field_of t a
  field_out a h = field-same t t (length t) a (λ k _. out (length t) k (omega arith) ∙ sym (out a k h))

  pub decl-out : (a : ℕ) → length t ≤ a → decl_of t (length t) ≡ decl_of t a
  decl-out a h = decl-same t t (length t) a (λ k _. out (length t) k (omega arith) ∙ sym (out a k h))

  pub field_past : (at : ℕ) → length t / 17 < at / 16 → {r : Field} → r ≡ field_of t (length t) → r ≡ field_here t at
  unfolding field_here
  field_past at h e = e ∙ field_out (at / 16 * 17) (omega arith)

  pub field-there : (at : ℕ) {r : Field} → r ≡ field_of t (at / 16 * 17) → r ≡ field_here t at
  unfolding field_here
  field-there at e = e

  pub decl-past : (i : ℕ) → length t / 13 < i → {r : Decl} → r ≡ decl_of t (length t) → r ≡ decl_here t i
  unfolding decl_here
  decl-past i h e = e ∙ decl-out (i * 13) (omega arith)

  pub decl-there : (i : ℕ) {r : Decl} → r ≡ decl_of t (i * 13) → r ≡ decl_here t i
  unfolding decl_here
  decl-there i e = e

  -- a part of the entry alone
  pub cond-past : (at : ℕ) → length t / 17 < at / 16 → {r : Option Condition} → r ≡ cond_of t (length t) → r ≡ (field_here t at).cond
  cond-past at h e = e ∙ ap (λ (f : Field). f.cond) (field_past at h refl)

  pub cond-there : (at : ℕ) {r : Option Condition} → r ≡ cond_of t (at / 16 * 17) → r ≡ (field_here t at).cond
  unfolding field_here
  cond-there at e = e

  pub id-past : (i : ℕ) → length t / 13 < i → {r : Part} → r ≡ part_of (get_or t (length t + 1) 0) (get_or t (length t + 2) 0) → r ≡ (decl_here t i).id
  id-past i h e = e ∙ ap (λ (d : Decl). d.id) (decl-past i h refl)

  pub id-there : (i : ℕ) {r : Part} → r ≡ part_of (get_or t (i * 13 + 1) 0) (get_or t (i * 13 + 2) 0) → r ≡ (decl_here t i).id
  unfolding decl_here
  id-there i e = e

  pub bits-past : (i : ℕ) → length t / 13 < i → {r : Option Size} → r ≡ stated_of (get_or t (length t + 7) 0) (get_or t (length t + 8) 0)
      → r ≡ (decl_here t i).bits
  bits-past i h e = e ∙ ap (λ (d : Decl). d.bits) (decl-past i h refl)

  pub bits-there : (i : ℕ) {r : Option Size} → r ≡ stated_of (get_or t (i * 13 + 7) 0) (get_or t (i * 13 + 8) 0) → r ≡ (decl_here t i).bits
  unfolding decl_here
  bits-there i e = e
