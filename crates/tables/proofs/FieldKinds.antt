-- The kind of a field as a number: a field that is read back has the kind whose number its entry has, and is an array from 13 on. So what
-- holds of each kind with such a number holds of the field.
-- Assumes nothing.
use Prim.Native.Nat.{ℕ, ◌+◌, ◌*◌, ◌/◌, ◌≤◌, ◌<◌, min}
use mathlib.Core.Bool.{Bool, true, false}
use mathlib.Core.List.{List}
use mathlib.Core.Path.{◌≡◌, refl, ◌∙◌}
use native.Mathlib.Omega.{arith}
use borrow.Author.Tests.{eqb-true, eqb-false, ltb-true, ltb-false}
use lib.Dec.{ltb, eqb}
use lib.ListN.{get_or}
use Rattle.definitions.specs.Record.{part_of}
use Rattle.definitions.specs.declared.FieldDesc.{FieldDesc}
use Rattle.definitions.specs.declared.Part.{Part}
use Rattle.tables.specs.Words.{desc_words, plain_of, desc_of}
use Rattle.tables.specs.Tables.{field_here}

-- the number that is written for it
abbrev pub kind_of : FieldDesc → ℕ
kind_of d = get_or (desc_words d) 0 0

-- the tests of a number, from the lowest kind on
module _ (P : FieldDesc → Type 0) (kind c : ℕ) (x y : FieldDesc) where
  under : (kind < c → P x) → (c ≤ kind → P y) → P (elim (ltb kind c) [ true ↦ x | false ↦ y ])
  under f g = by (ltb kind c) refl
    where
      by : (b : Bool) → ltb kind c ≡ b → P (elim b [ true ↦ x | false ↦ y ])
      by true e = f (ltb-true kind c e)
      by false e = g (ltb-false kind c e)

  on : c ≤ kind → (kind ≡ c → P x) → (c < kind → P y) → P (elim (eqb kind c) [ true ↦ x | false ↦ y ])
  on h f g = by (eqb kind c) refl
    where
      by : (b : Bool) → eqb kind c ≡ b → P (elim b [ true ↦ x | false ↦ y ])
      by true e = f (eqb-true kind c e)
      by false e = let q : kind ≡ c → ⊥ = eqb-false kind c e in g (omega arith)

plain-kind : (kind : ℕ) (part : Part) (n m : ℕ) → kind_of (plain_of kind part n m) ≡ min kind 9
unfolding plain_of
plain-kind kind part n m =
    let is : FieldDesc → Type 0 = λ d. kind_of d ≡ min kind 9 in
    on is kind 0 _ _ (omega arith) (λ e. omega arith) (λ a.
    on is kind 1 _ _ a (λ e. omega arith) (λ a.
    on is kind 2 _ _ a (λ e. omega arith) (λ a.
    on is kind 3 _ _ a (λ e. omega arith) (λ a.
    on is kind 4 _ _ a (λ e. omega arith) (λ a.
    on is kind 5 _ _ a (λ e. omega arith) (λ a.
    on is kind 6 _ _ a (λ e. omega arith) (λ a.
    on is kind 7 _ _ a (λ e. omega arith) (λ a.
    on is kind 8 _ _ a (λ e. omega arith) (λ a. omega arith)))))))))

pub kind-read : (values : List ℕ) (place : ℕ) → kind_of (field_here values place).desc ≡ min (get_or values (place / 16 * 17 + 1) 0) 13
unfolding field_here desc_of
kind-read values place =
    let w : ℕ = get_or values (place / 16 * 17 + 1) 0 in
    let is : FieldDesc → Type 0 = λ d. kind_of d ≡ min w 13 in
    under is w 10 _ _ (λ h. plain-kind w _ _ _ ∙ omega arith) (λ h.
    on is w 10 _ _ h (λ e. omega arith) (λ a.
    on is w 11 _ _ a (λ e. omega arith) (λ a.
    on is w 12 _ _ a (λ e. omega arith) (λ a. omega arith))))

-- ---- the numbers of a kind

module _ (P : FieldDesc → Type 0) (values : List ℕ) (place : ℕ) where
  abbrev number : ℕ → ℕ
  number k = get_or values (place / 16 * 17 + k) 0

  -- the kinds below 10 have a part, the numbers 2 and 3, and two numbers more
  pub plain-read : (kind : ℕ) → kind < 10 → number 1 ≡ kind → P (plain_of kind (part_of (number 2) (number 3)) (number 4) (number 5))
      → P (field_here values place).desc
  unfolding field_here desc_of
  plain-read kind l e h = under P (number 1) 10 _ _ (λ u. rw e h) (λ u. absurd (omega arith))

  -- the kinds 3 to 8 have a width, which is the number 4
  pub width_read : 3 ≤ number 1 → number 1 ≤ 8
      → ((of : Part) → P (FieldDesc.Size of (number 4)))
      → ((of : Part) → P (FieldDesc.Count of (number 4)))
      → ((of : Part) → P (FieldDesc.ElementSize of (number 4)))
      → ((value : ℕ) → P (FieldDesc.FixedScalar (number 4) value))
      → P (FieldDesc.Reserved (number 4))
      → ((id : Part) → P (FieldDesc.Scalar id (number 4)))
      → P (field_here values place).desc
  unfolding field_here desc_of plain_of
  width_read h l size count element fixed reserved scalar =
      under P (number 1) 10 _ _ (λ u.
      on P (number 1) 0 _ _ (omega arith) (λ e. absurd (omega arith)) (λ a.
      on P (number 1) 1 _ _ a (λ e. absurd (omega arith)) (λ a.
      on P (number 1) 2 _ _ a (λ e. absurd (omega arith)) (λ a.
      on P (number 1) 3 _ _ a (λ e. size _) (λ a.
      on P (number 1) 4 _ _ a (λ e. count _) (λ a.
      on P (number 1) 5 _ _ a (λ e. element _) (λ a.
      on P (number 1) 6 _ _ a (λ e. fixed _) (λ a.
      on P (number 1) 7 _ _ a (λ e. reserved) (λ a.
      on P (number 1) 8 _ _ a (λ e. scalar _) (λ a. absurd (omega arith))))))))))) (λ u. absurd (omega arith))

  -- the kinds 9 to 11 have no number
  pub names-read : 9 ≤ number 1 → number 1 ≤ 11
      → ((id : Part) → P (FieldDesc.Flag id))
      → ((type tag : Part) → P (FieldDesc.FixedEnum type tag))
      → ((id type : Part) → P (FieldDesc.Typedef id type))
      → P (field_here values place).desc
  unfolding field_here desc_of plain_of
  names-read h l flag fixed typedef =
      under P (number 1) 10 _ _ (λ u. let e : number 1 ≡ 9 = omega arith in rw e (flag _)) (λ u.
      on P (number 1) 10 _ _ u (λ e. fixed _ _) (λ a.
      on P (number 1) 11 _ _ a (λ e. typedef _ _) (λ a. absurd (omega arith))))
