-- The exits of the tests for refusals 3 and 6 (`too_many`, `out_of_range`).
-- Assumes nothing.
use Prim.Native.Nat.{ℕ, ◌+◌, ◌*◌, ◌/◌, ◌≤◌, ◌<◌}
use mathlib.Core.Bool.{Bool, true, false, ◌||◌}
use mathlib.Core.List.{List, []}
use mathlib.Core.Path.{◌≡◌, refl, sym, ap, ◌∙◌}
use native.Mathlib.Omega.{arith}
use borrow.Author.Tests.{lt-ltb, le-ltb, ltb-false}
use lib.Dec.{ltb}
use lib.ListN.{length, get_or}
use Rattle.definitions.specs.Bytes.{any}
use Rattle.definitions.specs.Record.{Declaration}
use Rattle.definitions.specs.Refusals.{too_many, bad_number, bad_width, out_of_range}
use Rattle.tables.specs.Tables.{field_here, count_here, declaration_in}
use Rattle.tables.proofs.FieldKinds.{width_read, names-read}
use Rattle.tables.proofs.Walks.{length-declarations, length_fields, any-declarations-false}
use Rattle.ranges.specs.Ranges.{bare, bad_field, bad_numbers}

pub neither : (a b : Bool) → a || b ≡ false → (a ≡ false) × (b ≡ false)
neither true b e = absurd (let z : ◌≡◌ {A = ℕ} 0 1 = cc in omega arith)
neither false b e = (refl, e)

-- ---- 3

-- a declaration with more than 64 fields
abbrev pub long : Declaration → Bool
long d = ltb 64 (length d.fields)

module _ (c : List ℕ) (n : ℕ) where
  pub many-declarations : 32 < n → ltb 32 n ≡ too_many (bare c n)
  unfolding too_many
  many-declarations h = rw (length-declarations c [] [] 0 n, lt-ltb 32 n h)

  pub many-fields : n ≤ 32 → any long (bare c n) ≡ too_many (bare c n)
  unfolding too_many
  many-fields h = rw (length-declarations c [] [] 0 n, le-ltb 32 n h)

  pub many-here : (k : ℕ) → ltb 64 (count_here c k) ≡ long (declaration_in c [] [] k)
  many-here k = ap (ltb 64) (sym (length_fields [] [] (k * 64) (count_here c k)))

  -- where 3 is not met
  module _ (few : too_many (bare c n) ≡ false) where
    pub few-declarations : n ≤ 32
    unfolding too_many
    few-declarations =
        ltb-false 32 n (sym (ap (ltb 32) (length-declarations c [] [] 0 n)) ∙ (neither (ltb 32 (length (bare c n))) (any long (bare c n)) few).0)

    pub few-index : (i : ℕ) → i < n → i ≤ 32
    few-index i h = let k : n ≤ 32 = few-declarations in omega arith

    pub few-fields : (i : ℕ) → i < n → count_here c i ≤ 64
    unfolding too_many
    few-fields i h =
        ltb-false 64 (count_here c i)
        (sym (ap (ltb 64) (length_fields [] [] (i * 64) (count_here c i)))
        ∙ any-declarations-false long c [] [] n (neither (ltb 32 (length (bare c n))) (any long (bare c n)) few).1 i h)

-- ---- 6

-- a field by the number of its kind
module _ (values : List ℕ) (at : ℕ) where
  module _ {kind : ℕ} (ek : kind ≡ get_or values (at / 16 * 17 + 1) 0) where
    pub here-width : 3 ≤ kind → kind ≤ 8 → {w : ℕ} → w ≡ get_or values (at / 16 * 17 + 4) 0 → {b : Bool} → b ≡ bad_width w
        → b ≡ bad_field (field_here values at)
    here-width h l ew {b} eb =
        let e : b ≡ bad_width (get_or values (at / 16 * 17 + 4) 0) = eb ∙ ap bad_width ew in
        width_read (λ d. b ≡ bad_number d) values at (omega arith) (omega arith) (λ p. e) (λ p. e) (λ p. e) (λ v. e) e (λ p. e)

    pub here-none : 8 < kind → kind ≤ 11 → false ≡ bad_field (field_here values at)
    here-none h l = names-read (λ d. false ≡ bad_number d) values at (omega arith) (omega arith) (λ p. refl) (λ p q. refl) (λ p q. refl)

pub none-outside : (ds : List Declaration) → any bad_numbers ds ≡ out_of_range ds
unfolding out_of_range
none-outside ds = refl
