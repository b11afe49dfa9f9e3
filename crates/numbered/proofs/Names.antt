-- Two numbers behind `raw_value` are two names: the digits of a number give it back.
-- Assumes nothing.
use mathlib.Core.Bool.{Bool, true, false}
use mathlib.Core.List.{[], ◌∷◌, ◌++◌}
use mathlib.Core.Path.{◌≡◌, refl, sym, ap, ◌∙◌}
use Prim.Native.Nat.{ℕ, zero, suc, ◌+◌, ◌*◌, ◌-◌, ◌/◌, ◌%◌, ◌^◌, ◌≤◌, ◌<◌}
use native.Mathlib.Nat.{pow-zero, pow-suc, pow-le-pow_right, div-lt_iff_lt-mul}
use native.Mathlib.Omega.{arith}
use lib.Dec.{ltb}
use lib.ListN.{drop}
use borrow.Author.Tests.{lt-ltb, ltb-true}
use Rattle.definitions.specs.Bytes.{Text, pick, digit, digits_in}
use Rattle.definitions.specs.Blocks.{raw_name}
use Rattle.definitions.specs.declared.Raw.{Raw}

-- the number that digits give behind a
abbrev value : ℕ → Text → ℕ
value a [] = a
value a (d ∷ t) = value (10 * a + (d - 48)) t

value-append : (a : ℕ) (t u : Text) → value a (t ++ u) ≡ value (value a t) u
value-append a [] u = refl
value-append a (d ∷ t) u = value-append (10 * a + (d - 48)) t u

digit_value : (n : ℕ) → n < 10 → digit n - 48 ≡ n
digit_value n h =
    let e : digit n ≡ 48 + n = ap (λ (b : Bool). pick b (48 + n) (87 + n)) (lt-ltb n 10 h) in
    omega (arith, e)

digits_value : (f n : ℕ) → n < 10 ^ f → value 0 (digits_in 10 f n) ≡ n
unfolding digits_in
digits_value zero n h = omega (arith, h, pow-zero 10)
digits_value (suc f) n h =
    by (digits_value f (n / 10) ((div-lt_iff_lt-mul {k = 10} {x = n} {y = 10 ^ f} (omega arith)).1 (omega (arith, h, pow-suc 10 f)))) (ltb n 10) refl
  where
    by : value 0 (digits_in 10 f (n / 10)) ≡ n / 10 → (b : Bool) → ltb n 10 ≡ b
        → value 0 (elim b as (λ _. Text) [ true ↦ digit n ∷ [] | false ↦ digits_in 10 f (n / 10) ++ (digit (n % 10) ∷ []) ]) ≡ n
    by front true e = omega (arith, digit_value n (ltb-true n 10 e))
    by front false e =
        value-append 0 (digits_in 10 f (n / 10)) (digit (n % 10) ∷ [])
        ∙ ap (λ (v : ℕ). 10 * v + (digit (n % 10) - 48)) front
        ∙ omega (arith, digit_value (n % 10) (omega arith))

-- 64 has two digits
small : (n : ℕ) → n ≤ 64 → n < 10 ^ 64
small n h =
    let some : 0 < 10 = omega arith in
    let two : 2 ≤ 64 = omega arith in
    by (10 ^ 64) (pow-le-pow_right {n = 10} some two)
  where
    by : (p : ℕ) → 10 ^ 2 ≤ p → n < p
    by p k = omega (arith, h, k)

pub names_apart : (j k : ℕ) → j ≤ 64 → k ≤ 64 → raw_name Raw.Numbered j ≡ raw_name Raw.Numbered k → j ≡ k
names_apart j k a b e = sym (digits_value 64 j (small j a)) ∙ ap (λ (t : Text). value 0 (drop 9 t)) e ∙ digits_value 64 k (small k b)
