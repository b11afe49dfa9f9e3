-- How many digits a number has: at most 64, at most as many as the power of the base that it is below.
-- Assumes nothing.
use mathlib.Core.Bool.{Bool, true, false}
use mathlib.Core.List.{[], ◌∷◌, ◌++◌}
use mathlib.Core.Path.{◌≡◌, refl, ap, ◌∙◌}
use Prim.Native.Nat.{ℕ, zero, suc, ◌*◌, ◌/◌, ◌%◌, ◌^◌, ◌≤◌, ◌<◌}
use native.Mathlib.Nat.{one-mul, pow-zero, pow-suc, one-le-pow, pow-le-pow_right, div-lt_iff_lt-mul}
use native.Mathlib.Omega.{arith}
use lib.Dec.{ltb}
use lib.ListN.{length, length-append}
use borrow.Author.Tests.{ltb-false}
use Rattle.definitions.specs.Bytes.{digit, digits_in, decimal, hexadecimal}
use Rattle.definitions.specs.Blocks.{mask}

-- any number: as many as the fuel
digits-fuel : (base f n : ℕ) → length (digits_in base f n) ≤ f
unfolding digits_in
digits-fuel base zero n = omega arith
digits-fuel base (suc f) n = by (digits-fuel base f (n / base)) (ltb n base)
  where
    by : length (digits_in base f (n / base)) ≤ f → (b : Bool)
        → length {A = ℕ} (elim b [ true ↦ digit n ∷ [] | false ↦ digits_in base f (n / base) ++ (digit (n % base) ∷ []) ]) ≤ suc f
    by h true = omega arith
    by h false = simp length-append (omega arith)

pow-one : (n : ℕ) → n ^ 1 ≡ n
pow-one n = pow-suc n 0 ∙ ap (λ (k : ℕ). k * n) (pow-zero n) ∙ one-mul n

-- a number below a power of the base
digits-below : (base k f n : ℕ) → 0 < base → n < base ^ suc k → length (digits_in base f n) ≤ suc k
unfolding digits_in
digits-below base k zero n z h = omega arith
digits-below base zero (suc f) n z h = by (ltb n base) refl
  where
    by : (b : Bool) → ltb n base ≡ b
        → length {A = ℕ} (elim b [ true ↦ digit n ∷ [] | false ↦ digits_in base f (n / base) ++ (digit (n % base) ∷ []) ]) ≤ 1
    by true e = omega arith
    by false e = absurd (omega (arith, h, pow-one base, ltb-false n base e))
digits-below base (suc k) (suc f) n z h =
    by (digits-below base k f (n / base) z ((div-lt_iff_lt-mul {k = base} {x = n} {y = base ^ suc k} z).1 (omega (arith, h, pow-suc base (suc k))))) (ltb n base)
  where
    by : length (digits_in base f (n / base)) ≤ suc k → (b : Bool)
        → length {A = ℕ} (elim b [ true ↦ digit n ∷ [] | false ↦ digits_in base f (n / base) ++ (digit (n % base) ∷ []) ]) ≤ suc (suc k)
    by g true = omega arith
    by g false = simp length-append (omega arith)

pub decimal-any : (n : ℕ) → length (decimal n) ≤ 64
decimal-any n = digits-fuel 10 64 n

pub hexadecimal-any : (n : ℕ) → length (hexadecimal n) ≤ 66
hexadecimal-any n = omega (arith, digits-fuel 16 64 n)

pub decimal-count : (n : ℕ) → n ≤ 65535 → length (decimal n) ≤ 5
decimal-count n h = digits-below 10 4 64 n (omega arith) (omega arith)

pub decimal-width : (n : ℕ) → n ≤ 64 → length (decimal n) ≤ 2
decimal-width n h = digits-below 10 1 64 n (omega arith) (omega arith)

pub decimal-bytes : (n : ℕ) → n ≤ 64 → length (decimal (n / 8)) ≤ 1
decimal-bytes n h = digits-below 10 0 64 (n / 8) (omega arith) (omega arith)

-- the mask of up to 64 bits
pub mask-short : (w : ℕ) → w ≤ 64 → length (hexadecimal (mask w)) ≤ 18
mask-short w h =
    omega (arith, digits-below 16 15 64 (mask w) (omega arith) (omega (arith, pow-le-pow_right {n = 2} (omega arith) h, one-le-pow w 2 (omega arith))))
