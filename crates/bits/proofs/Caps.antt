-- What is held as 2 ^ 31 keeps refusal 7 exact: a capped size is large where the size is, and sums of capped sizes are capped sums.
-- Assumes nothing.
use Rattle.std.specs.Prelude.{Option, Some, None}
use Prim.Native.Nat.{ℕ, ◌+◌, ◌≤◌, ◌<◌, ◌^◌, min}
use mathlib.Core.Bool.{Bool, true, false}
use mathlib.Core.Path.{◌≡◌, refl, sym, ap, ◌∙◌}
use native.Mathlib.Omega.{arith}
use borrow.Author.Tests.{lt-ltb, le-ltb, ltb-true, ltb-false}
use lib.Dec.{ltb}
use Rattle.definitions.specs.Bytes.{pick}
use Rattle.definitions.specs.Sizes.{add_size, outer_size, static_width}
use Rattle.definitions.specs.Refusals.{large_size, too_large, bad_maybe}
use Rattle.definitions.specs.declared.Size.{Size}
use Rattle.bits.specs.Capped.{cap, capped, capped_number}

-- ---- a number

pub cap-over : (n : ℕ) → 2147483647 < n → 2147483648 ≡ cap n
unfolding cap
cap-over n h = rw (cap, lt-ltb 2147483647 n h)

pub cap-under : (n : ℕ) → n ≤ 2147483647 → n ≡ cap n
unfolding cap
cap-under n h = rw (cap, le-ltb 2147483647 n h)

-- what holds of a number within the limit, and of 2 ^ 31 where it is over, holds of the capped number
cap-elim : (n : ℕ) (P : ℕ → Type 0) → (n ≤ 2147483647 → P n) → (2147483647 < n → P 2147483648) → P (cap n)
unfolding cap
cap-elim n P f g = by (ltb 2147483647 n) refl
  where
    by : (b : Bool) → ltb 2147483647 n ≡ b → P (pick b 2147483648 n)
    by true e = g (ltb-true 2147483647 n e)
    by false e = f (ltb-false 2147483647 n e)

pub cap-low : (n : ℕ) → cap n ≤ 2147483648
cap-low n = cap-elim n (λ (m : ℕ). m ≤ 2147483648) (λ h. omega arith) (λ h. omega arith)

pub cap-large : (n : ℕ) → too_large (cap n) ≡ too_large n
cap-large n = cap-elim n (λ (m : ℕ). too_large m ≡ too_large n) (λ h. refl) (λ h. sym (lt-ltb 2147483647 n h))

pub cap-again : (n : ℕ) → cap (cap n) ≡ cap n
cap-again n = cap-elim n (λ (m : ℕ). cap m ≡ cap n) (λ h. refl) (λ h. sym (cap-over 2147483648 (omega arith)) ∙ cap-over n h)

pub cap-sum : (a b : ℕ) → cap (cap a + b) ≡ cap (a + b)
cap-sum a b =
    cap-elim a (λ (m : ℕ). cap (m + b) ≡ cap (a + b)) (λ h. refl)
    (λ h. sym (cap-over (2147483648 + b) (omega arith)) ∙ cap-over (a + b) (omega arith))

pub cap-sums : (a b : ℕ) → cap (cap a + cap b) ≡ cap (a + b)
cap-sums a b =
    cap-sum a (cap b)
    ∙ cap-elim b (λ (m : ℕ). cap (a + m) ≡ cap (a + b)) (λ h. refl)
    (λ h. sym (cap-over (a + 2147483648) (omega arith)) ∙ cap-over (a + b) (omega arith))

-- ---- a size

pub capped-low : (z : Size) → static_width (capped z) ≤ 2147483648
capped-low (Size.Static n) = cap-low n
capped-low Size.Dynamic = omega arith
capped-low Size.Unknown = omega arith

pub capped-large : (z : Size) → large_size (capped z) ≡ large_size z
capped-large (Size.Static n) = cap-large n
capped-large Size.Dynamic = refl
capped-large Size.Unknown = refl

pub capped-again : (z : Size) → capped (capped z) ≡ capped z
capped-again (Size.Static n) = ap (λ (n : ℕ). Size.Static n) (cap-again n)
capped-again Size.Dynamic = refl
capped-again Size.Unknown = refl

pub capped-bits : (z : Size) → static_width (capped z) ≡ cap (static_width z)
capped-bits (Size.Static n) = refl
capped-bits Size.Dynamic = cap-under 0 (omega arith)
capped-bits Size.Unknown = cap-under 0 (omega arith)

pub capped-sums : (a b : Size) → capped (add_size (capped a) (capped b)) ≡ capped (add_size a b)
capped-sums (Size.Static x) (Size.Static y) = ap (λ (n : ℕ). Size.Static n) (cap-sums x y)
capped-sums (Size.Static x) Size.Dynamic = refl
capped-sums (Size.Static x) Size.Unknown = refl
capped-sums Size.Dynamic (Size.Static y) = refl
capped-sums Size.Dynamic Size.Dynamic = refl
capped-sums Size.Dynamic Size.Unknown = refl
capped-sums Size.Unknown (Size.Static y) = refl
capped-sums Size.Unknown Size.Dynamic = refl
capped-sums Size.Unknown Size.Unknown = refl

pub capped-sum : (a b : Size) → capped (add_size a (capped b)) ≡ capped (add_size a b)
capped-sum a b =
    sym (capped-sums a (capped b)) ∙ ap (λ (z : Size). capped (add_size (capped a) z)) (capped-again b) ∙ capped-sums a b

pub capped-outer : (z : Size) (p : Option ℕ) → outer_size (capped z) (capped_number p) ≡ capped (outer_size z p)
capped-outer z None = refl
capped-outer z (Some bits) = refl

pub capped-padded : (p : Option ℕ) → bad_maybe too_large (capped_number p) ≡ bad_maybe too_large p
capped-padded None = refl
capped-padded (Some bits) = cap-large bits

pub zero-capped : ◌≡◌ {A = Size} (Size.Static 0) (capped (Size.Static 0))
zero-capped = ap (λ (n : ℕ). Size.Static n) (cap-under 0 (omega arith))

-- within the limit nothing is changed
pub capped-fine : (z : Size) → large_size z ≡ false → capped z ≡ z
capped-fine (Size.Static n) h = ap (λ (n : ℕ). Size.Static n) (sym (cap-under n (ltb-false 2147483647 n h)))
capped-fine Size.Dynamic h = refl
capped-fine Size.Unknown h = refl

pub number-fine : (p : Option ℕ) → bad_maybe too_large p ≡ false → capped_number p ≡ p
number-fine None h = refl
number-fine (Some bits) h = ap (λ (n : ℕ). Some n) (sym (cap-under bits (ltb-false 2147483647 bits h)))

-- ---- sums and products that stop at the largest number of 64 bits

pub cap-saturated : (n : ℕ) {x r : ℕ} → r ≡ cap x → x ≡ min n 18446744073709551615 → r ≡ cap n
cap-saturated n er ex = er ∙ ap cap ex ∙ by (ltb 2147483647 n) refl
  where
    by : (b : Bool) → ltb 2147483647 n ≡ b → cap (min n 18446744073709551615) ≡ cap n
    by true e =
        let h : 2147483647 < n = ltb-true 2147483647 n e in
        sym (cap-over (min n 18446744073709551615) (omega arith)) ∙ cap-over n h
    by false e =
        let h : n ≤ 2147483647 = ltb-false 2147483647 n e in
        ap cap (let z : min n 18446744073709551615 ≡ n = omega arith in z)

module _ (a b : Size) {x y : Size} (ea : x ≡ capped a) (eb : y ≡ capped b) where
  pub capped-fit : static_width x + static_width y < 2 ^ 64
  capped-fit = rw (ea, eb) (omega (arith, capped-low a, capped-low b))

  pub capped-added : {z r : Size} → z ≡ add_size x y → r ≡ capped z → r ≡ capped (add_size a b)
  capped-added ez er =
      er ∙ ap capped ez ∙ ap (λ (x : Size). capped (add_size x y)) ea ∙ ap (λ (y : Size). capped (add_size (capped a) y)) eb ∙ capped-sums a b
