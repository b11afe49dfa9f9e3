-- The digits of a number, from those of its quotient by the base.
use Prim.Native.Nat.{ℕ, zero, suc, ◌/◌, ◌%◌, ◌≤◌, ◌<◌, ◌^◌}
use mathlib.Core.List.{List, [], ◌∷◌, ◌++◌}
use mathlib.Core.Path.{◌≡◌, sym, ap, ◌∙◌}
use native.Mathlib.Decide.{dec_lt}
use native.Mathlib.Nat.{pow-suc, mul-le-mul_left, div-lt_iff_lt-mul}
use native.Mathlib.Omega.{arith}
use borrow.Author.Tests.{lt-ltb, le-ltb}
use Rattle.definitions.specs.Bytes.{digit, digits, digits_in}

-- the quotient needs one bit less
pub less : (f n base : ℕ) → 2 ≤ base → n < 2 ^ suc f → n / base < 2 ^ f
less f n base two h =
    (div-lt_iff_lt-mul {k = base} {x = n} {y = 2 ^ f} (omega arith)).1 (omega (arith, pow-suc 2 f, h, mul-le-mul_left (2 ^ f) two))

low : (f n base : ℕ) → n < base → digits_in base (suc f) n ≡ digit n ∷ []
unfolding digits_in
low f n base h = rw (lt-ltb n base h, digits_in)

high : (f n base : ℕ) → base ≤ n → digits_in base (suc f) n ≡ digits_in base f (n / base) ++ (digit (n % base) ∷ [])
unfolding digits_in
high f n base h = rw (le-ltb n base h, digits_in)

-- one more step of fuel than there are bits changes nothing
more : (f n base : ℕ) → 2 ≤ base → n < 2 ^ suc f → digits_in base (suc f) n ≡ digits_in base (suc (suc f)) n
more zero n base two h = low zero n base (omega arith) ∙ sym (low 1 n base (omega arith))
more (suc f) n base two h = elim (dec_lt n base) [
  | yes w ↦ low (suc f) n base w ∙ sym (low (suc (suc f)) n base w)
  | no w ↦ high (suc f) n base (omega arith)
      ∙ ap (λ (l : List ℕ). l ++ (digit (n % base) ∷ [])) (more f (n / base) base two (less (suc f) n base two h))
      ∙ sym (high (suc (suc f)) n base (omega arith))
]

pub digits_low : (n base : ℕ) → n < base → digits base n ≡ digit n ∷ []
digits_low n base h = low 63 n base h

pub digits-high : (n base : ℕ) → 2 ≤ base → base ≤ n → n < 2 ^ 64 → digits base n ≡ digits base (n / base) ++ (digit (n % base) ∷ [])
digits-high n base two h k =
    high 63 n base h ∙ ap (λ (l : List ℕ). l ++ (digit (n % base) ∷ [])) (more 62 (n / base) base two (less 63 n base two k))

pub last-digit : (n base d : ℕ) → 2 ≤ base → base ≤ n → n < 2 ^ 64 → d ≡ digit (n % base) → digits base (n / base) ++ (d ∷ []) ≡ digits base n
last-digit n base d two h k e =
    ap (λ (x : ℕ). digits base (n / base) ++ (x ∷ [])) e ∙ sym (digits-high n base two h k)
