-- The shift and the mask are the field's bits of the octets, one by one.
-- Assumes nothing.
use mathlib.Core.Path.{◌≡◌, refl, sym, ap, ap₂, ◌∙◌}
use mathlib.Core.List.{List, [], ◌∷◌, reverse_aux}
use Prim.Native.Nat.{ℕ, zero, suc, ◌+◌, ◌*◌, ◌/◌, ◌%◌, ◌^◌, ◌<◌}
use native.Mathlib.Nat.{div-div-eq-div-mul, mod-one, zero-div, add_comm}
use native.Mathlib.Omega.{arith}
use lib.ListN.{get_or}
use lib.Pow.{pow-add, mod-pow-add, shr-shr}
use Rattle.definitions.specs.declared.EndiannessValue.{EndiannessValue}
use Rattle.meaning.specs.Machine.{little_of, big_from, value_of}
use Rattle.meaning.specs.Rule.{octet_bit, lowest_first, bits_at, Octets, field_value}

-- ---- one bit

-- the bits of all octets but the first
next : (b R j : ℕ) → b < 256 → (b + 256 * R) / 2 ^ (8 + j) ≡ R / 2 ^ j
next b R j h =
    ap (λ (p : ℕ). (b + 256 * R) / p) (pow-add 2 8 j)
    ∙ sym (div-div-eq-div-mul (b + 256 * R) 256 (2 ^ j))
    ∙ ap (λ (q : ℕ). q / 2 ^ j) (omega arith)

bit : (os : List ℕ) → Octets os → (j : ℕ) → little_of os / 2 ^ j % 2 ≡ octet_bit os j
bit [] h j = simp zero-div
bit (b ∷ bs) h zero = omega arith
bit (b ∷ bs) h (suc zero) = omega arith
bit (b ∷ bs) h (suc (suc zero)) = omega arith
bit (b ∷ bs) h (suc (suc (suc zero))) = omega arith
bit (b ∷ bs) h (suc (suc (suc (suc zero)))) = omega arith
bit (b ∷ bs) h (suc (suc (suc (suc (suc zero))))) = omega arith
bit (b ∷ bs) h (suc (suc (suc (suc (suc (suc zero)))))) = omega arith
bit (b ∷ bs) h (suc (suc (suc (suc (suc (suc (suc zero))))))) = omega arith
bit (b ∷ bs) h (suc (suc (suc (suc (suc (suc (suc (suc j)))))))) =
    let J : ℕ = suc (suc (suc (suc (suc (suc (suc (suc j))))))) in
    let e : J ≡ 8 + j = omega arith in
    let q : suc (j / 8) ≡ J / 8 = omega arith in
    let r : j % 8 ≡ J % 8 = omega arith in
    ap (λ (m : ℕ). (b + 256 * little_of bs) / 2 ^ m % 2) e
    ∙ ap (λ (q : ℕ). q % 2) (next b (little_of bs) j h.0)
    ∙ bit bs h.1 j
    ∙ ap₂ (λ (u v : ℕ). get_or (b ∷ bs) u 0 / 2 ^ v % 2) q r

-- ---- so many bits

bits : (os : List ℕ) → Octets os → (w s : ℕ) → little_of os / 2 ^ s % 2 ^ w ≡ bits_at os s w
bits os h zero s = mod-one (little_of os / 2 ^ s)
bits os h (suc w) s =
    let n : ℕ = little_of os / 2 ^ s in
    let g : s + 1 ≡ suc s = omega arith in
    let e : n / 2 ^ 1 ≡ little_of os / 2 ^ suc s = shr-shr (little_of os) s 1 ∙ ap (λ (m : ℕ). little_of os / 2 ^ m) g in
    let f : suc w ≡ w + 1 = omega arith in
    ap (λ (m : ℕ). n % 2 ^ m) f
    ∙ mod-pow-add n w 1
    ∙ omega (arith, bit os h s, ap (λ (q : ℕ). q % 2 ^ w) e, bits os h w (suc s))

-- ---- the two orders

turned : (os r : List ℕ) → big_from (little_of r) os ≡ little_of (reverse_aux os r)
turned [] r = refl
turned (b ∷ os) r = ap (λ (a : ℕ). big_from a os) (add_comm (256 * little_of r) b) ∙ turned os (b ∷ r)

pub value : (o : EndiannessValue) (os : List ℕ) → value_of o os ≡ little_of (lowest_first o os)
value EndiannessValue.LittleEndian os = refl
value EndiannessValue.BigEndian os = turned os []

octets-turned : (os r : List ℕ) → Octets os → Octets r → Octets (reverse_aux os r)
octets-turned [] r h k = k
octets-turned (b ∷ os) r h k = octets-turned os (b ∷ r) h.1 (h.0, k)

pub lowest-octets : (o : EndiannessValue) (os : List ℕ) → Octets os → Octets (lowest_first o os)
lowest-octets EndiannessValue.LittleEndian os h = h
lowest-octets EndiannessValue.BigEndian os h = octets-turned os [] h tt

-- the number read, shifted and cut, is the field's value by the rule
pub field-bits : (o : EndiannessValue) (os : List ℕ) → Octets os → (s w : ℕ) → value_of o os / 2 ^ s % 2 ^ w ≡ field_value o os s w
field-bits o os h s w = ap (λ (v : ℕ). v / 2 ^ s % 2 ^ w) (value o os) ∙ bits (lowest_first o os) (lowest-octets o os h) w s
