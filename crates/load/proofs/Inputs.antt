-- An input of the program `load` that asks for records has at most 17 bytes: ten digits, five digits and two newlines. Assumes nothing.
use Rattle.definitions.specs.Record.{Read, digits_of, number_of, number_at, on_read}
use Rattle.std.proofs.Common.{◌≡◌, ℕ, ◌+◌, ◌*◌, ◌-◌, ◌^◌, ◌<◌, ◌≤◌, ◌==◌, List, [], ◌∷◌, length, drop, Option, None, Some, IfSome, Bool, true, false, zero, suc, nat_lt, inl, inr, arith, refl, sym, ap, ◌∙◌, subst}
use Rattle.std.proofs.lemmas.List.{length-append}
use Rattle.std.proofs.lemmas.Bool.{and_parts, ltb-true, leb-true, eqb-true}
use Rattle.std.proofs.lemmas.Bool.Decides.{leb_tells}
use Rattle.std.proofs.Math.Nat.{pow-suc, pow-le-pow_right, mul-le-mul_right}
use Rattle.std.proofs.Math.Numerals.{add-one}
use Rattle.std.proofs.KnownBytes.{Appends-nil}
use Rattle.std.specs.Io.KnownBytes.{Consumes, Appends}
use Rattle.definitions.specs.Bytes.{Text, is_digit}
use Rattle.grammar.specs.Load.{in_range, asked_by, printed, load_for}
use Rattle.grammar.specs.declared.Load.{Load}

-- 10 ^ j ≤ 10 ^ k - 1 has fewer digits
fewer_digits : (v j k : ℕ) → 10 ^ j ≤ v → v < 10 ^ k → j < k
fewer_digits v j k h f =
    elim (leb_tells k j) [
      | inl x ↦ absurd (omega (arith, h, f, pow-le-pow_right {n = 10} (omega arith) x.1))
      | inr x ↦ x.1
    ]

-- a number of at most k digits, behind `at` and j digits of it, ends in time
abbrev Ends : ℕ → ℕ → ℕ → Read ℕ → Type 0
Ends at j k None = Unit {0}
Ends at j k (Some (n, q)) = n < 10 ^ k → q + j ≤ at + k

one_more : (at j k : ℕ) (r : Read ℕ) → Ends (at + 1) (j + 1) k r → Ends at j k r
one_more at j k None h = tt
one_more at j k (Some (n, q)) h = λ f. let g = h f in omega (arith, g)

-- the number so far has j digits and more, besides the first
digits_end : (s : Text) (v at j k : ℕ) → 10 ^ j ≤ v → Ends at j k (digits_of s v at)
unfolding digits_of
digits_end [] v at j k h = tt
digits_end (x ∷ s) v at j k h =
    by (digits_end s (v * 10 + (x - 48)) (at + 1) (j + 1) k longer) (x == 10) (is_digit x) (v == 0) (nat_lt (v * 10 + (x - 48)) (2 ^ 64))
  where
    longer : 10 ^ (j + 1) ≤ v * 10 + (x - 48)
    longer =
        let p : 10 ^ (j + 1) ≡ 10 ^ j * 10 = ap (λ i. 10 ^ i) (add-one j) ∙ pow-suc 10 j in
        omega (arith, p, mul-le-mul_right 10 h)

    by : Ends (at + 1) (j + 1) k (digits_of s (v * 10 + (x - 48)) (at + 1)) → (a b c d : Bool) → Ends at j k (elim a [
      | true ↦ Some (v, (at + 1))
      | false ↦ elim b [
        | true ↦ elim c [ true ↦ None | false ↦ elim d [ true ↦ digits_of s (v * 10 + (x - 48)) (at + 1) | false ↦ None ] ]
        | false ↦ None
      ]
    ])
    by later true b c d = λ f. let g = fewer_digits v j k h f in omega (arith, g)
    by later false false c d = tt
    by later false true true d = tt
    by later false true false false = tt
    by later false true false true = one_more at j k _ later

-- behind a 0 comes the newline
zero_ends : (s : Text) (at k : ℕ) → 0 < k → Ends at 0 k (digits_of s 0 at)
unfolding digits_of
zero_ends [] at k h = tt
zero_ends (x ∷ s) at k h = by (x == 10) (is_digit x)
  where
    by : (a b : Bool) → Ends at 0 k (elim a [ true ↦ Some (0, (at + 1)) | false ↦ elim b [ true ↦ None | false ↦ None ] ])
    by true b = λ f. omega (arith, h)
    by false true = tt
    by false false = tt

from_first : (s : Text) (v at k : ℕ) → 0 < k → Ends at 0 k (digits_of s v at)
from_first s zero at k h = zero_ends s at k h
from_first s (suc v) at k h = digits_end s (suc v) at 0 k (omega arith)

number_ends : (s : Text) (at k : ℕ) → 0 < k → Ends (at + 1) 0 k (number_of s at)
unfolding number_of
number_ends [] at k h = tt
number_ends (x ∷ s) at k h = by (is_digit x)
  where
    by : (b : Bool) → Ends (at + 1) 0 k (elim b [ true ↦ digits_of s (x - 48) (at + 1) | false ↦ None ])
    by true = from_first s (x - 48) (at + 1) k h
    by false = tt

-- ten digits and five, each with a newline
asked_long : (input : Text) → 17 < length input → asked_by input ≡ None
asked_long input long = first (number_at input 0) (number_ends input 0 10 (omega arith))
  where
    behind : ℕ → Read ℕ → Option Load
    behind start r = on_read r None λ count end. elim (in_range input start count end) [ true ↦ Some (record { start = start; count = count }) | false ↦ None ]

    ranged : (start count end : ℕ) (b : Bool) → in_range input start count end ≡ b → (start < 2 ^ 32 → count ≤ 65535 → end ≤ 17)
        → ◌≡◌ {A = Option Load} (elim b [ true ↦ Some (record { start = start; count = count }) | false ↦ None ]) None
    ranged start count end false e h = refl
    ranged start count end true e h =
        let (a, others) = and_parts _ _ e in
        let (b, c) = and_parts _ _ others in
        let fits = h (ltb-true start (2 ^ 32) a) (leb-true count 65535 b) in
        absurd (omega (arith, long, fits, eqb-true end (length input) c))

    second : (start p : ℕ) (r : Read ℕ) → (start < 10 ^ 10 → p + 0 ≤ 1 + 10) → Ends (p + 1) 0 5 r → behind start r ≡ None
    second start p None h g = refl
    second start p (Some (count, end)) h g =
        ranged start count end _ refl (λ a b. let x = h (omega (arith, a)) in let y = g (omega (arith, b)) in omega (arith, x, y))

    first : (r : Read ℕ) → Ends 1 0 10 r → ◌≡◌ {A = Option Load} (on_read r None (λ start p. behind start (number_at input p))) None
    first None h = refl
    first (Some (start, p)) h = second start p (number_at input p) h (number_ends (drop p input) p 5 (omega arith))

-- such an input, of which 18 bytes and more were read, prints nothing
pub nothing_printed : (held a b : Option (List ℕ)) (s : Text) → Consumes a b (drop 0 s) → 17 < length s → IfSome a (λ input. Appends held held (load_for input))
nothing_printed held None b s p long = tt
nothing_printed held (Some xs) None s p long = absurd p
nothing_printed held (Some xs) (Some ys) s p long =
    let n : length xs ≡ length s + length ys = ap length p ∙ length-append s ys in
    subst (λ l. Appends held held l) (sym (ap printed (asked_long xs (omega (arith, n, long))))) (Appends-nil held)
