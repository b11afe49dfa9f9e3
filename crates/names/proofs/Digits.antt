-- The turns and the ends of the loop over a number (`number_of`).
-- Assumes nothing.
use Rattle.std.specs.Prelude.{Some, None}
use Rattle.definitions.specs.Record.{Read, digits_of, number_of}
use Prim.Native.Nat.{ℕ, ◌+◌, ◌*◌, ◌-◌, ◌≤◌, ◌<◌, ◌^◌}
use mathlib.Core.List.{List}
use mathlib.Core.Bool.{Bool, true, false, not}
use mathlib.Core.Path.{◌≡◌, sym, ◌∙◌}
use native.Mathlib.Numerals.{add-one}
use native.Mathlib.Omega.{arith}
use borrow.Author.Tests.{lt-ltb, le-ltb, eq-eqb, ne_eqb, not-true, not-false}
use lib.ListN.{drop, length, get_or, drop_of_length-le}
use lib.Seq.{drop-cons}
use Rattle.std.specs.Char.{is_ascii_digit}
use Rattle.names.proofs.Bytes.{digit_is}

-- ---- a number

module _ (s : List ℕ) (v p : ℕ) {e : Read ℕ} (inv : digits_of (drop p s) v p ≡ e) where
  pub digits-past : length s ≤ p → None ≡ e
  unfolding digits_of
  digits-past w = rw (drop_of_length-le s w) at inv

  pub digits-end : p < length s → get_or s p 0 ≡ 10 → Some (v, (p + 1)) ≡ e
  unfolding digits_of
  digits-end w h = rw (drop-cons s p 0 w, eq-eqb _ _ h, digits_of) at inv

  module _ (w : p < length s) (n10 : get_or s p 0 ≡ 10 → ⊥) {r : Bool} (q : r ≡ is_ascii_digit (get_or s p 0)) where
    pub digits-other : not r ≡ true → None ≡ e
    unfolding digits_of
    digits-other h = rw (drop-cons s p 0 w, ne_eqb _ _ n10, sym (q ∙ digit_is (get_or s p 0)) ∙ not-true r h, digits_of) at inv

    module _ (y : not r ≡ false) where
      pub digits-zero : v ≡ 0 → None ≡ e
      unfolding digits_of
      digits-zero h = rw (drop-cons s p 0 w, ne_eqb _ _ n10, sym (q ∙ digit_is (get_or s p 0)) ∙ not-false r y, eq-eqb _ _ h, digits_of) at inv

      module _ (z : v ≡ 0 → ⊥) where
        pub digits-large : 2 ^ 64 ≤ v * 10 + (get_or s p 0 - 48) → None ≡ e
        unfolding digits_of
        digits-large h =
            rw (drop-cons s p 0 w, ne_eqb _ _ n10, sym (q ∙ digit_is (get_or s p 0)) ∙ not-false r y, ne_eqb _ _ z, le-ltb (v * 10 + (get_or s p 0 - 48)) (2 ^ 64) h, digits_of) at inv

        module _ (d : ℕ) (k : d ≡ get_or s p 0) where
          pub digits-ten : (v * 10 < 2 ^ 64 → ⊥) → None ≡ e
          digits-ten h = digits-large (omega arith)

          pub digits-over : (v * 10 + (d - 48) < 2 ^ 64 → ⊥) → None ≡ e
          digits-over h = digits-large (omega arith)

          pub digits-turn : v * 10 + (d - 48) < 2 ^ 64 → digits_of (drop (p + 1) s) (v * 10 + (d - 48)) (p + 1) ≡ e
          unfolding digits_of
          digits-turn h = rw (add-one p, k)
              (rw (
                drop-cons s p 0 w,
                ne_eqb _ _ n10,
                sym (q ∙ digit_is (get_or s p 0)) ∙ not-false r y,
                ne_eqb _ _ z,
                lt-ltb (v * 10 + (get_or s p 0 - 48)) (2 ^ 64) (omega arith),
                digits_of,
                add-one p,
              ) at inv)

pub number_past : (s : List ℕ) (p : ℕ) → length s ≤ p → None ≡ number_of (drop p s) p
unfolding number_of
number_past s p w = rw (drop_of_length-le s w)

module _ (s : List ℕ) (p : ℕ) (w : p < length s) {r : Bool} (q : r ≡ is_ascii_digit (get_or s p 0)) where
  pub number-other : not r ≡ true → None ≡ number_of (drop p s) p
  unfolding number_of
  number-other h = rw (drop-cons s p 0 w, sym (q ∙ digit_is (get_or s p 0)) ∙ not-true r h, number_of)

  pub number_digits : (d : ℕ) → not r ≡ false → d ≡ get_or s p 0 → digits_of (drop (p + 1) s) (d - 48) (p + 1) ≡ number_of (drop p s) p
  unfolding number_of
  number_digits d h k = rw (k, add-one p, drop-cons s p 0 w, sym (q ∙ digit_is (get_or s p 0)) ∙ not-false r h, number_of, add-one p)

pub ruleset numbers = (digits-past, digits-end, digits-other, digits-zero, digits-ten, digits-over, number_past, number-other)
