-- The turns and the ends of the loop over a number, and the steps through the line of a case (`numeral_of`, `case_at`, `parts_at`).
-- Assumes nothing.
use Rattle.std.specs.Prelude.{Result, Ok, Err}
use Prim.Native.Nat.{ℕ, ◌+◌, ◌*◌, ◌-◌, ◌≤◌, ◌<◌}
use mathlib.Core.List.{List}
use mathlib.Core.Path.{◌≡◌}
use native.Mathlib.Numerals.{add-one}
use native.Mathlib.Omega.{arith}
use borrow.Author.Tests.{lt-ltb, le-ltb, le-leb, lt-leb, eq-eqb, ne_eqb}
use lib.ListN.{drop, length, get_or, drop_of_length-le}
use lib.Seq.{drop-cons}
use Rattle.definitions.specs.Record.{part_of}
use Rattle.cases.specs.Form.{numeral_of, parts_at}
use Rattle.cases.specs.declared.Broken.{Broken}

-- ---- a number

module _ (s : List ℕ) (stop start v p : ℕ) {e : Result (ℕ × ℕ) Broken} (inv : numeral_of (drop p s) stop start v p ≡ e) where
  pub numeral-cut : length s ≤ p → Err Broken.Cut ≡ e
  unfolding numeral_of
  numeral-cut w = rw (drop_of_length-le s w) at inv

  module _ (w : p < length s) where
    pub numeral-none : get_or s p 0 ≡ stop → p ≡ start → Err Broken.Wrong ≡ e
    unfolding numeral_of
    numeral-none h k = rw (drop-cons s p 0 w, eq-eqb _ _ h, eq-eqb _ _ k, numeral_of) at inv

    pub numeral-end : get_or s p 0 ≡ stop → (p ≡ start → ⊥) → Ok (v, p + 1) ≡ e
    unfolding numeral_of
    numeral-end h k = rw (drop-cons s p 0 w, eq-eqb _ _ h, ne_eqb _ _ k, numeral_of) at inv

    module _ (n : get_or s p 0 ≡ stop → ⊥) where
      pub numeral-below : get_or s p 0 < 48 → Err Broken.Wrong ≡ e
      unfolding numeral_of
      numeral-below h = rw (drop-cons s p 0 w, ne_eqb _ _ n, lt-ltb _ _ h, numeral_of) at inv

      module _ (l : 48 ≤ get_or s p 0) where
        pub numeral-above : 57 < get_or s p 0 → Err Broken.Wrong ≡ e
        unfolding numeral_of
        numeral-above h = rw (drop-cons s p 0 w, ne_eqb _ _ n, le-ltb _ _ l, lt-ltb _ _ h, numeral_of) at inv

        module _ (u : get_or s p 0 ≤ 57) where
          pub numeral-long : 99999999 < v → Err Broken.Wrong ≡ e
          unfolding numeral_of
          numeral-long h = rw (drop-cons s p 0 w, ne_eqb _ _ n, le-ltb _ _ l, le-ltb _ _ u, lt-ltb _ _ h, numeral_of) at inv

          pub numeral-turn : v ≤ 99999999 → {d : ℕ} → d ≡ get_or s p 0 → numeral_of (drop (p + 1) s) stop start (v * 10 + (d - 48)) (p + 1) ≡ e
          unfolding numeral_of
          numeral-turn h k = rw (k, add-one p) (rw (drop-cons s p 0 w, ne_eqb _ _ n, le-ltb _ _ l, le-ltb _ _ u, le-ltb _ _ h, numeral_of, add-one p) at inv)

-- ---- the record and the lines

module _ (s : List ℕ) (at a n l : ℕ) where
  short : length s < at + n + l → Err Broken.Cut ≡ parts_at s at a n l
  unfolding parts_at
  short h = rw (lt-leb (at + n + l) (length s) h, parts_at)

  pub parts-past : length s < at → Err Broken.Cut ≡ parts_at s at a n l
  parts-past h = short (omega arith)

  module _ (w : at ≤ length s) where
    pub parts-short : length s - at < n → Err Broken.Cut ≡ parts_at s at a n l
    parts-short h = short (omega arith)

    module _ (v : n ≤ length s - at) where
      pub parts_cut : length s - (at + n) < l → Err Broken.Cut ≡ parts_at s at a n l
      parts_cut h = short (omega arith)

      pub parts_whole : l ≤ length s - (at + n) → Ok (record { answer = a; rec = part_of at (at + n); lines = part_of (at + n) (at + n + l) }) ≡ parts_at s at a n l
      unfolding parts_at
      parts_whole h = rw (le-leb (at + n + l) (length s) (omega arith), parts_at)

pub ruleset numerals = (numeral-cut, numeral-none, numeral-end, numeral-below, numeral-above, numeral-long, numeral-turn)

pub ruleset parts = (parts-past, parts-short, parts_cut, parts_whole)
