-- Two texts that are the same, by their lengths and from one byte to the next (`same`).
-- Assumes nothing.
use Prim.Native.Nat.{ℕ, suc, ◌+◌, ◌≤◌, ◌<◌}
use mathlib.Core.Bool.{Bool, true, false, ◌&&◌}
use mathlib.Core.List.{List, [], ◌∷◌}
use mathlib.Core.Path.{◌≡◌, refl, ap}
use native.Mathlib.Numerals.{add-one}
use native.Mathlib.Omega.{arith}
use borrow.Author.Tests.{eq-eqb, ne_eqb}
use lib.Dec.{eqb}
use lib.ListN.{length, get_or, drop, drop_of_length-le}
use lib.Seq.{drop-cons}
use Rattle.definitions.specs.Bytes.{same}

pub same-lengths : (a b : List ℕ) → (length a ≡ length b → ⊥) → false ≡ same a b
same-lengths [] [] h = absurd (h refl)
same-lengths [] (y ∷ b) h = refl
same-lengths (x ∷ a) [] h = refl
same-lengths (x ∷ a) (y ∷ b) h = by (eqb x y) (same-lengths a b (λ e. h (ap suc e)))
  where
    by : (t : Bool) → false ≡ same a b → false ≡ (t && same a b)
    by true e = e
    by false e = refl

module _ (a b : List ℕ) (i : ℕ) {e : Bool} (inv : same (drop i a) (drop i b) ≡ e) (long : length a ≡ length b) where
  pub same_end : length a ≤ i → true ≡ e
  same_end h = rw (drop_of_length-le a h, drop_of_length-le b (let z : length b ≤ i = omega arith in z)) at inv

  module _ (w : i < length a) where
    at_b : drop i b ≡ get_or b i 0 ∷ drop (suc i) b
    at_b = drop-cons b i 0 (omega arith)

    pub same-other : (get_or a i 0 ≡ get_or b i 0 → ⊥) → false ≡ e
    same-other h = rw (drop-cons a i 0 w, at_b, ne_eqb _ _ h) at inv

    pub same_turn : get_or a i 0 ≡ get_or b i 0 → same (drop (i + 1) a) (drop (i + 1) b) ≡ e
    same_turn h = rw (add-one i) (rw (drop-cons a i 0 w, at_b, eq-eqb _ _ h) at inv)
