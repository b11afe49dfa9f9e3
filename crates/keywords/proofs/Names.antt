-- A keyword among names: in one of two parts of a list, and none in a list without one in either.
-- Assumes nothing.
use mathlib.Core.Bool.{Bool, true, false, ◌||◌}
use mathlib.Core.List.{List, [], ◌∷◌, ◌++◌}
use mathlib.Core.Path.{◌≡◌, refl, sym, ◌∙◌}
use Prim.Native.Nat.{ℕ}
use native.Mathlib.Omega.{arith}
use Rattle.definitions.specs.Bytes.{Text, part}
use Rattle.definitions.specs.Keywords.{is_keyword}
use Rattle.definitions.specs.Refusals.{any_keyword}
use Rattle.definitions.specs.declared.Part.{Part}

pub keyword-append : (s : Text) (a b : List Part) → any_keyword s (a ++ b) ≡ (any_keyword s a || any_keyword s b)
unfolding any_keyword
keyword-append s [] b = refl
keyword-append s (n ∷ a) b = by (is_keyword (part s n)) (keyword-append s a b)
  where
    by : (k : Bool) → any_keyword s (a ++ b) ≡ (any_keyword s a || any_keyword s b)
        → (k || any_keyword s (a ++ b)) ≡ ((k || any_keyword s a) || any_keyword s b)
    by true e = refl
    by false e = e

pub keyword-neither : (s : Text) (a b : List Part) → any_keyword s (a ++ b) ≡ false → (any_keyword s a ≡ false) × (any_keyword s b ≡ false)
keyword-neither s a b e = by (any_keyword s a) (any_keyword s b) (sym (keyword-append s a b) ∙ e)
  where
    by : (x y : Bool) → (x || y) ≡ false → (x ≡ false) × (y ≡ false)
    by true y h = absurd (let z : ◌≡◌ {A = ℕ} 0 1 = cc in omega arith)
    by false y h = (refl, h)
