-- Disjunctions of tests.
-- Assumes nothing.
use mathlib.Core.Bool.{Bool, true, false, ◌||◌}
use mathlib.Core.Path.{◌≡◌, refl}
use native.Mathlib.Omega.{arith}
use Prim.Native.Nat.{ℕ}

pub or-none : (x : Bool) → x ≡ x || false
or-none true = refl
or-none false = refl

pub or_assoc : (x y z : Bool) → (x || y) || z ≡ x || (y || z)
or_assoc true y z = refl
or_assoc false y z = refl

pub or_left : (x y : Bool) → x || y ≡ false → x ≡ false
or_left true y e = e
or_left false y e = refl

pub or_right : (x y : Bool) → x || y ≡ false → y ≡ false
or_right true y e = absurd (let v : ◌≡◌ {A = ℕ} 0 1 = cc in omega arith)
or_right false y e = e
