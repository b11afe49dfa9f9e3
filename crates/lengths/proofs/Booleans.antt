-- Tests that fail, and cases that cannot be.
-- Assumes nothing.
use Rattle.std.specs.Prelude.{Ok}
use Rattle.definitions.specs.Refusals.{Verdict, refuse_if}
use mathlib.Core.Bool.{Bool, true, false, ◌||◌}
use mathlib.Core.Path.{◌≡◌, refl}
use Prim.Native.Nat.{ℕ}
use native.Mathlib.Omega.{arith}
use Rattle.definitions.specs.declared.Refusal.{Refusal}

-- two constructors that differ are never equal: `cc` finds 0 ≡ 1 from an equation of such
pub impossible {ℓ} : {A : Type ℓ} → ◌≡◌ {A = ℕ} 0 1 → A
impossible e = absurd (omega arith)

pub neither : (a b : Bool) → (a || b) ≡ false → (a ≡ false) × (b ≡ false)
neither true b e = impossible (cc)
neither false b e = (refl, e)

pub refuse-next : (b : Bool) (why : Refusal) (next : Verdict) → refuse_if b why next ≡ (Ok tt) → (b ≡ false) × (next ≡ (Ok tt))
refuse-next true why next e = impossible (cc)
refuse-next false why next e = (refl, e)
