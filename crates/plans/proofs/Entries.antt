-- The entries of a plan, one after the other.
-- Assumes nothing.
use mathlib.Core.List.{List, [], ◌∷◌}
use mathlib.Core.Path.{◌≡◌, refl, ap}
use Prim.Native.Nat.{ℕ, zero, suc, ◌+◌, ◌-◌, ◌≤◌, ◌<◌}
use native.Mathlib.Omega.{arith}
use Rattle.definitions.specs.Bytes.{Text}
use Rattle.definitions.specs.declared.Options.{Options}
use Rattle.definitions.specs.declared.Part.{Part}
use Rattle.plans.specs.Planned.{Planned, bits_ahead}
use Rattle.plans.specs.Plans.{entry_at, planned_in, plans_from, run_by, run_at, width_by, widths_at}
use Rattle.plans.specs.declared.PlanAt.{PlanAt}

-- so many are left, and one fewer behind
one_less : (n k : ℕ) → k < n → n - k ≡ suc (n - (k + 1))
one_less n k h = omega arith

none_left : (n k : ℕ) → n ≤ k → n - k ≡ 0
none_left n k h = omega arith

module _ (o : Options) (s : Text) (bits : Part → ℕ) (plan : List PlanAt) where
  pub plans-step : (n k : ℕ) → k < n
      → plans_from o s bits plan k (n - k) ≡ planned_in o s bits (entry_at plan k) ∷ plans_from o s bits plan (k + 1) (n - (k + 1))
  unfolding plans_from
  plans-step n k h = ap (plans_from o s bits plan k) (one_less n k h)

  pub plans-end : (n k : ℕ) → n ≤ k → plans_from o s bits plan k (n - k) ≡ []
  unfolding plans_from
  plans-end n k h = ap (plans_from o s bits plan k) (none_left n k h)

  ahead-by : (x : PlanAt) (l : List Planned) (m : ℕ) → bits_ahead l ≡ m → bits_ahead (planned_in o s bits x ∷ l) ≡ run_by x m
  unfolding bits_ahead
  ahead-by (PlanAt.Bit width later kind) l m e = ap (λ (b : ℕ). width + b) e
  ahead-by (PlanAt.Other must emit) l m e = refl

  -- the bits ahead, by the code's numbers
  pub ahead-is : (k m : ℕ) → bits_ahead (plans_from o s bits plan k m) ≡ run_at plan k m
  unfolding plans_from run_at bits_ahead
  ahead-is k zero = refl
  ahead-is k (suc m) = ahead-by (entry_at plan k) (plans_from o s bits plan (k + 1) m) (run_at plan (k + 1) m) (ahead-is (k + 1) m)

module _ (plan : List PlanAt) where
  pub widths-step : (n k : ℕ) → k < n → widths_at plan k (n - k) ≡ width_by (entry_at plan k) + widths_at plan (k + 1) (n - (k + 1))
  unfolding widths_at
  widths-step n k h = ap (widths_at plan k) (one_less n k h)

  below_by : (x : PlanAt) (a b : ℕ) → a ≤ b → run_by x a ≤ width_by x + b
  below_by (PlanAt.Bit width later kind) a b h = omega arith
  below_by (PlanAt.Other must emit) a b h = omega arith

  -- the bits of a run are among all
  pub run-below : (k m : ℕ) → run_at plan k m ≤ widths_at plan k m
  unfolding run_at widths_at
  run-below k zero = omega arith
  run-below k (suc m) = below_by (entry_at plan k) (run_at plan (k + 1) m) (widths_at plan (k + 1) m) (run-below (k + 1) m)
