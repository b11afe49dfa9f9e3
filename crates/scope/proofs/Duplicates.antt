-- The test for refusal 4 (`duplicate_name`): each declaration against those behind it.
-- Assumes nothing.
use Prim.Native.Nat.{ℕ, zero, suc, ◌+◌, ◌-◌}
use mathlib.Core.Bool.{Bool, ◌||◌}
use mathlib.Core.List.{List, []}
use mathlib.Core.Path.{◌≡◌, refl, ap, ◌∙◌}
use native.Mathlib.Nat.{zero-add}
use native.Mathlib.Omega.{arith}
use Rattle.std.specs.List.{list_any, range_with_len}
use Rattle.definitions.specs.Bytes.{any}
use Rattle.definitions.specs.Refusals.{duplicate_name}
use Rattle.tables.specs.Tables.{decl_here, declarations_from}
use Rattle.ranges.specs.Ranges.{bare}
use Rattle.scope.specs.Scopes.{has_name}

module _ (s rows : List ℕ) (n : ℕ) where
  -- the name of the declaration i among m behind it
  again : ℕ → ℕ → Bool
  again i m = any (has_name s (decl_here rows i).id) (declarations_from rows [] [] (i + 1) m)

  abbrev pub is_twice : ℕ → Bool
  is_twice i = any (has_name s (decl_here rows i).id) (declarations_from rows [] [] (i + 1) (n - (i + 1)))

  from : (i m : ℕ) → i + m ≡ n → list_any is_twice (range_with_len i m) ≡ duplicate_name s (declarations_from rows [] [] i m)
  unfolding duplicate_name declarations_from again
  from i zero e = refl
  from i (suc m) e =
      ap (λ (k : ℕ). again i k || list_any is_twice (range_with_len (i + 1) m)) (let z : n - (i + 1) ≡ m = omega arith in z)
      ∙ ap (λ (b : Bool). again i m || b) (from (i + 1) m (omega arith))

  pub twice-any : list_any is_twice (range_with_len 0 n) ≡ duplicate_name s (bare rows n)
  twice-any = from 0 n (zero-add n)
