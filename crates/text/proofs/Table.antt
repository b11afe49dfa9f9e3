-- The rule of a table: one test over all entries, which is computed, and what it says of each.
-- Assumes nothing.
use mathlib.Core.Path.{subst, sym, ◌∙◌}
use mathlib.Core.Bool.{Bool, true, ◌&&◌}
use mathlib.Core.List.{List, [], ◌∷◌}
use Prim.Native.Nat.{ℕ, zero, suc, ◌+◌, ◌<◌}
use native.Mathlib.Nat.{add-zero, zero-add, add-suc, suc-add, le_of_suc-le-suc, not-suc-le-zero}
use lib.Dec.{T}
use lib.ListN.{length, get_or}
use store.Enc.{and_l, and_r}

-- the test of a place and its entry, at each entry; places are counted from i
abbrev pub every : (ℕ → ℕ → Bool) → ℕ → List ℕ → Bool
every test i [] = true
every test i (x ∷ xs) = test i x && every test (suc i) xs

module _ (test : ℕ → ℕ → Bool) where
  from : (xs : List ℕ) (i : ℕ) → T (every test i xs) → (k : ℕ) → k < length xs → T (test (i + k) (get_or xs k 0))
  from [] i t k h = absurd (not-suc-le-zero h)
  from (x ∷ xs) i t zero h = subst (λ (j : ℕ). T (test j x)) (sym (add-zero i)) (and_l (test i x) (every test (suc i) xs) t)
  from (x ∷ xs) i t (suc k) h =
      subst (λ (j : ℕ). T (test j (get_or xs k 0))) (suc-add i k ∙ sym (add-suc i k))
      (from xs (suc i) (and_r (test i x) (every test (suc i) xs) t) k (le_of_suc-le-suc h))

  pub entry : (xs : List ℕ) → T (every test 0 xs) → (k : ℕ) → k < length xs → T (test k (get_or xs k 0))
  entry xs t k h = subst (λ (j : ℕ). T (test j (get_or xs k 0))) (zero-add k) (from xs 0 t k h)
