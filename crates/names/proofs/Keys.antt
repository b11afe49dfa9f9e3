-- A key stands at a place where the bytes from there on start with it (`key_at`).
-- Assumes nothing.
use Rattle.std.specs.Prelude.{◌≡◌, ℕ, suc, ◌+◌, Bool, true, false, ◌&&◌, List, [], ◌∷◌, length, drop, nat_eq, Option, Some, None, if◌then◌else◌}
use Rattle.std.specs.List.{starts_with}
use mathlib.Core.Path.{refl, sym, ap, ◌∙◌}
use native.Mathlib.Omega.{arith}
use native.Mathlib.Nat.{add-zero}
use lib.Dec.{eqb}
use Rattle.definitions.specs.Record.{key_of, key_at}

key_starts : (ks s : List ℕ) (at : ℕ) → key_of ks s at ≡ (if starts_with nat_eq s ks then Some (at + length ks) else None)
unfolding key_of
key_starts [] s at = ap Some (sym (add-zero at))
key_starts (k ∷ ks) [] at = refl
key_starts (k ∷ ks) (x ∷ s) at = let e : eqb k x ≡ eqb x k = search arith in rw e (by (eqb x k) (key_starts ks s (at + 1)))
  where
    by : (b : Bool) → key_of ks s (at + 1) ≡ (if starts_with nat_eq s ks then Some (at + 1 + length ks) else None)
        → ◌≡◌ {A = Option ℕ} (elim b [ true ↦ key_of ks s (at + 1) | false ↦ None ]) (if b && starts_with nat_eq s ks then Some (at + suc (length ks)) else None)
    by true h = h ∙ ap (λ n. if starts_with nat_eq s ks then Some n else None) (omega arith)
    by false h = refl

module _ (s key : List ℕ) (at : ℕ) {r : List ℕ} (e : r ≡ drop at s) {b : Bool} (q : b ≡ starts_with nat_eq r key) where
  pub key-found : b ≡ true → ◌≡◌ {A = Option ℕ} (Some (at + length key)) (key_at s at key)
  key-found h = rw (key_starts key (drop at s) at, ← e, ← q, h)

  pub key_missed : b ≡ false → ◌≡◌ {A = Option ℕ} None (key_at s at key)
  key_missed h = rw (key_starts key (drop at s) at, ← e, ← q, h)
