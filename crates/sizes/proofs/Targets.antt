-- Refusal 9: the first declaration that is the target.
-- Assumes nothing.
use Rattle.std.specs.Prelude.{Option, Some, None}
use Prim.Native.Nat.{ℕ, zero, suc, ◌+◌, ◌-◌, ◌≤◌, ◌<◌}
use mathlib.Core.Bool.{Bool, true, false, ◌&&◌, ◌||◌}
use mathlib.Core.List.{List, [], ◌∷◌}
use mathlib.Core.Path.{◌≡◌, refl, sym, ap, ◌∙◌}
use native.Mathlib.Nat.{sub-zero}
use native.Mathlib.Omega.{arith}
use Rattle.definitions.specs.Bytes.{Text, any}
use Rattle.definitions.specs.Record.{on_found, is_found}
use Rattle.definitions.specs.Sizes.{Schema, same_name}
use Rattle.definitions.specs.Refusals.{is_frame, is_target}
use Rattle.definitions.specs.FieldParser.{Outcome, refused}
use Rattle.definitions.specs.Answer.{lower_target, lower_in}
use Rattle.definitions.specs.declared.Head.{Head}
use Rattle.definitions.specs.declared.Part.{Part}
use Rattle.definitions.specs.declared.Refusal.{Refusal}
use Rattle.tables.specs.Tables.{decl_here}
use Rattle.schema.specs.Entries.{entry_in, entries_from}
use Rattle.sizes.specs.Answers.{target_from}
use Rattle.tables.proofs.Walks.{from_end, from_more}
use Rattle.sizes.proofs.WholeBytes.{entries}

-- none of the first i is the target
pub record Looking (s rows : List ℕ) (name : Part) (n i : ℕ) : Type 0 where
  pub small : i ≤ n
  pub left : (v f : List ℕ) → target_from s name i (entries_from s rows v f i (n - i)) ≡ target_from s name 0 (entries_from s rows v f 0 n)

pub looking-start : (s rows : List ℕ) (name : Part) (n : ℕ) → Looking s rows name n 0
looking-start s rows name n = record {
  small = omega arith;
  left = λ v f. ap (λ (m : ℕ). target_from s name 0 (entries_from s rows v f 0 m)) (sub-zero n);
}

module _ (s rows : List ℕ) (name : Part) (n i : ℕ) (l : Looking s rows name n i) where
  pub looking-end : n ≤ i → (v f : List ℕ) → None ≡ target_from s name 0 (entries_from s rows v f 0 n)
  unfolding target_from
  looking-end w v f = ap (target_from s name i) (sym (from_end (entries s rows v f) n i w)) ∙ l.left v f

  module _ (w : i < n) {b : Bool} (eb : b ≡ (same_name s (decl_here rows i).id name && is_frame (decl_here rows i).desc)) where
    -- the test of this entry, and those behind
    split : {t : Bool} → b ≡ t → (v f : List ℕ)
        → ◌≡◌ {A = Option ℕ} (elim t [ true ↦ Some i | false ↦ target_from s name (i + 1) (entries_from s rows v f (i + 1) (n - (i + 1))) ])
        (target_from s name 0 (entries_from s rows v f 0 n))
    unfolding target_from
    split {t} ht v f =
        ap (λ (t : Bool). elim t [ true ↦ Some i | false ↦ target_from s name (i + 1) (entries_from s rows v f (i + 1) (n - (i + 1))) ])
        (sym ht ∙ eb)
        ∙ ap (target_from s name i) (sym (from_more (entries s rows v f) n i w)) ∙ l.left v f

    pub looking-found : b ≡ true → (v f : List ℕ) → Some i ≡ target_from s name 0 (entries_from s rows v f 0 n)
    looking-found hb = split hb

    pub looking-turn : b ≡ false → Looking s rows name n (i + 1)
    looking-turn hb = record { small = omega arith; left = split hb }

-- ---- the definitions by the index

pub found-any : (s : Text) (h : Head) (i : ℕ) (es : Schema) → is_found (target_from s h.target i es) ≡ any (is_target s h) es
unfolding target_from
found-any s h i [] = refl
found-any s h i (e ∷ es) = by (is_target s h e) (found-any s h (i + 1) es)
  where
    by : (b : Bool) → is_found (target_from s h.target (i + 1) es) ≡ any (is_target s h) es
        → is_found (elim b [ true ↦ Some i | false ↦ target_from s h.target (i + 1) es ]) ≡ (b || any (is_target s h) es)
    by true k = refl
    by false k = k

-- the lines are those of the target, by its index
pub lower-target : (s : Text) (h : Head) (rows v f : List ℕ) (i m : ℕ)
    → lower_in s h (entries_from s rows v f i m)
    ≡ on_found (target_from s h.target i (entries_from s rows v f i m)) (refused Refusal.NoTarget) (λ k. lower_target s h (entry_in s rows v f k))
unfolding lower_in target_from entries_from
lower-target s h rows v f i zero = refl
lower-target s h rows v f i (suc m) = by (is_target s h (entry_in s rows v f i)) (lower-target s h rows v f (i + 1) m)
  where
    by : (b : Bool)
        → lower_in s h (entries_from s rows v f (i + 1) m)
        ≡ on_found (target_from s h.target (i + 1) (entries_from s rows v f (i + 1) m)) (refused Refusal.NoTarget) (λ k. lower_target s h (entry_in s rows v f k))
        → ◌≡◌ {A = Outcome} (elim b [ true ↦ lower_target s h (entry_in s rows v f i) | false ↦ lower_in s h (entries_from s rows v f (i + 1) m) ])
        (on_found (elim b [ true ↦ Some i | false ↦ target_from s h.target (i + 1) (entries_from s rows v f (i + 1) m) ])
        (refused Refusal.NoTarget) (λ k. lower_target s h (entry_in s rows v f k)))
    by true k = refl
    by false k = k
