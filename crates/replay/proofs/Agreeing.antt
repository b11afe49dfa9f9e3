-- The tests of a call's answer, one after the other (`agreed`). Assumes nothing.
use Rattle.std.specs.Prelude.{Option, Some, None}
use Prim.Native.Nat.{ℕ, ◌/◌, ◌%◌, ◌^◌}
use mathlib.Core.Bool.{Bool, false}
use mathlib.Core.List.{List}
use mathlib.Core.Path.{◌≡◌, sym, ◌∙◌}
use borrow.Author.Tests.{eq-eqb, ne_eqb}
use lib.ListN.{length, drop}
use Rattle.definitions.specs.Record.{key_at}
use Rattle.replay.specs.Marks.{are_marks, agreed}

module _ (word answer : ℕ) (lines out : List ℕ) {a : ℕ} (ea : a ≡ word / 2 ^ 32) where
  pub other-answer : (a ≡ answer → ⊥) → false ≡ agreed word answer lines out
  unfolding agreed
  other-answer h = rw (sym ea, ne_eqb _ _ h, agreed)

  module _ (ha : a ≡ answer) {n : ℕ} (en : n ≡ word % 2 ^ 32) where
    pub other_length : (n ≡ length lines → ⊥) → false ≡ agreed word answer lines out
    unfolding agreed
    other_length h = rw (sym ea, eq-eqb _ _ ha, sym en, ne_eqb _ _ h, agreed)

    module _ (hn : n ≡ length lines) {f : Option ℕ} (ef : f ≡ key_at out 0 lines) where
      pub other-lines : f ≡ None → false ≡ agreed word answer lines out
      unfolding agreed
      other-lines h = rw (sym ea, eq-eqb _ _ ha, sym en, eq-eqb _ _ hn, agreed, sym ef ∙ h)

      pub same_lines : {p : ℕ} → f ≡ Some p → {r : Bool} → r ≡ are_marks (drop p out) p → r ≡ agreed word answer lines out
      unfolding agreed
      same_lines h k = rw (sym ea, eq-eqb _ _ ha, sym en, eq-eqb _ _ hn, agreed, sym ef ∙ h) k

pub ruleset agreeing = (other-answer, other_length, other-lines, same_lines)
