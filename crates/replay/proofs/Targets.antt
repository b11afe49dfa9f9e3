-- The search for the targets of a record, and what the answers of single calls say (`next_target`, `target_answer`, `is_early`). Assumes nothing.
use Rattle.std.specs.Prelude.{Some, None}
use Rattle.definitions.specs.Record.{Read}
use Prim.Native.Nat.{ℕ, ◌+◌, ◌/◌, ◌%◌, ◌^◌, ◌≤◌, ◌<◌}
use mathlib.Core.Bool.{true, false}
use mathlib.Core.List.{List, ◌++◌}
use mathlib.Core.Path.{◌≡◌, sym, ◌∙◌}
use native.Mathlib.Numerals.{add-one}
use borrow.Author.Tests.{lt-ltb, le-ltb, eq-eqb, ne_eqb}
use lib.Dec.{ltb}
use lib.ListN.{length, drop, drop_of_length-le}
use lib.Seq.{drop-cons}
use Rattle.text.specs.Put.{Put}
use Rattle.text.proofs.Puts.{like}
use Rattle.definitions.specs.declared.Part.{Part}
use Rattle.replay.specs.Targets.{target_at, next_target, target_answer, is_early}

-- ---- the next target

module _ (s : List ℕ) (p : ℕ) {e : Read Part} (inv : next_target s (drop p s) p ≡ e) where
  pub targets-end : length s ≤ p → None ≡ e
  unfolding next_target
  targets-end w = rw (drop_of_length-le s w) at inv

  module _ (w : p < length s) {r : Read Part} (k : r ≡ target_at s p) where
    pub target-here : {name : Part} {q : ℕ} → r ≡ Some (name, q) → Some (name, q) ≡ e
    unfolding next_target
    target-here h = rw (drop-cons s p 0 w, next_target, sym k ∙ h) at inv

    pub target-later : r ≡ None → next_target s (drop (p + 1) s) (p + 1) ≡ e
    unfolding next_target
    target-later h = rw (add-one p) (rw (drop-cons s p 0 w, next_target, sym k ∙ h, add-one p) at inv)

-- ---- a record that asks for another

-- what is written are the three parts
pub three-parts : {l k a b c x y z : List ℕ} {i r : ℕ} → Put l i (a ++ (b ++ c)) r k → a ≡ x → b ≡ y → c ≡ z → Put l i (x ++ (y ++ z)) r k
three-parts p e f g = like (cc) p

-- ---- answers

module _ (word : ℕ) {a : ℕ} (ea : a ≡ word / 2 ^ 32) where
  pub answer-refused : (a ≡ 0 → ⊥) → a ≡ target_answer word
  unfolding target_answer
  answer-refused h = rw (sym ea, ne_eqb _ _ h, target_answer) ea

  module _ (ha : a ≡ 0) {n : ℕ} (en : n ≡ word % 2 ^ 32) where
    pub answer-long : 8192 < n → 19 ≡ target_answer word
    unfolding target_answer
    answer-long h = rw (sym ea, eq-eqb _ _ ha, sym en, lt-ltb 8192 n h, target_answer)

    pub answer-short : n ≤ 8192 → 0 ≡ target_answer word
    unfolding target_answer
    answer-short h = rw (sym ea, eq-eqb _ _ ha, sym en, le-ltb 8192 n h, target_answer)

pub ruleset answers = (answer-refused, answer-long, answer-short)

module _ (answer : ℕ) where
  pub early-none : answer ≡ 0 → false ≡ is_early answer
  unfolding is_early
  early-none h = rw (is_early, eq-eqb _ _ h)

  module _ (z : answer ≡ 0 → ⊥) where
    pub early-first : answer < 10 → true ≡ is_early answer
    unfolding is_early
    early-first h = rw (is_early, ne_eqb _ _ z, lt-ltb answer 10 h)

    pub early-last : 10 ≤ answer → ltb 15 answer ≡ is_early answer
    unfolding is_early
    early-last h = rw (is_early, ne_eqb _ _ z, le-ltb answer 10 h)

pub ruleset early = (early-none, early-first, early-last)

pub ruleset targets = (targets-end, target-here, target-later)

pub ruleset asks = (three-parts)
