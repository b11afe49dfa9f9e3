-- The turns and the ends of the loops over a marked buffer (`marks_from`, `are_marks`). Assumes nothing.
use Prim.Native.Nat.{ℕ, zero, suc, ◌+◌, ◌≤◌, ◌<◌}
use mathlib.Core.Bool.{Bool, true, false}
use mathlib.Core.List.{List, append-nil}
use mathlib.Core.Path.{◌≡◌, refl, sym, ap, ◌∙◌}
use native.Mathlib.Nat.{zero-add, add-zero, not-suc-le-zero, le_of_suc-le-suc}
use native.Mathlib.Numerals.{add-one}
use native.Mathlib.Omega.{arith}
use borrow.Author.Tests.{eq-eqb, ne_eqb}
use lib.ListN.{length, drop, get_or, set, drop_of_length-le}
use lib.Seq.{drop-cons, paste, paste-zero, paste-suc, length-paste, take_all}
use Rattle.replay.specs.Marks.{mark_at, marks_from, are_marks}

-- ---- all marked

pub length-marks : (i n : ℕ) → length (marks_from i n) ≡ n
unfolding marks_from
length-marks i zero = refl
length-marks i (suc n) = ap suc (length-marks (i + 1) n)

mark-in : (i n j : ℕ) → j < n → get_or (marks_from i n) j 0 ≡ mark_at (i + j)
unfolding marks_from
mark-in i zero j h = absurd (not-suc-le-zero h)
mark-in i (suc n) zero h = ap mark_at (sym (add-zero i))
mark-in i (suc n) (suc j) h = mark-in (i + 1) n j (le_of_suc-le-suc h) ∙ ap mark_at (omega arith)

-- the first i bytes are marked
pub record Marking (b buf : List ℕ) (i : ℕ) : Type 0 where
  pub within : i ≤ length b
  pub marked : buf ≡ paste b 0 (marks_from 0 (length b)) i
  pub long : length buf ≡ length b

pub marking-start : (b : List ℕ) → Marking b b 0
marking-start b = record { within = omega arith; marked = paste-zero b 0 (marks_from 0 (length b)); long = refl }

module _ (b : List ℕ) {buf : List ℕ} {i : ℕ} (m : Marking b buf i) where
  pub marking-turn : i < length buf → {x : ℕ} → x ≡ mark_at i → Marking b (set buf i x) (i + 1)
  marking-turn w {x} e = record {
    within = omega arith;
    marked = copied;
    long = ap length copied ∙ length-paste b 0 (marks_from 0 (length b)) (i + 1) (omega arith) (omega (arith, length-marks 0 (length b)));
  }
    where
      copied : set buf i x ≡ paste b 0 (marks_from 0 (length b)) (i + 1)
      copied =
          ap (λ (y : ℕ). set buf i y) (e ∙ ap mark_at (sym (zero-add i)) ∙ sym (mark-in 0 (length b) i (omega arith)))
          ∙ ap (λ (l : List ℕ). set l i (get_or (marks_from 0 (length b)) i 0)) m.marked
          ∙ ap (λ (k : ℕ). set (paste b 0 (marks_from 0 (length b)) i) k (get_or (marks_from 0 (length b)) i 0)) (sym (zero-add i))
          ∙ paste-suc b 0 (marks_from 0 (length b)) i 0 (omega arith) (omega (arith, length-marks 0 (length b)))
          ∙ ap (λ (k : ℕ). paste b 0 (marks_from 0 (length b)) k) (sym (add-one i))

  pub marking-end : length buf ≤ i → buf ≡ marks_from 0 (length b)
  marking-end w =
      m.marked
      ∙ rw (take_all i (marks_from 0 (length b)) (omega (arith, length-marks 0 (length b))), drop_of_length-le b {i = 0 + i} (omega arith))
      (append-nil (marks_from 0 (length b)))

-- ---- still marked

module _ (s : List ℕ) (i : ℕ) {e : Bool} (inv : are_marks (drop i s) i ≡ e) where
  pub marks-end : length s ≤ i → true ≡ e
  unfolding are_marks
  marks-end w = rw (drop_of_length-le s w) at inv

  module _ (w : i < length s) {x : ℕ} (k : x ≡ mark_at i) where
    pub marks-other : (get_or s i 0 ≡ x → ⊥) → false ≡ e
    unfolding are_marks
    marks-other h = rw (drop-cons s i 0 w, sym k, ne_eqb _ _ h, are_marks) at inv

    pub marks-turn : get_or s i 0 ≡ x → are_marks (drop (i + 1) s) (i + 1) ≡ e
    unfolding are_marks
    marks-turn h = rw (add-one i) (rw (drop-cons s i 0 w, sym k, eq-eqb _ _ h, are_marks, add-one i) at inv)

pub ruleset marking = (marking-start, marking-turn, marking-end)

pub ruleset marked = (marks-end, marks-other, marks-turn)
