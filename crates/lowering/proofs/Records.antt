-- The reader's answer and what stands behind it come to the record's answer.
-- Assumes nothing.
use Rattle.std.specs.Prelude.{Result, Ok, Err}
use Prim.Native.Nat.{ℕ, ◌*◌, ◌^◌, ◌≤◌}
use mathlib.Core.Path.{◌≡◌, sym, ap, ◌∙◌, subst}
use borrow.Author.Tests.{ltb-false}
use lib.Dec.{eqb, ltb}
use lib.ListN.{length}
use Rattle.definitions.specs.Bytes.{Text}
use Rattle.definitions.specs.Sizes.{Schema, new_schema}
use Rattle.definitions.specs.Refusals.{number, verdict}
use Rattle.definitions.specs.FieldParser.{Outcome, refused}
use Rattle.definitions.specs.Answer.{lower_in, lower_record, answer, Lowered, lowered, lower, word, buffer_after}
use Rattle.definitions.specs.All.{Outcomes, refused_all, lower_each, all_record, answer_all, lowered_all, lower_all}
use Rattle.definitions.specs.declared.Head.{Head}
use Rattle.definitions.specs.declared.Refusal.{Refusal}
use Rattle.lengths.proofs.Longest.{longest}
use Rattle.bits.proofs.Booleans.{or_right}
use Rattle.tables.specs.Tables.{Tables}
use Rattle.places.specs.Places.{given}
use Rattle.record.specs.Reader.{OfRecord}
use Rattle.record.proofs.Agree.{Whole}
use Rattle.record.proofs.Answered.{Passed, answer-refused, all-refused, reading-passed, answer-passed, all-passed, verdict-passed}
use Rattle.sizes.specs.Answers.{check_sizes, sizes_verdict}
use Rattle.sizes.proofs.Verdicts.{sizes-verdict}
use Rattle.lowering.specs.Steps.{Gives, Answers, Short, Few, lower_sized, all_sized, sized_for, lower_for}
use Rattle.lowering.specs.declared.Wanted.{Wanted}
use Rattle.lowering.proofs.Passes.{refuses-all, refuses-each}

-- 7 to 9 are the rest of `verdict`
module _ (s : Text) (h : Head) (n : ℕ) (t : Tables) (p : Passed s h n t) where
  abbrev schema : Schema
  schema = new_schema s (given t n)

  same-verdict : verdict s h (given t n) schema ≡ sizes_verdict (check_sizes s h schema)
  same-verdict = verdict-passed p schema ∙ sym (sizes-verdict s h schema)

  sized-record : lower_sized s h schema ≡ answer s
  unfolding lower_sized lower_record
  sized-record = by (check_sizes s h schema) same-verdict ∙ sym (answer-passed p)
    where
      by : (x : Result ℕ Refusal) → verdict s h (given t n) schema ≡ sizes_verdict x
          → ◌≡◌ {A = Outcome} (elim x [ Ok i ↦ lower_in s h schema | Err why ↦ refused why ]) (lower_record s h (given t n) schema)
      by (Ok i) e = rw (e, lower_record)
      by (Err why) e = rw (e, lower_record)

  sized-all : all_sized s h schema ≡ answer_all s
  unfolding all_sized all_record
  sized-all = by (check_sizes s h schema) same-verdict ∙ sym (all-passed p)
    where
      by : (x : Result ℕ Refusal) → verdict s h (given t n) schema ≡ sizes_verdict x
          → ◌≡◌ {A = Outcomes} (elim x [ Ok i ↦ lower_each s h schema | Err why ↦ refused_all why ]) (all_record s h (given t n) schema)
      by (Ok i) e = rw (e, all_record)
      by (Err why) e = rw (e, all_record)

  sized-for : (wanted : Wanted) (room : ℕ) → sized_for wanted room s h schema ≡ lower_for wanted s room
  unfolding sized_for lower_for
  sized-for Wanted.Target room = ap (lowered room) sized-record
  sized-for Wanted.All room = ap (lowered_all room) sized-all

module _ {s : Text} {t u : Tables} {x : Result (Head × ℕ) Refusal} (k : OfRecord s t x u) where
  pub read-refused : (wanted : Wanted) → {why : Refusal} → x ≡ Err why → {out : Text} {r : ℕ} → r ≡ number why * 2 ^ 32
      → Gives (lower_for wanted s (length out)) out r out
  unfolding lower_for
  read-refused wanted {why} hx {out} {r} e = by wanted
    where
      by : (w : Wanted) → Gives (lower_for w s (length out)) out r out
      by Wanted.Target = subst (λ (o : Outcome). Answers o out r out) (sym (answer-refused s why (sym k.answer ∙ hx))) (refuses-all why out e)
      by Wanted.All =
          subst (λ (o : Outcomes). Gives (lowered_all (length out) o) out r out) (sym (all-refused s why (sym k.answer ∙ hx))) (refuses-each why out e)

  module _ (w : Whole s t) {h : Head} {n : ℕ} (hx : x ≡ Ok (h, n)) where
    passes : Passed s h n u
    passes = subst (λ (v : Tables). Passed s h n v) (sym k.tables) (reading-passed s t w h n (sym k.answer ∙ hx))

    -- 1 and 3 are not met, and the record's lines are short
    pub read-requires : (length s ≤ 16384) × (Few u.rows n × Short (lower_sized s h (new_schema s (given u n))))
    read-requires = (
      ltb-false 16384 (length s) (or_right (eqb (length s) 0) (ltb 16384 (length s)) passes.right-length),
      (record { declarations = passes.few; fields = passes.short }, subst Short (sym (sized-record s h n u passes)) (longest s)),
    )

    pub read-answers : (wanted : Wanted) {out left : Text} {r : ℕ} → Gives (sized_for wanted (length out) s h (new_schema s (given u n))) out r left
        → Gives (lower_for wanted s (length out)) out r left
    read-answers wanted {out} {left} {r} a = subst (λ (l : Lowered). Gives l out r left) (sized-for s h n u passes wanted (length out)) a

-- ---- `lower` and `lower_all`

pub gives-target : (s : Text) {out left : Text} {r : ℕ} → Gives (lower_for Wanted.Target s (length out)) out r left
    → (r ≡ word (lower s (length out))) × (left ≡ buffer_after (lower s (length out)) out)
unfolding lower_for
gives-target s g = (g.number_is, g.buffer_is)

pub gives_all : (s : Text) {out left : Text} {r : ℕ} → Gives (lower_for Wanted.All s (length out)) out r left
    → (r ≡ word (lower_all s (length out))) × (left ≡ buffer_after (lower_all s (length out)) out)
unfolding lower_for
gives_all s g = (g.number_is, g.buffer_is)
