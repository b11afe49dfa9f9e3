-- What is tested before any target: in `lower` and in `lower_all` the same.
-- Assumes nothing.
use Rattle.std.specs.Prelude.{Ok, Err}
use Rattle.definitions.specs.Refusals.{Verdict, keyword_name, too_many, duplicate_name, unknown_name, out_of_range, large, ragged, misstated, no_target, refuse_if, verdict}
use mathlib.Core.Bool.{Bool, true, false}
use mathlib.Core.List.{List}
use mathlib.Core.Path.{◌≡◌, refl, ap, ◌∙◌}
use Rattle.definitions.specs.Bytes.{Text}
use Rattle.definitions.specs.Record.{Declaration, RecordRead, record_is, no_record, read_record}
use Rattle.definitions.specs.Sizes.{Schema, new_schema}
use Rattle.definitions.specs.FieldParser.{Outcome, refused}
use Rattle.definitions.specs.Answer.{lower_in, lower_record, answer_read, wrong_length, answer}
use Rattle.definitions.specs.All.{Outcomes, refused_all, lower_each, all_record, all_read, answer_all}
use Rattle.definitions.specs.declared.Head.{Head}
use Rattle.definitions.specs.declared.Refusal.{Refusal}
use Rattle.alike.proofs.Plainly.{answer-of}
use Rattle.alike.proofs.Retargeted.{all_of}
use Rattle.joined.specs.Begins.{early, Begins}

-- ---- 1 and 2

-- 1
wrong-length : (s : Text) → wrong_length s ≡ true → (answer s ≡ refused Refusal.RecordLength) × (answer_all s ≡ refused_all Refusal.RecordLength)
unfolding answer answer_all
wrong-length s w = (
  ap (λ (b : Bool). elim b as (λ _. Outcome) [ true ↦ refused Refusal.RecordLength | false ↦ answer_read s (read_record s) ]) w,
  ap (λ (b : Bool). elim b as (λ _. Outcomes) [ true ↦ refused_all Refusal.RecordLength | false ↦ all_read s (read_record s) ]) w,
)

-- 2
wrong-form : (s : Text) → wrong_length s ≡ false → read_record s ≡ no_record
    → (answer s ≡ refused Refusal.RecordForm) × (answer_all s ≡ refused_all Refusal.RecordForm)
unfolding answer answer_all
wrong-form s w r = (
  ap (λ (b : Bool). elim b as (λ _. Outcome) [ true ↦ refused Refusal.RecordLength | false ↦ answer_read s (read_record s) ]) w ∙ ap (answer_read s) r,
  ap (λ (b : Bool). elim b as (λ _. Outcomes) [ true ↦ refused_all Refusal.RecordLength | false ↦ all_read s (read_record s) ]) w ∙ ap (all_read s) r,
)

-- ---- 3 to 9, 16 and 17

module _ (s : Text) (h : Head) (ds : List Declaration) (schema : Schema) where
  refused-both : (why : Refusal) → verdict s h ds schema ≡ Err why
      → (lower_record s h ds schema ≡ refused why) × (all_record s h ds schema ≡ refused_all why)
  unfolding lower_record all_record
  refused-both why v = (
    ap (λ (w : Verdict). elim w as (λ _. Outcome) [ (Ok tt) ↦ lower_in s h schema | Err y ↦ refused y ]) v,
    ap (λ (w : Verdict). elim w as (λ _. Outcomes) [ (Ok tt) ↦ lower_each s h schema | Err y ↦ refused_all y ]) v,
  )

  abbrev IsEarly : Verdict → Type 0
  IsEarly (Err why) = early why ≡ true
  IsEarly (Ok tt) = Unit {0}

  or-early : (b : Bool) (why : Refusal) (next : Verdict) → early why ≡ true → IsEarly next → IsEarly (refuse_if b why next)
  or-early true why next j k = j
  or-early false why next j k = k

  verdict-early : IsEarly (verdict s h ds schema)
  unfolding verdict
  verdict-early =
      or-early (keyword_name s h ds) Refusal.Keyword _ refl
      (or-early (too_many ds) Refusal.TooMany _ refl
      (or-early (duplicate_name s ds) Refusal.DuplicateName _ refl
      (or-early (unknown_name s ds) Refusal.UnknownName _ refl
      (or-early (out_of_range ds) Refusal.OutOfRange _ refl
      (or-early (large schema) Refusal.TooLarge _ refl
      (or-early (ragged s schema) Refusal.NotWholeBytes _ refl
      (or-early (misstated schema) Refusal.Misstated _ refl
      (or-early (no_target s h schema) Refusal.NoTarget (Ok tt) refl tt))))))))

-- ---- each text

pub both-begin : (s : Text) → Begins s
both-begin s = by (wrong_length s) refl (read_record s) refl
  where
    judged : (h : Head) (ds : List Declaration) → wrong_length s ≡ false → read_record s ≡ record_is h ds
        → (v : Verdict) → verdict s h ds (new_schema s ds) ≡ v → IsEarly s h ds (new_schema s ds) v → Begins s
    judged h ds w r (Ok tt) e k = Begins.passed h ds w r e
    judged h ds w r (Err why) e k =
        let b = refused-both s h ds (new_schema s ds) why e in
        Begins.turned why k (answer-of s h ds w r ∙ b.0) (all_of s h ds w r ∙ b.1)

    by : (b : Bool) → wrong_length s ≡ b → (r : RecordRead) → read_record s ≡ r → Begins s
    by true w r e = let b = wrong-length s w in Begins.turned Refusal.RecordLength refl b.0 b.1
    by false w no_record e = let b = wrong-form s w e in Begins.turned Refusal.RecordForm refl b.0 b.1
    by false w (record_is h ds) e = judged h ds w e (verdict s h ds (new_schema s ds)) refl (verdict-early s h ds (new_schema s ds))
