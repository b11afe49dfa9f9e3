-- The two passes over the target's plan, or over all targets: what the first one says of the lines' length, and what the second one leaves, comes to the
-- answer for what is told; and that is the answer for the outcome of the target's fields, or of all targets.
-- Assumes nothing.
use Rattle.std.specs.Prelude.{Result, Ok, Err}
use Rattle.definitions.specs.Refusals.{Verdict, number}
use Prim.Native.Nat.{ℕ, ◌*◌, ◌^◌, ◌≤◌, ◌<◌}
use mathlib.Core.List.{List, [], ◌++◌}
use mathlib.Core.Path.{◌≡◌, refl, sym, ap, ◌∙◌, subst}
use native.Mathlib.Nat.{zero-add}
use native.Mathlib.Omega.{arith}
use borrow.Author.Tests.{le-leb, lt-leb}
use lib.ListN.{length, drop}
use lib.Seq.{sets-eq}
use Rattle.definitions.specs.Bytes.{Text}
use Rattle.definitions.specs.Sizes.{Schema, Annotated, annotate_fields}
use Rattle.definitions.specs.Lines.{render}
use Rattle.definitions.specs.Blocks.{program}
use Rattle.definitions.specs.FieldParser.{Setting, Outcome, refused, accepted, check_code, size_backing, parse_all, lower_fields}
use Rattle.definitions.specs.Answer.{turned_back, lowered, fitted}
use Rattle.definitions.specs.Answer.{Lowered as Answered}
use Rattle.definitions.specs.All.{Outcomes, refused_all, accepted_all, lower_each, lowered_all}
use Rattle.definitions.specs.declared.Head.{Head}
use Rattle.definitions.specs.declared.Options.{Options}
use Rattle.definitions.specs.declared.Part.{Part}
use Rattle.definitions.specs.declared.Refusal.{Refusal}
use Rattle.lengths.specs.Shares.{most_bytes}
use Rattle.text.specs.Put.{Put}
use Rattle.text.specs.declared.Writer.{Writer}
use Rattle.stream.specs.Stream.{Result as Streamed, refuses, writes, rendered, fresh}
use Rattle.tables.specs.Tables.{fields_from, Tables, tables_of, fields_of}
use Rattle.emits.specs.Target.{setting_at, rest_at, Fine}
use Rattle.plans.specs.Planned.{Planned}
use Rattle.plans.specs.Told.{Told, tell, result_by, result_of}
use Rattle.plans.specs.Plans.{plans_from}
use Rattle.plans.specs.declared.PlanAt.{PlanAt}
use Rattle.plans.proofs.Tells.{told}
use Rattle.planner.specs.Entries.{Entries}
use Rattle.planner.proofs.Stands.{is-plan}
use Rattle.parser.specs.Driver.{Tells}
use Rattle.targets.specs.Told.{tell_each, rendered_all, verdict_of, SectionsTold}
use Rattle.targets.proofs.Agree.{each-told}
use Rattle.lowering.specs.Steps.{word_of, Gives, Answers, lowered_by, AnswersTold, ToldFits, Short}

-- a refusal: no byte is changed
pub refuses-all : (why : Refusal) (out : Text) {r : ℕ} → r ≡ number why * 2 ^ 32 → Answers (refused why) out r out
unfolding lowered
refuses-all why out e = record { number_is = omega (arith, e); buffer_is = refl }

pub refuses-each : (why : Refusal) (out : Text) {r : ℕ} → r ≡ number why * 2 ^ 32 → Gives (lowered_all (length out) (refused_all why)) out r out
unfolding lowered_all
refuses-each why out e = record { number_is = omega (arith, e); buffer_is = refl }

-- ---- what is told

module _ (d : Told) where
  pub told-refused : {why : Refusal} → d.verdict ≡ Err why → {out : Text} {r : ℕ} → r ≡ number why * 2 ^ 32 → AnswersTold d out r out
  told-refused said e = record { number_is = rw (said) (omega (arith, e)); buffer_is = rw (said) }

  module _ (said : d.verdict ≡ Ok tt) where
    told-long : {out : Text} → length out < length d.lines → {r : ℕ} → r ≡ number Refusal.NoRoom * 2 ^ 32 → AnswersTold d out r out
    unfolding fitted
    told-long {out} long e = record {
      number_is = rw (said, fitted, lt-leb (length d.lines) (length out) long) (omega (arith, e));
      buffer_is = rw (said, fitted, lt-leb (length d.lines) (length out) long);
    }

    told-written : {out : Text} → length d.lines ≤ length out → {at : ℕ} {left : Text} → Put out 0 d.lines at left → AnswersTold d out at left
    unfolding fitted
    told-written {out} short put = record {
      number_is = rw (said, fitted, le-leb (length d.lines) (length out) short) (omega (arith, short, put.next, put.room));
      buffer_is =
          rw (said, fitted, le-leb (length d.lines) (length out) short)
          (put.written ∙ sets-eq d.lines out 0 (omega (arith, short)) ∙ ap (λ (k : ℕ). d.lines ++ drop k out) (zero-add (length d.lines)));
    }

-- the number of an error
pub of-error : {x : Result ℕ Refusal} {why : Refusal} → x ≡ Err why → word_of x ≡ number why * 2 ^ 32
of-error e = ap word_of e

-- two passes come to one verdict
other-verdict : {v : Verdict} {why : Refusal} → v ≡ Ok tt → v ≡ Err why → {A : Type 0} → A
other-verdict e f = absurd (let z : Ok tt ≡ Err _ = sym e ∙ f in let k : ◌≡◌ {A = ℕ} 0 1 = cc in omega arith)

-- ---- by the first of two passes, into a buffer of no consequence

module _ (d : Told) {u v : Writer} (start : u.at ≡ 0) {x : Verdict} (st : Tells d u v x) where
  pub pass-refused : {why : Refusal} → x ≡ Err why → {out : Text} {r : ℕ} → r ≡ number why * 2 ^ 32 → AnswersTold d out r out
  pass-refused h e = told-refused d (sym st.verdict_is ∙ h) e

  module _ (h : x ≡ Ok tt) where
    said : d.verdict ≡ Ok tt
    said = sym st.verdict_is ∙ h

    pub pass-no-room : {out : Text} → length out < v.at → {r : ℕ} → r ≡ number Refusal.NoRoom * 2 ^ 32 → AnswersTold d out r out
    pass-no-room w e = told-long d said (omega (arith, w, st.wrote.put.next, start)) e

    -- the second one
    module _ {out : Text} (w : v.at ≤ length out) {p q : Writer} (is_out : p.out.now ≡ out) (front : p.at ≡ 0) {y : Verdict} (su : Tells d p q y) where
      put : Put out 0 d.lines q.at q.out.now
      put =
          subst (λ (b : Text). Put b 0 d.lines q.at q.out.now) is_out (subst (λ (k : ℕ). Put p.out.now k d.lines q.at q.out.now) front su.wrote.put)

      pub pass-written : {left : Text} → left ≡ q.out.now → AnswersTold d out q.at left
      pass-written e =
          subst (AnswersTold d out q.at) (sym e) (told-written d said (omega (arith, w, st.wrote.put.next, start, put.room)) put)

      pub pass-again : {why : Refusal} → y ≡ Err why → {A : Type 0} → A
      pass-again e = other-verdict said (sym su.verdict_is ∙ e)

-- the same of all sections
module _ (d : Told) {buf after : Text} {x : Result ℕ Refusal} (st : SectionsTold d buf x after) where
  pub sections-refused : {why : Refusal} → x ≡ Err why → {out : Text} {r : ℕ} → r ≡ number why * 2 ^ 32 → AnswersTold d out r out
  sections-refused h e = told-refused d (sym st.verdict_is ∙ ap verdict_of h) e

  module _ {whole : ℕ} (h : x ≡ Ok whole) where
    all-said : d.verdict ≡ Ok tt
    all-said = sym st.verdict_is ∙ ap verdict_of h

    pub sections-no-room : {out : Text} → length out < whole → {r : ℕ} → r ≡ number Refusal.NoRoom * 2 ^ 32 → AnswersTold d out r out
    sections-no-room w e = told-long d all-said (omega (arith, w, (st.wrote h).next)) e

    pub sections-written : {out : Text} → whole ≤ length out → {y : Result ℕ Refusal} {left : Text} → SectionsTold d out y left
        → AnswersTold d out (word_of y) left
    sections-written {out} w {y} {left} su = by y refl
      where
        by : (z : Result ℕ Refusal) → y ≡ z → AnswersTold d out (word_of y) left
        by (Ok at) e =
            subst (λ (k : ℕ). AnswersTold d out k left) (sym (ap word_of e))
            (told-written d all-said (omega (arith, w, (st.wrote h).next, (su.wrote e).room)) (su.wrote e))
        by (Err why) e = other-verdict all-said (sym su.verdict_is ∙ ap verdict_of e)

-- ---- by one pass, behind the verdict

module _ (d : Told) {v : Verdict} (ev : v ≡ d.verdict) where
  pub once-refused : {why : Refusal} → v ≡ Err why → {out : Text} {r : ℕ} → r ≡ number why * 2 ^ 32 → AnswersTold d out r out
  once-refused hv e = told-refused d (sym ev ∙ hv) e

  module _ (hv : v ≡ Ok tt) {p q : Writer} (front : p.at ≡ 0) {y : Verdict} (su : Tells d p q y) where
    pub once-written : {out : Text} → p.out.now ≡ out → ToldFits (length out) d → {left : Text} → left ≡ q.out.now → AnswersTold d out q.at left
    once-written {out} is_out fits e =
        subst (AnswersTold d out q.at) (sym e) (told-written d (sym ev ∙ hv) (fits (sym ev ∙ hv))
        (subst (λ (b : Text). Put b 0 d.lines q.at q.out.now) is_out (subst (λ (k : ℕ). Put p.out.now k d.lines q.at q.out.now) front su.wrote.put)))

    pub once-again : {why : Refusal} → y ≡ Err why → {A : Type 0} → A
    once-again e = other-verdict (sym ev ∙ hv) (sym su.verdict_is ∙ e)

-- ---- the outcome of the target's fields

-- a result, with 15 on top
abbrev result_in : ℕ → Streamed → Answered
result_in room (refuses why) = turned_back why
result_in room (writes t) = fitted room t

told_in : (room : ℕ) (v : Verdict) (t : Text) → result_in room (result_by v t) ≡ lowered_by room v t
told_in room (Ok _) t = refl
told_in room (Err why) t = refl

outcome-in : (room : ℕ) (o : Outcome) → lowered room o ≡ result_in room (rendered o)
unfolding lowered
outcome-in room (refused why) = refl
outcome-in room (accepted bs) = refl

told-lowered : (room : ℕ) (o : Outcome) (v : Verdict) (t : Text) → rendered o ≡ result_by v t → lowered room o ≡ lowered_by room v t
told-lowered room o v t e = outcome-in room o ∙ ap (result_in room) e ∙ told_in room v t

told-answers : (o : Outcome) (d : Told) → rendered o ≡ result_of d → {out left : Text} {r : ℕ} → AnswersTold d out r left → Answers o out r left
told-answers o d e {out} {left} {r} a = record {
  number_is = rw (told-lowered (length out) o d.verdict d.lines e) a.number_is;
  buffer_is = rw (told-lowered (length out) o d.verdict d.lines e) a.buffer_is;
}

-- where the lines of the outcome are short, what is told fits
told-short : (o : Outcome) (d : Told) → rendered o ≡ result_of d → Short o → {room : ℕ} → most_bytes ≤ room → ToldFits room d
told-short o d e short {room} h said = by o short (e ∙ ap (λ (v : Verdict). result_by v d.lines) said)
  where
    by : (o : Outcome) → Short o → rendered o ≡ writes d.lines → length d.lines ≤ room
    by (refused why) k q = absurd (let z : ◌≡◌ {A = ℕ} 0 1 = cc in omega arith)
    by (accepted bs) k q = let z : render (program bs) ≡ d.lines = cc in omega (arith, h, k bs refl, ap length z)

-- ---- the outcome of all targets

outcomes-in : (room : ℕ) (o : Outcomes) → lowered_all room o ≡ result_in room (rendered_all o)
unfolding lowered_all
outcomes-in room (refused_all why) = refl
outcomes-in room (accepted_all xs) = refl

pub each-answers : (s : Text) (h : Head) (es : Schema) {out left : Text} {r : ℕ} → AnswersTold (tell_each s h.options es) out r left
    → Gives (lowered_all (length out) (lower_each s h es)) out r left
each-answers s h es {out} {left} {r} a =
    let d = tell_each s h.options es in
    subst (λ (l : Answered). Gives l out r left)
    (sym
    (outcomes-in (length out) (lower_each s h es) ∙ ap (result_in (length out)) (each-told s h es) ∙ told_in (length out) d.verdict d.lines))
    a

-- ---- the plan of the target

module _ (t : Tables) (i n : ℕ) (o : Options) where
  abbrev outcome : Outcome
  outcome = lower_fields (setting_at t i n o) (rest_at t i n 0)

  abbrev backing : Part → ℕ
  backing id = size_backing t.source id (fields_of t i n)

  as-plan : Fine t i n → {plan : List PlanAt} → Entries t i n o plan
      → rendered outcome ≡ result_of (tell o fresh (plans_from o t.source backing plan 0 n))
  as-plan fine entries =
      told (setting_at t i n o) (rest_at t i n 0) ∙ ap (λ (ps : List Planned). result_of (tell o fresh ps)) (sym (is-plan fine entries).stands)

  -- `source` is the slice that the tables lend
  module _ {source rows values fields : List ℕ} (seen : tables_of source rows values fields ≡ t) (fine : Fine t i n) {plan : List PlanAt}
      (entries : Entries t i n o plan) where
    abbrev tells : (Part → ℕ) → Text → Told
    tells bits s = tell o fresh (plans_from o s bits plan 0 n)

    same : tells backing source ≡ tells backing t.source
    same = ap (λ (a : Tables). tells backing a.source) seen

    pub plan-answers : {out left : Text} {r : ℕ} → ((bits : Part → ℕ) → AnswersTold (tell o fresh (plans_from o source bits plan 0 n)) out r left)
        → Answers (lower_fields (setting_at t i n o) (rest_at t i n 0)) out r left
    plan-answers {out} {left} {r} a =
        told-answers outcome (tells backing t.source) (as-plan fine entries) (subst (λ (d : Told). AnswersTold d out r left) same (a backing))

    -- in one pass, where the lines are short
    pub once-answers : {out left : Text} {r : ℕ} → Short (lower_fields (setting_at t i n o) (rest_at t i n 0)) → most_bytes ≤ length out
        → ((bits : Part → ℕ) → ToldFits (length out) (tell o fresh (plans_from o source bits plan 0 n))
        → AnswersTold (tell o fresh (plans_from o source bits plan 0 n)) out r left)
        → Answers (lower_fields (setting_at t i n o) (rest_at t i n 0)) out r left
    once-answers {out} {left} {r} short h a =
        let fits : ToldFits (length out) (tells backing t.source) = told-short outcome (tells backing t.source) (as-plan fine entries) short h in
        told-answers outcome (tells backing t.source) (as-plan fine entries)
        (subst (λ (d : Told). AnswersTold d out r left) same (a backing (subst (ToldFits (length out)) (sym same) fits)))

-- a target without fields
no_fields_lem : (t : Tables) (i : ℕ) → rest_at t i 0 0 ≡ []
unfolding fields_from annotate_fields
no_fields_lem t i = refl

nothing : (c : Setting) (out : Text) → Answers (lower_fields c []) out 0 out
unfolding lower_fields parse_all check_code lowered fitted
nothing c out = record {
  number_is = rw (fitted, le-leb 0 (length out) (omega arith));
  buffer_is = rw (fitted, le-leb 0 (length out) (omega arith));
}

pub none_answers : (t : Tables) (i n : ℕ) (o : Options) → n ≡ 0 → {out : Text} → Answers (lower_fields (setting_at t i n o) (rest_at t i n 0)) out 0 out
none_answers t i n o e {out} =
    subst (λ (m : ℕ). Answers (lower_fields (setting_at t i m o) (rest_at t i m 0)) out 0 out) (sym e)
    (subst (λ (xs : List Annotated). Answers (lower_fields (setting_at t i 0 o) xs) out 0 out) (sym (no_fields_lem t i)) (nothing (setting_at t i 0 o) out))
