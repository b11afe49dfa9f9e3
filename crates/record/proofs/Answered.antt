-- What the reader's answer says of the whole answer: a refusal is the record's, and a record that passes is judged on by 7 to 9 over the
-- declarations that the tables give.
-- Assumes nothing.
use Rattle.std.specs.Prelude.{Some, None, Result, Ok, Err}
use Rattle.definitions.specs.Record.{Read, Declaration, Declarations, declarations_are, no_declarations, RecordRead, record_is, no_record, on_read, head_at, declarations_at, with_head, read_record}
use Rattle.definitions.specs.Refusals.{Verdict, any_keyword, declarations_names, keyword_name, too_many, duplicate_name, unknown_name, out_of_range, large, ragged, misstated, no_target, refuse_if, verdict}
use Prim.Native.Nat.{ℕ, ◌≤◌, ◌<◌}
use mathlib.Core.Bool.{Bool, true, false}
use mathlib.Core.List.{List}
use mathlib.Core.Path.{◌≡◌, refl, sym, ap, ◌∙◌, subst}
use native.Mathlib.Omega.{arith}
use lib.ListN.{length}
use Rattle.definitions.specs.Bytes.{Text, part, pick}
use Rattle.definitions.specs.Keywords.{is_keyword}
use Rattle.definitions.specs.Sizes.{Schema, new_schema}
use Rattle.definitions.specs.FieldParser.{refused}
use Rattle.definitions.specs.Answer.{wrong_length, lower_record, answer_read, answer}
use Rattle.definitions.specs.All.{refused_all, all_record, all_read, answer_all}
use Rattle.definitions.specs.declared.Head.{Head}
use Rattle.definitions.specs.declared.Refusal.{Refusal}
use Rattle.keywords.specs.Screens.{screen_head}
use Rattle.tables.specs.Tables.{Tables, count_here}
use Rattle.places.specs.Places.{given}
use Rattle.ranges.specs.Ranges.{bare}
use Rattle.ranges.proofs.Tests.{neither, few-declarations, few-fields}
use Rattle.record.specs.Reader.{read_verdict, first_verdict, reading_of, reading_read, reading, tables_after}
use Rattle.record.proofs.Verdicts.{many-bare}
use Rattle.record.proofs.Agree.{Whole, few-given, reading-wrong, reading-right, after-right, after_head, filled}

-- ---- 16 and 3 to 6, then 7, 8, 17 and 9

-- the rest of `verdict`
abbrev pub later_verdict : Text → Head → Schema → Verdict
later_verdict s h schema =
    refuse_if (large schema) Refusal.TooLarge
    (refuse_if (ragged s schema) Refusal.NotWholeBytes
    (refuse_if (misstated schema) Refusal.Misstated
    (refuse_if (no_target s h schema) Refusal.NoTarget (Ok tt))))

-- one refusal before the others
abbrev pub on_verdict : Verdict → Verdict → Verdict
on_verdict (Ok tt) next = next
on_verdict (Err why) next = Err why

on-refuse : (b : Bool) (why : Refusal) (x next : Verdict) → refuse_if b why (on_verdict x next) ≡ on_verdict (refuse_if b why x) next
on-refuse true why x next = refl
on-refuse false why x next = refl

pub verdict-parts : (s : Text) (h : Head) (ds : List Declaration) (schema : Schema)
    → verdict s h ds schema ≡ on_verdict (first_verdict s h ds) (later_verdict s h schema)
unfolding verdict read_verdict
verdict-parts s h ds schema =
    ap (refuse_if (keyword_name s h ds) Refusal.Keyword)
    (ap (refuse_if (too_many ds) Refusal.TooMany)
    (ap (refuse_if (duplicate_name s ds) Refusal.DuplicateName)
    (ap (refuse_if (unknown_name s ds) Refusal.UnknownName) (on-refuse (out_of_range ds) Refusal.OutOfRange (Ok tt) next)
    ∙ on-refuse (unknown_name s ds) Refusal.UnknownName range next)
    ∙ on-refuse (duplicate_name s ds) Refusal.DuplicateName (refuse_if (unknown_name s ds) Refusal.UnknownName range) next)
    ∙ on-refuse (too_many ds) Refusal.TooMany (refuse_if (duplicate_name s ds) Refusal.DuplicateName (refuse_if (unknown_name s ds) Refusal.UnknownName range)) next)
    ∙ on-refuse (keyword_name s h ds) Refusal.Keyword (read_verdict s ds) next
  where
    next : Verdict
    next = later_verdict s h schema

    range : Verdict
    range = refuse_if (out_of_range ds) Refusal.OutOfRange (Ok tt)

-- ---- a refusal by 1, 2, 16 or 3 to 6 is the record's

data Turned (s : Text) (why : Refusal) : Type 0 where
  wrong : wrong_length s ≡ true → Refusal.RecordLength ≡ why → Turned s why
  form : wrong_length s ≡ false → read_record s ≡ no_record → Refusal.RecordForm ≡ why → Turned s why
  judged : (h : Head) (ds : List Declaration) → wrong_length s ≡ false → read_record s ≡ record_is h ds
      → verdict s h ds (new_schema s ds) ≡ Err why → Turned s why

turned : (s : Text) (why : Refusal) → reading s ≡ Err why → Turned s why
turned s why e = by (wrong_length s) refl
  where
    on-verdict : (h : Head) (ds : List Declaration) (v : Verdict) → first_verdict s h ds ≡ v → reading_of h (length ds) v ≡ Err why
        → verdict s h ds (new_schema s ds) ≡ Err why
    on-verdict h ds (Ok tt) ev k = absurd (let z : ◌≡◌ {A = ℕ} 0 1 = cc in omega arith)
    on-verdict h ds (Err w) ev k =
        let q : w ≡ why = cc in
        verdict-parts s h ds (new_schema s ds) ∙ ap (λ (v : Verdict). on_verdict v (later_verdict s h (new_schema s ds))) (ev ∙ ap Err q)

    on-read : wrong_length s ≡ false → (r : RecordRead) → read_record s ≡ r → reading_read s r ≡ Err why → Turned s why
    on-read w no_record er k = Turned.form w er (let q : Refusal.RecordForm ≡ why = cc in q)
    on-read w (record_is h ds) er k = Turned.judged h ds w er (on-verdict h ds (first_verdict s h ds) refl k)

    by : (b : Bool) → wrong_length s ≡ b → Turned s why
    by true w = Turned.wrong w (let q : Refusal.RecordLength ≡ why = cc (reading-wrong s w) in q)
    by false w = on-read w (read_record s) refl (sym (reading-right s w) ∙ e)

pub answer-refused : (s : Text) (why : Refusal) → reading s ≡ Err why → answer s ≡ refused why
unfolding answer lower_record
answer-refused s why e = by (turned s why e)
  where
    by : Turned s why → answer s ≡ refused why
    by (Turned.wrong w q) = rw (answer, w, q)
    by (Turned.form w r q) = rw (answer, w, r, q)
    by (Turned.judged h ds w r v) = rw (answer, w, r, lower_record, v)

pub all-refused : (s : Text) (why : Refusal) → reading s ≡ Err why → answer_all s ≡ refused_all why
unfolding answer_all all_record
all-refused s why e = by (turned s why e)
  where
    by : Turned s why → answer_all s ≡ refused_all why
    by (Turned.wrong w q) = rw (answer_all, w, q)
    by (Turned.form w r q) = rw (answer_all, w, r, q)
    by (Turned.judged h ds w r v) = rw (answer_all, w, r, all_record, v)

-- ---- a record that passes

pub record Passed (s : Text) (h : Head) (n : ℕ) (t : Tables) : Type 0 where
  pub right-length : wrong_length s ≡ false
  pub read : read_record s ≡ record_is h (given t n)
  pub no-keyword : keyword_name s h (given t n) ≡ false
  pub passed : read_verdict s (given t n) ≡ (Ok tt)
  pub few : n ≤ 32
  pub short : (i : ℕ) → i < n → count_here t.rows i ≤ 64

-- 16 is not met
none_first : (b : Bool) (v : Verdict) → refuse_if b Refusal.Keyword v ≡ (Ok tt) → (b ≡ false) × (v ≡ (Ok tt))
none_first true v e = absurd (let z : ◌≡◌ {A = ℕ} 0 1 = cc in omega arith)
none_first false v e = (refl, e)

-- nor by the target, nor by the declarations
none-either : (s : Text) (h : Head) (ds : List Declaration) → keyword_name s h ds ≡ false
    → (is_keyword (part s h.target) ≡ false) × (any_keyword s (declarations_names ds) ≡ false)
unfolding any_keyword
none-either s h ds e = neither (is_keyword (part s h.target)) (any_keyword s (declarations_names ds)) e

-- 3 is not met
none-many : (s : Text) (ds : List Declaration) → read_verdict s ds ≡ (Ok tt) → too_many ds ≡ false
unfolding read_verdict
none-many s ds e = by (too_many ds) refl
  where
    by : (b : Bool) → too_many ds ≡ b → b ≡ false
    by true h = absurd (let k : Err Refusal.TooMany ≡ (Ok tt) = rw h at e in let z : ◌≡◌ {A = ℕ} 0 1 = cc in omega arith)
    by false h = refl

module _ (s : Text) (t : Tables) (w : Whole s t) (right : wrong_length s ≡ false) where
  passed-with : (h : Head) (p : ℕ) (ds : List Declaration) → head_at s 0 ≡ Some (h, p) → declarations_at s (length s) p ≡ declarations_are ds
      → keyword_name s h ds ≡ false → read_verdict s ds ≡ (Ok tt) → Passed s h (length ds) (tables_after s t)
  unfolding read_record
  passed-with h p ds eh ed ek ev = record {
    right-length = right;
    read = rw (eh, ed) (ap (record_is h) (sym back));
    no-keyword = ap (keyword_name s h) back ∙ ek;
    passed = ap (read_verdict s) back ∙ ev;
    few = few-declarations (tables_after s t).rows (length ds) fewer;
    short = few-fields (tables_after s t).rows (length ds) fewer;
  }
    where
      after : tables_after s t ≡ filled s p t
      after =
          after-right s t right
          ∙ ap (after_head s t)
          (ap (screen_head s) eh ∙ ap (λ (b : Bool). pick b (Some (None, p)) (Some (Some h, p))) (none-either s h ds ek).0)

      back : given (tables_after s t) (length ds) ≡ ds
      back =
          ap (λ (x : Tables). given x (length ds)) after
          ∙ few-given s p t w right ds ed (none-either s h ds ek).1 (none-many s ds ev)

      fewer : too_many (bare (tables_after s t).rows (length ds)) ≡ false
      fewer =
          sym (many-bare (tables_after s t).rows (tables_after s t).values (tables_after s t).fields (length ds))
          ∙ ap too_many back ∙ none-many s ds ev

-- a part of what passes
at_ok : {A : Type 0} → Head → ℕ → (Head → ℕ → A) → Result (Head × ℕ) Refusal → A
at_ok g n f (Ok (h, m)) = f h m
at_ok g n f (Err why) = f g n

pub reading-passed : (s : Text) (t : Tables) → Whole s t → (h : Head) (n : ℕ) → reading s ≡ Ok (h, n) → Passed s h n (tables_after s t)
unfolding read_record at_ok
reading-passed s t w h n e = by (wrong_length s) refl
  where
    on-verdict : wrong_length s ≡ false → (g : Head) (p : ℕ) (ds : List Declaration)
        → head_at s 0 ≡ Some (g, p) → declarations_at s (length s) p ≡ declarations_are ds
        → (v : Verdict) → first_verdict s g ds ≡ v → reading_of g (length ds) v ≡ Ok (h, n) → Passed s h n (tables_after s t)
    on-verdict r g p ds eh ed (Ok tt) ev k =
        let eg : g ≡ h = ap (at_ok g n λ x m. x) k in
        let en : length ds ≡ n = ap (at_ok g n λ x m. m) k in
        let none : (keyword_name s g ds ≡ false) × (read_verdict s ds ≡ (Ok tt)) = none_first (keyword_name s g ds) (read_verdict s ds) ev in
        subst (λ (x : Head). Passed s x n (tables_after s t)) eg
        (subst (λ (m : ℕ). Passed s g m (tables_after s t)) en (passed-with s t w r g p ds eh ed none.0 none.1))
    on-verdict r g p ds eh ed (Err why) ev k = absurd (let z : ◌≡◌ {A = ℕ} 0 1 = cc in omega arith)

    on-declarations : wrong_length s ≡ false → (g : Head) (p : ℕ) → head_at s 0 ≡ Some (g, p) → (d : Declarations) → declarations_at s (length s) p ≡ d
        → reading_read s (with_head g d) ≡ Ok (h, n) → Passed s h n (tables_after s t)
    on-declarations r g p eh (declarations_are ds) ed k = on-verdict r g p ds eh ed (first_verdict s g ds) refl k
    on-declarations r g p eh no_declarations ed k = absurd (let z : ◌≡◌ {A = ℕ} 0 1 = cc in omega arith)

    on-head : wrong_length s ≡ false → (g : Read Head) → head_at s 0 ≡ g
        → reading_read s (on_read g no_record λ x p. with_head x (declarations_at s (length s) p)) ≡ Ok (h, n) → Passed s h n (tables_after s t)
    on-head r (Some (g, p)) eh k = on-declarations r g p eh (declarations_at s (length s) p) refl k
    on-head r None eh k = absurd (let z : ◌≡◌ {A = ℕ} 0 1 = cc in omega arith)

    by : (b : Bool) → wrong_length s ≡ b → Passed s h n (tables_after s t)
    by true r = absurd (let z : ◌≡◌ {A = ℕ} 0 1 = cc (reading-wrong s r) in omega arith)
    by false r = on-head r (head_at s 0) refl (sym (reading-right s r) ∙ e)

-- ---- and what is left to do of it

pub answer-passed : {s : Text} {h : Head} {n : ℕ} {t : Tables} → Passed s h n t → answer s ≡ lower_record s h (given t n) (new_schema s (given t n))
unfolding answer
answer-passed {s} p = rw (answer, p.right-length) (ap (answer_read s) p.read)

pub all-passed : {s : Text} {h : Head} {n : ℕ} {t : Tables} → Passed s h n t → answer_all s ≡ all_record s h (given t n) (new_schema s (given t n))
unfolding answer_all
all-passed {s} p = rw (answer_all, p.right-length) (ap (all_read s) p.read)

pub verdict-passed : {s : Text} {h : Head} {n : ℕ} {t : Tables} → Passed s h n t → (schema : Schema) → verdict s h (given t n) schema ≡ later_verdict s h schema
verdict-passed {s} {h} {n} {t} p schema =
    verdict-parts s h (given t n) schema
    ∙ ap (λ (b : Bool). on_verdict (refuse_if b Refusal.Keyword (read_verdict s (given t n))) (later_verdict s h schema)) p.no-keyword
    ∙ ap (λ (v : Verdict). on_verdict v (later_verdict s h schema)) p.passed
