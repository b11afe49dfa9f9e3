-- One section: the target line, the lines that the plan tells, and 19 by their length, which the two places give exactly, since no record is long.
-- Assumes nothing.
use Rattle.std.specs.Prelude.{Ok, Err}
use Rattle.definitions.specs.Refusals.{Verdict}
use mathlib.Core.Bool.{Bool, true, false}
use mathlib.Core.List.{List, ◌++◌}
use mathlib.Core.Path.{◌≡◌, refl, sym, ap, ◌∙◌, subst}
use Prim.Native.Nat.{ℕ, ◌+◌, ◌*◌, ◌-◌, ◌≤◌, ◌<◌, ◌^◌}
use native.Mathlib.Nat.{add-zero, sub-zero}
use native.Mathlib.Omega.{arith}
use borrow.Author.Tests.{le-ltb, lt-ltb, ltb-false}
use lib.Dec.{ltb}
use lib.ListN.{length, length-append, length-take, length-drop, drop}
use Rattle.definitions.specs.Bytes.{Text, text, part}
use Rattle.definitions.specs.Sizes.{annotate_fields}
use Rattle.definitions.specs.All.{target_line}
use Rattle.definitions.specs.declared.Options.{Options}
use Rattle.definitions.specs.declared.Part.{Part}
use Rattle.definitions.specs.declared.Refusal.{Refusal}
use Rattle.text.specs.Wrote.{Wrote}
use Rattle.text.specs.declared.Writer.{Writer}
use Rattle.text.proofs.Wrotes.{then}
use Rattle.stream.specs.Stream.{fresh}
use Rattle.tables.specs.Tables.{fields_from, decl_here, count_here, Tables, tables_of, rows_of, fields_of}
use Rattle.schema.specs.Entries.{entry_in}
use Rattle.emits.specs.Target.{setting_at, rest_at, Fine}
use Rattle.plans.specs.Planned.{Planned, plans_of}
use Rattle.plans.specs.Told.{Told, tell}
use Rattle.plans.specs.Plans.{plans_from, Sound}
use Rattle.plans.specs.declared.PlanAt.{PlanAt}
use Rattle.planner.specs.Entries.{Entries}
use Rattle.planner.proofs.Stands.{is-plan}
use Rattle.parser.specs.Driver.{Tells}
use Rattle.targets.specs.Told.{limited_by, section_told, entry_told}

-- ---- 19

module _ (v : Verdict) (n : ℕ) where
  by-refused : {why : Refusal} → v ≡ Err why → limited_by v n ≡ Err why
  unfolding limited_by
  by-refused {why} e = subst (λ (x : Verdict). limited_by x n ≡ Err why) (sym e) refl

  -- of lines that pass
  abbrev on_test : Bool → Verdict
  on_test b = elim b [ true ↦ Err Refusal.SectionTooLong | false ↦ Ok tt ]

  by-test : v ≡ Ok tt → {b : Bool} → ltb 8192 n ≡ b → limited_by v n ≡ on_test b
  unfolding limited_by
  by-test e {b} h = subst (λ (x : Verdict). limited_by x n ≡ on_test b) (sym e) (ap on_test h)

pub limited-pass : (v : Verdict) (n : ℕ) → limited_by v n ≡ Ok tt → (v ≡ Ok tt) × (n ≤ 8192)
unfolding limited_by
limited-pass (Err why) n e = absurd (let z : ◌≡◌ {A = ℕ} 0 1 = cc in omega arith)
limited-pass (Ok _) n e = (refl, by (ltb 8192 n) refl e)
  where
    by : (b : Bool) → ltb 8192 n ≡ b → on_test (Ok tt) n b ≡ Ok tt → n ≤ 8192
    by true h k = absurd (let z : ◌≡◌ {A = ℕ} 0 1 = cc in omega arith)
    by false h k = ltb-false 8192 n h

-- ---- a target line and what a plan tells behind it

module _ (name : Text) (d : Told) {u m v : Writer} {x : Verdict} (line : Wrote u m (target_line name)) (tells : Tells d m v x) where
  -- the lines follow the target line, refused or not
  lines : Wrote u v (target_line name ++ d.lines)
  lines = then line tells.wrote

  pub lines-behind : m.at ≤ v.at
  lines-behind = omega (arith, tells.wrote.put.next)

  pub section-refused : {why : Refusal} → x ≡ Err why → Tells (section_told name d) u v (Err why)
  section-refused e = record { verdict_is = sym (by-refused d.verdict (length d.lines) (sym tells.verdict_is ∙ e)); wrote = lines }

  module _ (e : x ≡ Ok tt) (w : m.at ≤ 2 ^ 33) where
    passed : d.verdict ≡ Ok tt
    passed = sym tells.verdict_is ∙ e

    pub section-long : 8192 < v.at - m.at → Tells (section_told name d) u v (Err Refusal.SectionTooLong)
    section-long h = record {
      verdict_is = sym (by-test d.verdict (length d.lines) passed (lt-ltb 8192 (length d.lines) (omega (arith, h, w, tells.wrote.put.next))));
      wrote = lines;
    }

    pub section-short : v.at - m.at ≤ 8192 → Tells (section_told name d) u v (Ok tt)
    section-short h = record {
      verdict_is = sym (by-test d.verdict (length d.lines) passed (le-ltb 8192 (length d.lines) (omega (arith, h, w, tells.wrote.put.next))));
      wrote = lines;
    }

-- ---- the section of a declaration of the tables

pub short-part : (s : Text) (p : Part) → length (part s p) ≤ length s
short-part s p =
    omega (arith, length-take (p.end - p.start) (drop p.start s), length-drop p.start s)

-- `rest_at` from the first field on
pub rest_all : (t : Tables) (i : ℕ)
    → rest_at t i (count_here t.rows i) 0 ≡ (entry_in t.source t.rows t.values t.fields i).fields
rest_all t i =
    let count = count_here t.rows i in
    ap (λ (j : ℕ). annotate_fields t.source (rows_of t i) (fields_of t i count) (fields_from t.values t.fields j (count - 0))) (add-zero (i * 64))
    ∙ ap (λ (m : ℕ). annotate_fields t.source (rows_of t i) (fields_of t i count) (fields_from t.values t.fields (i * 64) m)) (sub-zero count)

-- by the number of fields that the table of rows has
pub fine-count : (t : Tables) (i : ℕ) {n : ℕ} → n ≡ count_here t.rows i → Fine t i (count_here t.rows i) → Fine t i n
fine-count t i e fine = subst (λ (m : ℕ). Fine t i m) (sym e) fine

pub count-sound : (t : Tables) (i : ℕ) (o : Options) {source rows values fields : List ℕ} → t ≡ tables_of source rows values fields
    → {n : ℕ} → n ≡ count_here rows i → Fine t i (count_here t.rows i)
    → {plan : List PlanAt} → Entries t i n o plan → (n ≤ 64) × Sound plan n
count-sound t i o seen e fine entries =
    let f = fine-count t i (e ∙ ap (λ (a : Tables). count_here a.rows i) (sym seen)) fine in
    (f.few, (is-plan f entries).sound)

module _ (t : Tables) (i : ℕ) (o : Options) where
  abbrev count : ℕ
  count = count_here t.rows i

  -- `source` and `rows` are the slices that the tables lend
  module _ {source rows values fields : List ℕ} (seen : t ≡ tables_of source rows values fields)
      (short : length t.source ≤ 16384) {u : Writer} (w : u.at ≤ 2 ^ 32) (fine : Fine t i count) {n : ℕ} (counted : n ≡ count_here rows i)
      {plan : List PlanAt} (entries : Entries t i n o plan) {id : Part} (ided : id ≡ (decl_here rows i).id)
      {name : Text} (spelled : name ≡ part source id)
      {m v : Writer} (line : Wrote u m (text "// target=" ++ (name ++ text "\n")))
      {x : Verdict} (lowered : (bits : Part → ℕ) → Tells (tell o fresh (plans_from o source bits plan 0 n)) m v x) where
    en : n ≡ count
    en = counted ∙ ap (λ (a : Tables). count_here a.rows i) (sym seen)

    ei : id ≡ (decl_here t.rows i).id
    ei = ided ∙ ap (λ (a : Tables). (decl_here a.rows i).id) (sym seen)

    ename : name ≡ part t.source id
    ename = spelled ∙ ap (λ (a : Tables). part a.source id) (sym seen)

    tells : (bits : Part → ℕ) → Tells (tell o fresh (plans_from o t.source bits plan 0 n)) m v x
    tells bits = subst (λ (a : Tables). Tells (tell o fresh (plans_from o a.source bits plan 0 n)) m v x) (sym seen) (lowered bits)

    abbrev d : Told
    d = tell o fresh (plans_of (setting_at t i count o) (entry_in t.source t.rows t.values t.fields i).fields)

    told : Tells d m v x
    told =
        subst
        (λ (k : ℕ). Entries t i k o plan → ((bits : Part → ℕ) → Tells (tell o fresh (plans_from o t.source bits plan 0 k)) m v x)
        → Tells d m v x)
        (sym en)
        (λ k a.
        subst (λ (ps : List Planned). Tells (tell o fresh ps) m v x)
        ((is-plan fine k).stands ∙ ap (plans_of (setting_at t i count o)) (rest_all t i)) (a _))
        entries tells

    same-name : name ≡ part t.source (decl_here t.rows i).id
    same-name = ename ∙ ap (part t.source) ei

    near : m.at ≤ 2 ^ 33
    near = omega (arith, line.put.next, w, short, short-part t.source id, ap length ename, length-append name (text "\n"))

    abbrev Section : Verdict → Type 0
    Section y = Tells (entry_told t.source o (entry_in t.source t.rows t.values t.fields i)) u v y

    named : {y : Verdict} → Tells (section_told name d) u v y → Section y
    named {y} = subst (λ (a : Text). Tells (section_told a d) u v y) same-name

    pub from-behind : m.at ≤ v.at
    from-behind = lines-behind name d line told

    pub put-refused : {why : Refusal} → x ≡ Err why → Section (Err why)
    put-refused e = named (section-refused name d line told e)

    pub put-long : x ≡ Ok tt → 8192 < v.at - m.at → Section (Err Refusal.SectionTooLong)
    put-long e h = named (section-long name d line told e near h)

    pub put-short : x ≡ Ok tt → v.at - m.at ≤ 8192 → Section (Ok tt)
    put-short e h = named (section-short name d line told e near h)
