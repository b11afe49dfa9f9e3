-- The exits of the reader over tables of any length (`reading_in`, `tables_after`).
-- Assumes nothing.
use Rattle.std.specs.Prelude.{Option, Some, None, Result, Ok, Err, ◌≡◌, List, Bool, true, false, not, ◌||◌, ◌==◌, nat_lt, ℕ, ◌≤◌, ◌<◌, length}
use mathlib.Core.Path.{sym, ap, ◌∙◌}
use Rattle.std.specs.Option.{is_some, is_none, ok_or}
use Rattle.definitions.specs.Record.{Read, head_at, declarations_at}
use Rattle.definitions.specs.Refusals.{Verdict, on_ok}
use native.Mathlib.Omega.{arith}
use borrow.Author.Tests.{lt-ltb, le-ltb}
use Rattle.std.proofs.lemmas.Bool.{or_from}
use Rattle.definitions.specs.Answer.{wrong_length}
use Rattle.tables.specs.Tables.{Tables, tables_of, declarations_from}
use Rattle.definitions.specs.declared.Head.{Head}
use Rattle.definitions.specs.declared.Refusal.{Refusal}
use Rattle.keywords.specs.Screens.{screen_head}
use Rattle.places.specs.Places.{screen_decls, FilledAll}
use Rattle.record.specs.Reader.{read_verdict, reading_of, reading_counted, reading_in, tables_after, InTables}

none-is : (a b : Bool) → a ≡ not b → b ≡ not a
none-is a true e = ap not (sym e)
none-is a false e = ap not (sym e)

module _ (s rows values fields : List ℕ) where
  abbrev before : Tables
  before = tables_of s rows values fields

  length-wrong : wrong_length s ≡ true → InTables s before (Err Refusal.RecordLength) before
  unfolding reading_in tables_after
  length-wrong h = record { answer = rw (h, reading_in); tables = rw (h, tables_after) }

  module _ {e : Bool} (ee : e ≡ (length s == 0)) where
    pub length-empty : e ≡ true → InTables s before (Err Refusal.RecordLength) before
    length-empty he = length-wrong (ap (λ (k : Bool). k || nat_lt 16384 (length s)) (sym ee ∙ he))

    pub length-long : e ≡ false → 16384 < length s → InTables s before (Err Refusal.RecordLength) before
    length-long he h = length-wrong (ap (λ (k : Bool). k || nat_lt 16384 (length s)) (sym ee ∙ he) ∙ lt-ltb 16384 (length s) h)

    pub length-right : e ≡ false → length s ≤ 16384 → wrong_length s ≡ false
    length-right he h = or_from _ _ (sym ee ∙ he) (le-ltb 16384 (length s) h)

  module _ (right : wrong_length s ≡ false) {g : Read (Option Head)} (eg : g ≡ screen_head s (head_at s 0)) {a : Result (Option Head × ℕ) Refusal}
      (ea : a ≡ ok_or g Refusal.RecordForm) where
    pub head-wrong : {why : Refusal} → a ≡ Err why → InTables s before (Err why) before
    unfolding reading_in tables_after
    head-wrong {why} ha = by g eg ea
      where
        by : (x : Read (Option Head)) → x ≡ screen_head s (head_at s 0) → a ≡ ok_or x Refusal.RecordForm → InTables s before (Err why) before
        by None ex k =
            let q : Refusal.RecordForm ≡ why = cc in
            record { answer = rw (right, reading_in, sym ex) (ap Err (sym q)); tables = rw (right, tables_after, sym ex) }
        by (Some x) ex k = absurd (let z : ◌≡◌ {A = ℕ} 0 1 = cc in omega arith)

    module _ {target : Option Head} {at : ℕ} (ha : a ≡ Ok (target, at)) where
      hg : g ≡ Some (target, at)
      hg = by g ea
        where
          by : (x : Read (Option Head)) → a ≡ ok_or x Refusal.RecordForm → x ≡ Some (target, at)
          by None k = absurd (let z : ◌≡◌ {A = ℕ} 0 1 = cc in omega arith)
          by (Some x) k = cc

      module _ {b : Bool} (eb : is_some target ≡ not b) {d : Result ℕ Refusal} {x y z : List ℕ} (r : FilledAll s b at rows values fields d x y z) where
        abbrev after : Tables
        after = tables_of s x y z

        kept : b ≡ is_none target
        kept = none-is (is_some target) b eb

        filled : after ≡ tables_after s before
        unfolding tables_after
        filled = r.tables ∙ rw (right, tables_after, sym eg ∙ hg, kept)

        counts : reading_counted s after target d ≡ reading_in s after
        unfolding reading_in
        counts =
            ap (reading_counted s after target) (r.answer ∙ ap (λ (k : Bool). screen_decls s k 0 (declarations_at s (length s) at)) kept)
            ∙ rw (right, reading_in, sym eg ∙ hg)

        pub form-wrong : {why : Refusal} → d ≡ Err why → InTables s before (Err why) after
        form-wrong hd = record { answer = ap (reading_counted s after target) (sym hd) ∙ counts; tables = filled }

        module _ {n : ℕ} (hd : d ≡ Ok n) {o : Result Head Refusal} (eo : o ≡ ok_or target Refusal.Keyword) where
          abbrev rest : Result Head Refusal → Result (Head × ℕ) Refusal
          rest k = on_ok k λ h. reading_of h n (read_verdict s (declarations_from x y z 0 n))

          named : rest o ≡ reading_in s after
          named = ap rest eo ∙ ap (reading_counted s after target) (sym hd) ∙ counts

          pub target-keyword : {why : Refusal} → o ≡ Err why → InTables s before (Err why) after
          target-keyword ho = record { answer = ap rest (sym ho) ∙ named; tables = filled }

          module _ {h : Head} (ho : o ≡ Ok h) {v : Verdict} (ev : v ≡ read_verdict s (declarations_from x y z 0 n)) where
            judged : reading_of h n v ≡ reading_in s after
            judged = ap (reading_of h n) ev ∙ ap rest (sym ho) ∙ named

            pub refused : {why : Refusal} → v ≡ Err why → InTables s before (Err why) after
            refused hv = record { answer = ap (reading_of h n) (sym hv) ∙ judged; tables = filled }

            pub passes : v ≡ Ok tt → InTables s before (Ok (h, n)) after
            passes hv = record { answer = ap (reading_of h n) (sym hv) ∙ judged; tables = filled }
