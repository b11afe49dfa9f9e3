-- Document 02, Card 13: a record that can be read is, with the name of one of its declarations in the `target` line, read as the same record whose head asks
-- for that name (`reads-asking`), and so `lower` answers what it answers where the head does (`answer-asking`). `lower_all` answers the same whichever
-- packet or struct the head asks for (`all-asking`).
-- Assumes nothing.
use Rattle.std.specs.Prelude.{Ok, Err}
use Rattle.definitions.specs.Refusals.{Verdict, verdict}
use mathlib.Core.Bool.{Bool, true, false}
use mathlib.Core.List.{List, ◌∷◌, ◌++◌}
use mathlib.Core.Path.{◌≡◌, sym, ap, ◌∙◌}
use Prim.Native.Nat.{◌≤◌}
use lib.ListN.{length}
use borrow.Author.Tests.{le-ltb}
use Rattle.definitions.specs.Bytes.{Text, part}
use Rattle.definitions.specs.Record.{Declaration, record_is, read_record}
use Rattle.definitions.specs.Sizes.{Schema, new_schema}
use Rattle.definitions.specs.Answer.{lower_record, wrong_length, answer}
use Rattle.definitions.specs.All.{Outcomes, refused_all, lower_each, all_record, all_read, answer_all}
use Rattle.definitions.specs.declared.Head.{Head}
use Rattle.definitions.specs.declared.Refusal.{Refusal}
use Rattle.alike.specs.Retarget.{with_target, asking}
use Rattle.alike.proofs.Reading.{ReadAs, some_byte}
use Rattle.alike.proofs.Targets.{reads-named}
use Rattle.alike.proofs.Ids.{id-read}
use Rattle.alike.proofs.Sizes.{same-schema}
use Rattle.alike.proofs.Refusals.{stated-verdict}
use Rattle.alike.proofs.Parser.{same-each}
use Rattle.alike.proofs.Records.{same-stated, stated-record}
use Rattle.alike.proofs.Plainly.{answer-of}

-- what `lower_all` answers where 1 and 2 are not met
pub all_of : (s : Text) (h : Head) (ds : List Declaration) → wrong_length s ≡ false → read_record s ≡ record_is h ds
    → answer_all s ≡ all_record s h ds (new_schema s ds)
unfolding answer_all
all_of s h ds w e =
    ap (λ (b : Bool). elim b as (λ _. Outcomes) [ true ↦ refused_all Refusal.RecordLength | false ↦ all_read s (read_record s) ]) w ∙ ap (all_read s) e

-- and where none of 3 to 9, 16 and 17 is
pub all-passed : (s : Text) (h : Head) (ds : List Declaration) (schema : Schema) → verdict s h ds schema ≡ (Ok tt)
    → all_record s h ds schema ≡ lower_each s h schema
unfolding all_record
all-passed s h ds schema v =
    ap (λ (w : Verdict). elim w as (λ _. Outcomes) [ (Ok tt) ↦ lower_each s h schema | Err why ↦ refused_all why ]) v

-- d is one of the declarations
module _ (s : Text) (h : Head) (ds : List Declaration) (e : read_record s ≡ record_is h ds) (pre post : List Declaration) (d : Declaration)
    (is : ds ≡ pre ++ (d ∷ post)) where
  -- the record with its name in the `target` line
  abbrev retargeted : Text
  retargeted = with_target s h (part s d.decl.id)

  -- it is read as the same declarations, and its head asks for this one
  pub reads-asking : ReadAs true s (with_target s h (part s d.decl.id)) (asking d.decl.id h) ds
  reads-asking = reads-named s h ds e d.decl.id (id-read s h ds e pre post d is)

  module _ (l : length (with_target s h (part s d.decl.id)) ≤ 16384) where
    length-right : wrong_length retargeted ≡ false
    length-right = rw (some_byte retargeted reads-asking.0 reads-asking.1 reads-asking.2, le-ltb 16384 (length retargeted) l)

    -- where it is not longer than a record may be, it answers what the record answers with that head
    pub answer-asking : answer (with_target s h (part s d.decl.id)) ≡ lower_record s (asking d.decl.id h) ds (new_schema s ds)
    answer-asking =
        let a = reads-asking in
        answer-of retargeted a.0 a.1 length-right a.2
        ∙ sym (stated-record s retargeted (asking d.decl.id h) a.0 ds a.1 a.3 a.4 a.5)

    -- and all targets together come to the same, where neither head meets one of 3 to 9, 16 and 17
    pub all-asking : verdict s h ds (new_schema s ds) ≡ (Ok tt) → verdict s (asking d.decl.id h) ds (new_schema s ds) ≡ (Ok tt)
        → wrong_length s ≡ false → answer_all (with_target s h (part s d.decl.id)) ≡ answer_all s
    all-asking v o w =
        let a = reads-asking in
        let u : verdict retargeted a.0 a.1 (new_schema retargeted a.1) ≡ (Ok tt) =
        sym (stated-verdict s retargeted (asking d.decl.id h) a.0 ds a.1 a.3 a.4 (same-stated s retargeted ds a.1 a.4 a.5)) ∙ o in
        all_of retargeted a.0 a.1 length-right a.2 ∙ all-passed retargeted a.0 a.1 (new_schema retargeted a.1) u
        ∙ sym (same-each s retargeted h a.0 a.3.options (same-schema s retargeted a.4))
        ∙ sym (all-passed s h ds (new_schema s ds) v) ∙ sym (all_of s h ds w e)
