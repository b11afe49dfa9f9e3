-- Two records that differ in the line `raw` alone: what the one answers without it (`record-without`), and the blocks of both (`record-forgets`).
-- Blocks without numbers stay (`blocks-stay`).
-- Assumes nothing.
use mathlib.Core.Bool.{Bool, true, false}
use mathlib.Core.List.{List}
use mathlib.Core.Path.{◌≡◌, refl, sym, ap, ◌∙◌}
use Prim.Native.Nat.{ℕ, ◌≤◌}
use native.Mathlib.Omega.{arith}
use lib.Dec.{leb}
use lib.ListN.{length}
use borrow.Author.Tests.{leb-true, le-leb}
use Rattle.definitions.specs.Bytes.{Text}
use Rattle.definitions.specs.Record.{Declaration, record_is, read_record}
use Rattle.definitions.specs.Sizes.{new_schema}
use Rattle.definitions.specs.Lines.{render}
use Rattle.definitions.specs.Blocks.{Block, program}
use Rattle.definitions.specs.FieldParser.{Outcome, accepted}
use Rattle.definitions.specs.Answer.{Lowered, turned_back, fitted, lowered, lower, wrong_length, answer}
use Rattle.definitions.specs.declared.Raw.{Raw}
use Rattle.definitions.specs.declared.Head.{Head}
use Rattle.definitions.specs.declared.Refusal.{Refusal}
use Rattle.meaning.proofs.Entries.{has-record}
use Rattle.meaning.proofs.Printed.{lines-printed}
use Rattle.alike.specs.Without.{without_raw}
use Rattle.alike.specs.Chosen.{products_stay, options_by}
use Rattle.alike.proofs.Chosen.{record-by, blocks-same}
use Rattle.alike.proofs.Plainly.{answer-of, accepted-length, answer-plainly, plain-as-absent}
use Rattle.numbered.specs.Plainly.{raw_plain, forget, forget_outcome, PlainBlocks}
use Rattle.numbered.specs.Digits.{DigitsOut}
use Rattle.numbered.proofs.Texts.{blocks-out, no_longer}

pub blocks-stay : (bs : List Block) → PlainBlocks bs → forget bs ≡ bs
blocks-stay bs h = blocks-same raw_plain products_stay _ _ (λ o e. ap (λ (m : Raw). options_by (λ _. m) products_stay o) (sym e)) (λ a _. refl) bs h

pub record-without : (s : Text) (h : Head) (ds : List Declaration) → read_record s ≡ record_is h ds → wrong_length s ≡ false
    → answer (without_raw s) ≡ forget_outcome (answer s)
record-without s h ds e w =
    answer-plainly s h ds e w ∙ record-by raw_plain products_stay s h ds (new_schema s ds) ∙ ap forget_outcome (sym (answer-of s h ds w e))

pub accepted-without : (s : Text) (bs : List Block) → answer s ≡ accepted bs → answer (without_raw s) ≡ accepted (forget bs)
accepted-without s bs e =
    let r = has-record s bs e in
    record-without s r.0 r.1 r.2 (accepted-length s bs e) ∙ ap forget_outcome e

-- the second has no numbers
pub record-forgets : (s t : Text) (bs cs : List Block) → without_raw s ≡ without_raw t → answer s ≡ accepted bs → answer t ≡ accepted cs
    → (k : Head) (es : List Declaration) → read_record t ≡ record_is k es → k.options.raw ≡ Raw.Plain → forget bs ≡ cs
record-forgets s t bs cs alike e f k es r p =
    let g : accepted (forget bs) ≡ accepted cs =
    sym (accepted-without s bs e) ∙ ap answer alike ∙ plain-as-absent t k es r (accepted-length t cs f) p ∙ f in
    cc

-- ---- the output buffer

room_for : (room : ℕ) (t : Text) → (fitted room t).answered ≡ 0 → length t ≤ room
unfolding fitted
room_for room t = by (leb (length t) room) refl
  where
    by : (b : Bool) → leb (length t) room ≡ b
        → (elim b as (λ _. Lowered) [ true ↦ record { answered = 0; lines = t } | false ↦ turned_back Refusal.NoRoom ]).answered ≡ 0 → length t ≤ room
    by true e z = leb-true (length t) room e
    by false e z = absurd (omega arith)

fits : (room : ℕ) (t : Text) → length t ≤ room → (fitted room t).answered ≡ 0
unfolding fitted
fits room t h = rw (le-leb (length t) room h, fitted)

-- without its numbers it fits where it does with them
pub without-fits : (s : Text) (room : ℕ) → (lower s room).answered ≡ 0 → (lower (without_raw s) room).answered ≡ 0
unfolding lowered
without-fits s room z =
    let p = lines-printed s room z in
    let n : (fitted room (render (program p.0))).answered ≡ 0 = ap (λ (o : Outcome). (lowered room o).answered) (sym p.1) ∙ z in
    ap (λ (o : Outcome). (lowered room o).answered) (accepted-without s p.0 p.1)
    ∙ fits room (render (program (forget p.0)))
    (omega (arith, no_longer (blocks-out p.0), room_for room (render (program p.0)) n))

-- what is written, of two records
pub written_out : (s t : Text) (room hall : ℕ) → without_raw s ≡ without_raw t → (lower s room).answered ≡ 0 → (lower t hall).answered ≡ 0
    → (k : Head) (es : List Declaration) → read_record t ≡ record_is k es → k.options.raw ≡ Raw.Plain
    → DigitsOut (lower s room).lines (lower t hall).lines
written_out s t room hall alike y z k es r p =
    let a = lines-printed s room y in
    let b = lines-printed t hall z in
    let e : forget a.0 ≡ b.0 = record-forgets s t a.0 b.0 alike a.1 b.1 k es r p in
    rw (a.2, b.2, ← e) (blocks-out a.0)
