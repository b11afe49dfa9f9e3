-- Document 02, Card 7: a record that can be read answers, without its line `raw`, what it answers where its head chooses `plain` (`answer-plainly`, and of
-- accepted records `accepted-plainly`); so a line `raw=plain` is as none (`plain-as-absent`). Card 8: the same of its line `products` (`answer-undivided`,
-- `accepted-undivided`, `undivided-as-absent`).
-- Assumes nothing.
use mathlib.Core.Bool.{Bool, true, false}
use mathlib.Core.List.{List}
use mathlib.Core.Path.{◌≡◌, refl, sym, ap, ◌∙◌}
use Rattle.definitions.specs.Bytes.{Text}
use Rattle.definitions.specs.Record.{Declaration, record_is, read_record}
use Rattle.definitions.specs.Sizes.{new_schema}
use Rattle.definitions.specs.Blocks.{Block}
use Rattle.definitions.specs.FieldParser.{Outcome, refused, accepted}
use Rattle.definitions.specs.Answer.{lower_record, answer_read, wrong_length, answer}
use Rattle.definitions.specs.declared.Raw.{Raw}
use Rattle.definitions.specs.declared.Products.{Products}
use Rattle.definitions.specs.declared.Head.{Head}
use Rattle.definitions.specs.declared.Refusal.{Refusal}
use Rattle.lengths.proofs.Booleans.{impossible}
use Rattle.alike.specs.Without.{without_raw, without_products, choosing, plain_head, by_products, undivided}
use Rattle.alike.proofs.Rests.{LeftOut, start, Rests, raw-sifted, products-sifted}
use Rattle.alike.proofs.Reading.{ReadAs, reads-plainly, reads-undivided, length-right}
use Rattle.alike.proofs.Records.{stated-record}

pub answer-of : (s : Text) (h : Head) (ds : List Declaration) → wrong_length s ≡ false → read_record s ≡ record_is h ds
    → answer s ≡ lower_record s h ds (new_schema s ds)
unfolding answer
answer-of s h ds w e =
    ap (λ (b : Bool). elim b [ true ↦ refused Refusal.RecordLength | false ↦ answer_read s (read_record s) ]) w ∙ ap (answer_read s) e

-- an accepted record is of a right length
pub accepted-length : (s : Text) (bs : List Block) → answer s ≡ accepted bs → wrong_length s ≡ false
unfolding answer
accepted-length s bs a = by (wrong_length s) a
  where
    by : (b : Bool) → ◌≡◌ {A = Outcome} (elim b [ true ↦ refused Refusal.RecordLength | false ↦ answer_read s (read_record s) ]) (accepted bs) → b ≡ false
    by true z = impossible (cc)
    by false z = refl

-- a second text that is read as this head, of the same declarations, answers as the first with that head: lines or a refusal, whichever it is
answer-as : {out : LeftOut} (s t : Text) (h : Head) (ds : List Declaration) → Rests out start s t → ReadAs true s t h ds → wrong_length s ≡ false
    → answer t ≡ lower_record s h ds (new_schema s ds)
answer-as s t h ds r a w =
    answer-of t a.0 a.1 (length-right s t h ds r a w) a.2 ∙ sym (stated-record s t h a.0 ds a.1 a.3 a.4 a.5)

module _ (s : Text) (h : Head) (ds : List Declaration) (e : read_record s ≡ record_is h ds) where
  -- ---- without the line `raw`

  pub answer-plainly : wrong_length s ≡ false → answer (without_raw s) ≡ lower_record s (plain_head h) ds (new_schema s ds)
  answer-plainly w = answer-as s (without_raw s) (plain_head h) ds (raw-sifted s) (reads-plainly s h ds e) w

  pub accepted-plainly : (bs cs : List Block) → answer s ≡ accepted bs → lower_record s (plain_head h) ds (new_schema s ds) ≡ accepted cs
      → answer (without_raw s) ≡ accepted cs
  accepted-plainly bs cs a p = answer-plainly (accepted-length s bs a) ∙ p

  pub plain-as-absent : wrong_length s ≡ false → h.options.raw ≡ Raw.Plain → answer (without_raw s) ≡ answer s
  plain-as-absent w p = answer-plainly w ∙ ap (λ (m : Raw). lower_record s (choosing m h) ds (new_schema s ds)) (sym p) ∙ sym (answer-of s h ds w e)

  -- ---- without the line `products`

  pub answer-undivided : wrong_length s ≡ false → answer (without_products s) ≡ lower_record s (undivided h) ds (new_schema s ds)
  answer-undivided w = answer-as s (without_products s) (undivided h) ds (products-sifted s) (reads-undivided s h ds e) w

  pub accepted-undivided : (bs cs : List Block) → answer s ≡ accepted bs → lower_record s (undivided h) ds (new_schema s ds) ≡ accepted cs
      → answer (without_products s) ≡ accepted cs
  accepted-undivided bs cs a p = answer-undivided (accepted-length s bs a) ∙ p

  pub undivided-as-absent : wrong_length s ≡ false → h.options.products ≡ Products.Plain → answer (without_products s) ≡ answer s
  undivided-as-absent w p =
      answer-undivided w ∙ ap (λ (m : Products). lower_record s (by_products m h) ds (new_schema s ds)) (sym p) ∙ sym (answer-of s h ds w e)
