-- Blocks that have one word all through stay with it (`blocks-stay`). Accepted records: their blocks have the word of the head (`accepted-have`);
-- without divisions they are those of the record without its line `products` (`record-without`) and of any plain one that differs from it in that
-- line alone (`record-undivides`). And parts of a short frame.
-- Assumes nothing.
use mathlib.Core.List.{List, ◌++◌}
use mathlib.Core.Path.{◌≡◌, refl, sym, ap, ◌∙◌, subst}
use mathlib.Core.Bool.{false}
use Prim.Native.Nat.{ℕ, ◌^◌, ◌<◌}
use native.Mathlib.Omega.{arith}
use lib.ListN.{length, length-append}
use Rattle.definitions.specs.Bytes.{Text}
use Rattle.definitions.specs.Record.{Declaration, record_is, read_record}
use Rattle.definitions.specs.Sizes.{new_schema}
use Rattle.definitions.specs.Blocks.{Block}
use Rattle.definitions.specs.FieldParser.{accepted}
use Rattle.definitions.specs.Answer.{lower_record, wrong_length, answer}
use Rattle.definitions.specs.declared.Products.{Products}
use Rattle.definitions.specs.declared.Head.{Head}
use Rattle.meaning.specs.Machine.{Inside}
use Rattle.meaning.proofs.Entries.{has-record}
use Rattle.alike.specs.Without.{without_products}
use Rattle.alike.specs.Chosen.{raw_stays}
use Rattle.alike.proofs.Chosen.{record-by, blocks-same, blocks-have}
use Rattle.alike.proofs.Plainly.{answer-of, accepted-length, answer-undivided, undivided-as-absent}
use Rattle.divided.specs.Undivided.{products_as, options_with, array_with, blocks_with, outcome_with, undivide, undivide_outcome, HaveProducts}

pub blocks-stay : (w : Products) (bs : List Block) → HaveProducts w bs → blocks_with w bs ≡ bs
blocks-stay w bs h =
    blocks-same raw_stays (products_as w) _ _
    (λ o e. ap (λ (v : Products). options_with v o) (sym e)) (λ a e. ap (λ (v : Products). array_with v a) (sym e)) bs h

pub accepted-have : (s : Text) (bs : List Block) → answer s ≡ accepted bs → (h : Head) (ds : List Declaration) → read_record s ≡ record_is h ds
    → HaveProducts h.options.products bs
accepted-have s bs e h ds r =
    let w : Products = h.options.products in
    let d : lower_record s h ds (new_schema s ds) ≡ accepted bs = sym (answer-of s h ds (accepted-length s bs e) r) ∙ e in
    let f : accepted (blocks_with w bs) ≡ accepted bs =
    ap (outcome_with w) (sym d) ∙ sym (record-by raw_stays (products_as w) s h ds (new_schema s ds)) ∙ d in
    let g : blocks_with w bs ≡ bs = cc in
    subst (HaveProducts w) g (blocks-have raw_stays (products_as w) _ _ (λ o. refl) (λ a. refl) bs)

pub record-without : (s : Text) (h : Head) (ds : List Declaration) → read_record s ≡ record_is h ds → wrong_length s ≡ false
    → answer (without_products s) ≡ undivide_outcome (answer s)
record-without s h ds e w =
    answer-undivided s h ds e w ∙ record-by raw_stays (products_as Products.Plain) s h ds (new_schema s ds)
    ∙ ap undivide_outcome (sym (answer-of s h ds w e))

pub accepted-without : (s : Text) (bs : List Block) → answer s ≡ accepted bs → answer (without_products s) ≡ accepted (undivide bs)
accepted-without s bs e =
    let r = has-record s bs e in
    record-without s r.0 r.1 r.2 (accepted-length s bs e) ∙ ap undivide_outcome e

-- the second is plain
pub record-undivides : (s t : Text) (bs cs : List Block) → without_products s ≡ without_products t → answer s ≡ accepted bs → answer t ≡ accepted cs
    → (k : Head) (es : List Declaration) → read_record t ≡ record_is k es → k.options.products ≡ Products.Plain → undivide bs ≡ cs
record-undivides s t bs cs alike e f k es r p =
    let g : accepted (undivide bs) ≡ accepted cs =
    sym (accepted-without s bs e) ∙ ap answer alike ∙ undivided-as-absent t k es r (accepted-length t cs f) p ∙ f in
    cc

-- a part of a short frame is short
pub short-inside : (frame s : List ℕ) → length frame < 2 ^ 31 → Inside frame s → length s < 2 ^ 31
short-inside frame s h i =
    omega (arith, h, ap length i.2, length-append i.0 (s ++ i.1), length-append s i.1)
