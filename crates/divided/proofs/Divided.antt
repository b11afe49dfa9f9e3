-- What `products=divide` changes: each array of an accepted record is lowered with divisions, without them the other lines are the same, and where no
-- product passes 2^31 − 1 each frame fares as without. Unlimited beside it drops the premise on products. The statements name `answer`, `lower_record`,
-- `lower_fields` and `program` (definitions: Answer, FieldParser, Blocks), `run` (meaning/specs: Machine), the record without its line `products`
-- (alike/specs/Without), and what is in specs/ here: blocks with one or the other word (Undivided, over alike/specs/Chosen), the checks of two listings
-- (Checks), and runs that stand the same (Faring).
-- Assumes nothing.
use mathlib.Core.Bool.{false}
use mathlib.Core.List.{List}
use mathlib.Core.Path.{◌≡◌, refl, sym, ◌∙◌, subst}
use Prim.Native.Nat.{ℕ}
use Rattle.definitions.specs.Bytes.{Text}
use Rattle.definitions.specs.Record.{Declaration, record_is, read_record}
use Rattle.definitions.specs.Sizes.{Schema, Annotated}
use Rattle.definitions.specs.Lines.{Stmt}
use Rattle.definitions.specs.Blocks.{Block, program}
use Rattle.definitions.specs.FieldParser.{Setting, accepted, lower_fields}
use Rattle.definitions.specs.Answer.{lower_record, wrong_length, answer}
use Rattle.definitions.specs.declared.Products.{Products}
use Rattle.definitions.specs.declared.Head.{Head}
use Rattle.meaning.specs.Machine.{Cause, State, Reply, start, running, excused, run}
use Rattle.alike.specs.Without.{without_products, undivided}
use Rattle.alike.specs.Chosen.{raw_stays}
use Rattle.alike.proofs.Chosen.{fields-by, record-by}
use Rattle.divided.specs.Undivided.{products_as, undivided_setting, undivide, undivide_outcome, HaveProducts, UndividedBlocks, DividedBlocks}
use Rattle.divided.specs.Checks.{Checks}
use Rattle.divided.specs.Faring.{SameStanding}
use Rattle.divided.proofs.Listings.{program-checks}
use Rattle.divided.proofs.Records.{blocks-stay, accepted-have, record-without, accepted-without, record-undivides}
use Rattle.divided.proofs.Steps.{runs_same}

-- ==== An accepted record whose head says `divide`

module _ (s : Text) (bs : List Block) (accepts : answer s ≡ accepted bs) (h : Head) (ds : List Declaration) (read : read_record s ≡ record_is h ds)
    (divides : h.options.products ≡ Products.Divide) where
  -- Each of its arrays is lowered so.
  pub blocks-divided : DividedBlocks bs
  blocks-divided = subst (λ (w : Products). HaveProducts w bs) divides (accepted-have s bs accepts h ds read)

-- ==== What the parser gives

-- With `products` plain the fields of a target give what they give else, without divisions: the same refusal, or the blocks so.
pub undivided-fields : (c : Setting) (xs : List Annotated) → lower_fields (undivided_setting c) xs ≡ undivide_outcome (lower_fields c xs)
undivided-fields c xs = fields-by raw_stays (products_as Products.Plain) c xs

-- So does every record, whatever refusal it meets: no test looks at `products`.
pub undivided-record : (s : Text) (h : Head) (ds : List Declaration) (schema : Schema)
    → lower_record s (undivided h) ds schema ≡ undivide_outcome (lower_record s h ds schema)
undivided-record s h ds schema = record-by raw_stays (products_as Products.Plain) s h ds schema

-- And the record without its line `products`, wherever the record itself can be read and has a right length.
pub without-products : (s : Text) (h : Head) (ds : List Declaration) → read_record s ≡ record_is h ds → wrong_length s ≡ false
    → answer (without_products s) ≡ undivide_outcome (answer s)
without-products s h ds e w = record-without s h ds e w

-- Blocks without divisions are as they were.
pub undivided-stays : (bs : List Block) → UndividedBlocks bs → undivide bs ≡ bs
undivided-stays bs h = blocks-stay Products.Plain bs h

-- So are those of an accepted record whose `products` is plain.
pub undivided-accepted : (s : Text) (bs : List Block) → answer s ≡ accepted bs → (h : Head) (ds : List Declaration) → read_record s ≡ record_is h ds
    → h.options.products ≡ Products.Plain → undivide bs ≡ bs
undivided-accepted s bs e h ds r p = record-undivides s s bs bs refl e e h ds r p

-- ==== Lines

-- Of any blocks: without divisions they have the same lines but for checks of arrays. "The other lines stay."
pub only-checks : (bs : List Block) → Checks (program bs) (program (undivide bs))
only-checks bs = program-checks bs

-- ==== Runs: it costs nothing

-- Of any blocks, from any state, whatever the frame: as long as the lines without divisions are not excused by a product, both stand the same, in
-- one state.
pub fares-same : (bs : List Block) (σ : State) (steps : ℕ)
    → (run steps σ (program (undivide bs)) ≡ excused Cause.by_product → ⊥)
    → SameStanding (run steps σ (program bs)) (run steps σ (program (undivide bs)))
fares-same bs σ steps small = runs_same steps σ (program bs) (program (undivide bs)) (only-checks bs) small

-- What that says of two runs that go on.
pub same-state : (σ τ : State) (l m : List Stmt) → SameStanding (running σ l) (running τ m) → σ ≡ τ
same-state σ τ l m (SameStanding.running e) = refl

-- Of an accepted record and the same without its line `products`.
pub record-fares : (s : Text) (bs : List Block) → answer s ≡ accepted bs → (cs : List Block) → answer (without_products s) ≡ accepted cs
    → (frame : List ℕ) (vars : Text → ℕ) (replies : List Reply) (steps : ℕ)
    → (run steps (start frame vars replies) (program cs) ≡ excused Cause.by_product → ⊥)
    → SameStanding (run steps (start frame vars replies) (program bs)) (run steps (start frame vars replies) (program cs))
record-fares s bs e cs f frame vars replies steps =
    let g : accepted (undivide bs) ≡ accepted cs = sym (accepted-without s bs e) ∙ f in
    let q : undivide bs ≡ cs = cc in
    subst
    (λ (l : List Block).
    (run steps (start frame vars replies) (program l) ≡ excused Cause.by_product → ⊥)
    → SameStanding (run steps (start frame vars replies) (program bs)) (run steps (start frame vars replies) (program l)))
    q (fares-same bs (start frame vars replies) steps)

-- Of two records that differ in the line `products` alone, the second plain: it says `plain`, or the line is absent.
pub fares-alike : (s t : Text) → without_products s ≡ without_products t
    → (k : Head) (es : List Declaration) → read_record t ≡ record_is k es → k.options.products ≡ Products.Plain
    → (bs cs : List Block) → answer s ≡ accepted bs → answer t ≡ accepted cs
    → (frame : List ℕ) (vars : Text → ℕ) (replies : List Reply) (steps : ℕ)
    → (run steps (start frame vars replies) (program cs) ≡ excused Cause.by_product → ⊥)
    → SameStanding (run steps (start frame vars replies) (program bs)) (run steps (start frame vars replies) (program cs))
fares-alike s t alike k es r p bs cs e f frame vars replies steps =
    subst
    (λ (l : List Block).
    (run steps (start frame vars replies) (program l) ≡ excused Cause.by_product → ⊥)
    → SameStanding (run steps (start frame vars replies) (program bs)) (run steps (start frame vars replies) (program l)))
    (record-undivides s t bs cs alike e f k es r p) (fares-same bs (start frame vars replies) steps)
