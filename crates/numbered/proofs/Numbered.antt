-- Document 02, Card 7: the numbers behind `raw_value` change nothing but these names. Read this file first. The statements name `answer`, `render` and
-- `program` (definitions: Answer, Lines, Blocks), `run` (meaning/specs/Machine), the record without its line `raw` (alike/specs/Without), and what is in
-- specs/ here: blocks without their numbers (Plainly, over alike/specs/Chosen), a text without their digits (Digits), runs that stand the same
-- (Faring), and the numbers of an answer (Numbers).
-- Assumes nothing.
use mathlib.Core.Bool.{false}
use mathlib.Core.List.{List}
use mathlib.Core.Path.{◌≡◌, refl, subst}
use Prim.Native.Nat.{ℕ, ◌≤◌}
use Rattle.definitions.specs.Bytes.{Text}
use Rattle.definitions.specs.Record.{Declaration, record_is, read_record}
use Rattle.definitions.specs.Sizes.{Schema, Annotated}
use Rattle.definitions.specs.Lines.{render}
use Rattle.definitions.specs.Blocks.{Block, raw_name, program}
use Rattle.definitions.specs.FieldParser.{Setting, accepted, lower_fields}
use Rattle.definitions.specs.Answer.{lower_record, wrong_length, answer, lower}
use Rattle.definitions.specs.declared.Raw.{Raw}
use Rattle.definitions.specs.declared.Head.{Head}
use Rattle.meaning.specs.Machine.{State, Reply, start, run}
use Rattle.alike.specs.Without.{without_raw, plain_head}
use Rattle.alike.specs.Chosen.{products_stay}
use Rattle.alike.proofs.Chosen.{fields-by, record-by}
use Rattle.numbered.specs.Plainly.{raw_plain, plain_setting, forget, forget_outcome, PlainBlocks}
use Rattle.numbered.specs.Digits.{DigitsOut, NoneLikeRaw}
use Rattle.numbered.specs.Faring.{SameState, SameStanding}
use Rattle.numbered.specs.Numbers.{numbers_in, Counts}
use Rattle.numbered.proofs.Records.{blocks-stay, record-without, record-forgets, without-fits, written_out}
use Rattle.numbered.proofs.Listings.{BlocksRead, program-alike}
use Rattle.numbered.proofs.Texts.{blocks-out}
use Rattle.numbered.proofs.Unlike.{UnlikeRaw, unlike-names}
use Rattle.numbered.proofs.Conditions.{conditions-unlike}
use Rattle.numbered.proofs.Steps.{runs_same}
use Rattle.numbered.proofs.Counted.{blocks-counted}
use Rattle.numbered.proofs.Names.{names_apart}

-- ==== The numbers

-- Those of an accepted record's tested enum bit fields, in the order of the lines, are 0, 1, 2 and so on: "counted from 0 through the target".
pub numbers-counted : (s : Text) (bs : List Block) → answer s ≡ accepted bs → (n : ℕ) × (n ≤ 64) × Counts 0 (numbers_in bs) n
numbers-counted s bs e = blocks-counted s bs e

-- And two such numbers are two names: with `numbered` no variable is declared for two of these fields.
pub numbers_apart : (j k : ℕ) → j ≤ 64 → k ≤ 64 → raw_name Raw.Numbered j ≡ raw_name Raw.Numbered k → j ≡ k
numbers_apart j k a b e = names_apart j k a b e

-- ==== What the parser gives

-- With `raw` plain the fields of a target give what they give else, without the numbers: the same refusal, or the blocks so.
pub plain-fields : (c : Setting) (xs : List Annotated) → lower_fields (plain_setting c) xs ≡ forget_outcome (lower_fields c xs)
plain-fields c xs = fields-by raw_plain products_stay c xs

-- So does every record, whatever refusal it meets: no test looks at `raw`.
pub plain-record : (s : Text) (h : Head) (ds : List Declaration) (schema : Schema)
    → lower_record s (plain_head h) ds schema ≡ forget_outcome (lower_record s h ds schema)
plain-record s h ds schema = record-by raw_plain products_stay s h ds schema

-- And the record without its line `raw`, wherever the record itself can be read and has a right length.
pub without-raw : (s : Text) (h : Head) (ds : List Declaration) → read_record s ≡ record_is h ds → wrong_length s ≡ false
    → answer (without_raw s) ≡ forget_outcome (answer s)
without-raw s h ds e w = record-without s h ds e w

-- Blocks without numbers are as they were.
pub plain-stays : (bs : List Block) → PlainBlocks bs → forget bs ≡ bs
plain-stays bs h = blocks-stay bs h

-- So are those of an accepted record whose `raw` is plain.
pub plain-accepted : (s : Text) (bs : List Block) → answer s ≡ accepted bs → (h : Head) (ds : List Declaration) → read_record s ≡ record_is h ds
    → h.options.raw ≡ Raw.Plain → forget bs ≡ bs
plain-accepted s bs e h ds r p = record-forgets s s bs bs refl e e h ds r p

-- ==== Bytes

-- Of any blocks: without their numbers they have the same lines, some digits behind `raw_value` left out.
pub digits-out : (bs : List Block) → DigitsOut (render (program bs)) (render (program (forget bs)))
digits-out bs = blocks-out bs

-- ==== Runs

-- Of any blocks whose conditions, and whose variables for a payload's size, are not called like `raw_value`: from any two states that are the same but for
-- variables so called, the lines and those without numbers stand the same after any number of steps.
pub fares-same : (bs : List Block) → BlocksRead UnlikeRaw bs → (σ τ : State) → SameState σ τ → (steps : ℕ)
    → SameStanding (run steps σ (program bs)) (run steps τ (program (forget bs)))
fares-same bs h σ τ e steps =
    runs_same steps σ τ (program bs) (program (forget bs)) e (program-alike UnlikeRaw unlike-names bs h)

-- Of an accepted record that has no name like `raw_value`, on any frame, with any starting values and any list.
pub record-fares : (s : Text) (bs : List Block) → answer s ≡ accepted bs → (h : Head) (ds : List Declaration) → read_record s ≡ record_is h ds
    → NoneLikeRaw s h ds → (frame : List ℕ) (vars : Text → ℕ) (replies : List Reply) (steps : ℕ)
    → SameStanding (run steps (start frame vars replies) (program bs)) (run steps (start frame vars replies) (program (forget bs)))
record-fares s bs e h ds r k frame vars replies steps =
    fares-same bs (conditions-unlike s bs e h ds r k) (start frame vars replies) (start frame vars replies)
    (record { spans = refl; vars = λ x _. refl; turns = refl; replies = refl; read_and_skipped = refl }) steps

-- ==== Two records that differ in the line `raw` alone, of which the second has no numbers: it says `plain`, or the line is absent

module _ (s t : Text) (alike : without_raw s ≡ without_raw t) (k : Head) (es : List Declaration) (read : read_record t ≡ record_is k es)
    (plain : k.options.raw ≡ Raw.Plain) where
  -- "Where both fit, removing those digits must give the plain lines": what `lower` writes, into buffers of any two sizes.
  pub removing-digits : (room hall : ℕ) → (lower s room).answered ≡ 0 → (lower t hall).answered ≡ 0 → DigitsOut (lower s room).lines (lower t hall).lines
  removing-digits room hall y z = written_out s t room hall alike y z k es read plain

  -- "so, where no name of the record is `raw_value`, with or without digits behind it, a cut frame fares the same under both, from equal starting values and
  -- one list."
  pub fares-alike : (bs cs : List Block) → answer s ≡ accepted bs → answer t ≡ accepted cs
      → (h : Head) (ds : List Declaration) → read_record s ≡ record_is h ds → NoneLikeRaw s h ds
      → (frame : List ℕ) (vars : Text → ℕ) (replies : List Reply) (steps : ℕ)
      → SameStanding (run steps (start frame vars replies) (program bs)) (run steps (start frame vars replies) (program cs))
  fares-alike bs cs e f h ds r n frame vars replies steps =
      subst (λ (l : List Block). SameStanding (run steps (start frame vars replies) (program bs)) (run steps (start frame vars replies) (program l)))
      (record-forgets s t bs cs alike e f k es read plain) (record-fares s bs e h ds r n frame vars replies steps)

-- The second is not refused where the first fits: without the line and its numbers it fits too.
pub plain_fits : (s : Text) (room : ℕ) → (lower s room).answered ≡ 0 → (lower (without_raw s) room).answered ≡ 0
plain_fits s room z = without-fits s room z
