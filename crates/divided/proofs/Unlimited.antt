-- What follows for an accepted record whose head says `divide`: no line tests a product, so the premise on products is dropped. The statements name
-- `answer` and `program` (definitions: Answer, Blocks), `run` and `run_with` (meaning/specs: Machine, Outside), and what is in specs/ here.
-- Assumes nothing.
use mathlib.Core.List.{List}
use mathlib.Core.Path.{◌≡◌, sym, ◌∙◌}
use Prim.Native.Nat.{ℕ, suc, ◌^◌, ◌<◌}
use lib.IntN.{ℤ}
use lib.ListN.{length}
use Rattle.definitions.specs.Bytes.{Text}
use Rattle.definitions.specs.Record.{Declaration, record_is, read_record}
use Rattle.definitions.specs.Lines.{Stmt}
use Rattle.definitions.specs.Blocks.{span, Block, program}
use Rattle.definitions.specs.FieldParser.{accepted}
use Rattle.definitions.specs.Answer.{answer}
use Rattle.definitions.specs.declared.Products.{Products}
use Rattle.definitions.specs.declared.Head.{Head}
use Rattle.meaning.specs.Machine.{Cause, State, Reply, start, over, Arithmetic, running, returned, excused, beyond, run, Inside}
use Rattle.meaning.specs.Outside.{run_with}
use Rattle.meaning.specs.Plain.{PlainNext}
use Rattle.meaning.proofs.Accepted.{blocks-ok}
use Rattle.meaning.proofs.Safe.{plain-next}
use Rattle.meaning.proofs.Frame.{inside}
use Rattle.meaning.proofs.Outside.{any-product, any-product-safe}
use Rattle.divided.specs.Undivided.{undivide}
use Rattle.divided.specs.Checks.{NoProductTested}
use Rattle.divided.proofs.Listings.{program-checks, program-tests}
use Rattle.divided.proofs.Records.{short-inside}
use Rattle.divided.proofs.Turned.{runs-turned}
use Rattle.divided.proofs.Unexcused.{Short, Reaches, never-past}
use Rattle.divided.proofs.Divided.{blocks-divided}

module _ (s : Text) (bs : List Block) (accepts : answer s ≡ accepted bs) (h : Head) (ds : List Declaration) (read : read_record s ≡ record_is h ds)
    (divides : h.options.products ≡ Products.Divide) where
  -- No `<` in its lines has a product on its right: "each size check on A * B" is by a division.
  pub each-divided : NoProductTested (program bs)
  each-divided = program-tests bs (blocks-divided s bs accepts h ds read divides)

  -- wherever a run from a short frame comes to, the line that is run next is plain, and the span is short
  reached : (frame : List ℕ) → length frame < 2 ^ 31 → (vars : Text → ℕ) (replies : List Reply)
      → Reaches (start frame vars replies) (program bs) (λ τ r. PlainNext τ r × Short τ)
  reached frame short vars replies j τ r e = (
    plain-next bs (blocks-ok s bs accepts) (start frame vars replies) τ j r e,
    short-inside frame (τ.spans span) short (inside frame vars replies j (program bs) r τ e span),
  )

  -- "For these records the premise on products is dropped: any counts and any frame below 2^31 bytes": a run of document 01's machine is never excused
  -- by a product.
  pub never-by-product : (frame : List ℕ) → length frame < 2 ^ 31 → (vars : Text → ℕ) (replies : List Reply) (steps : ℕ)
      → run steps (start frame vars replies) (program bs) ≡ excused Cause.by_product → ⊥
  never-by-product frame short vars replies steps =
      never-past steps (start frame vars replies) (program bs) each-divided (reached frame short vars replies)

  -- "a product past 2^31 − 1 giving any number, and still nothing past the end; sums keep theirs": `m` says for each step what a product past 2^31 − 1
  -- gives, and is asked only that a sum past it breaks the premise on sums. Whatever `m` gives, the run is the same,
  pub any-product-same : (frame : List ℕ) → length frame < 2 ^ 31 → (vars : Text → ℕ) (replies : List Reply) (steps : ℕ)
      → (m : ℕ → Arithmetic) → ((k : ℕ) (x y : ℤ) → (m k).sum x y ≡ over Cause.by_sum)
      → run_with m steps (start frame vars replies) (program bs) ≡ run steps (start frame vars replies) (program bs)
  any-product-same frame short vars replies steps m sums =
      any-product s bs accepts (start frame vars replies) steps m sums (never-by-product frame short vars replies steps)

  -- no line asks for bytes beyond the end of its span,
  pub never-beyond-divided : (frame : List ℕ) → length frame < 2 ^ 31 → (vars : Text → ℕ) (replies : List Reply) (steps : ℕ)
      → (m : ℕ → Arithmetic) → ((k : ℕ) (x y : ℤ) → (m k).sum x y ≡ over Cause.by_sum)
      → run_with m steps (start frame vars replies) (program bs) ≡ beyond → ⊥
  never-beyond-divided frame short vars replies steps m sums =
      any-product-safe s bs accepts (start frame vars replies) steps m sums (never-by-product frame short vars replies steps)

  -- and each span is a part of the frame.
  pub inside-the-frame-divided : (frame : List ℕ) → length frame < 2 ^ 31 → (vars : Text → ℕ) (replies : List Reply) (steps : ℕ)
      → (m : ℕ → Arithmetic) → ((k : ℕ) (x y : ℤ) → (m k).sum x y ≡ over Cause.by_sum)
      → (σ : State) (l : List Stmt) → run_with m steps (start frame vars replies) (program bs) ≡ running σ l
      → (x : Text) → Inside frame (σ.spans x)
  inside-the-frame-divided frame short vars replies steps m sums σ l e =
      inside frame vars replies steps (program bs) l σ (sym (any-product-same frame short vars replies steps m sums) ∙ e)

  -- Where the lines without divisions break the premise on products, these come to a `return false;`, at the latest one step later.
  pub turned-back : (frame : List ℕ) → length frame < 2 ^ 31 → (vars : Text → ℕ) (replies : List Reply) (steps : ℕ)
      → run steps (start frame vars replies) (program (undivide bs)) ≡ excused Cause.by_product
      → run (suc steps) (start frame vars replies) (program bs) ≡ returned
  turned-back frame short vars replies steps =
      runs-turned steps (start frame vars replies) (program bs) (program (undivide bs)) (program-checks bs) each-divided
      (reached frame short vars replies)
