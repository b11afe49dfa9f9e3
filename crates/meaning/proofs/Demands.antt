-- What is proved of every accepted record, and of every packet and struct that is lowered: demand 3, and of demand 2 the bits. Read this file first.
-- The statements name `answer` and `program` (definitions: Answer, Blocks), `run` (specs/Machine), plain lines (specs/Plain), the reference's rule
-- (specs/Rule), checked runs (specs/Runs) and places (specs/Places).
-- Assumes nothing.
use Rattle.std.specs.Prelude.{Some}
use mathlib.Core.Bool.{true}
use mathlib.Core.List.{List, ◌++◌}
use mathlib.Core.Path.{◌≡◌, subst}
use Prim.Native.Nat.{ℕ, ◌+◌, ◌*◌, ◌/◌, ◌^◌, ◌<◌}
use lib.ListN.{length, drop}
use Rattle.definitions.specs.Bytes.{Text}
use Rattle.definitions.specs.Sizes.{Entry}
use Rattle.definitions.specs.Lines.{Stmt, render}
use Rattle.definitions.specs.Blocks.{span, Block, program}
use Rattle.definitions.specs.FieldParser.{Setting, accepted}
use Rattle.definitions.specs.Answer.{setting_of, answer, lower}
use Rattle.definitions.specs.declared.Head.{Head}
use Rattle.meaning.specs.Machine.{Reply, State, start, running, beyond, run, Inside}
use Rattle.meaning.specs.Plain.{PlainNext}
use Rattle.meaning.specs.Written.{written}
use Rattle.meaning.specs.Rule.{Octets, runs}
use Rattle.meaning.specs.Runs.{CheckedRun, run_lines, behind_run, all_widths, Passes, ComeTo, RunToItsEnd, runs_in, placed_runs, Target, target_of, setting}
use Rattle.meaning.specs.Places.{BitField, ChunkOf, at_field, Given}
use Rattle.meaning.proofs.Safe.{never, plain-next}
use Rattle.meaning.proofs.Wellformed.{BlocksOk}
use Rattle.meaning.proofs.Frame.{inside}
use Rattle.meaning.proofs.Whole.{later-ok}
use Rattle.meaning.proofs.Entries.{Lowers, has-grounds, grounds}
use Rattle.meaning.proofs.Accepted.{blocks-ok-of, blocks-ok}
use Rattle.meaning.proofs.Grouped.{shaped_of}
use Rattle.meaning.proofs.Located.{chunk_of}
use Rattle.meaning.proofs.Printed.{lines-printed}
use Rattle.meaning.proofs.Listed.{all-written}
use Rattle.meaning.proofs.Reaching.{checked-ok-of, number-widths, ended-moved, come-behind, given-bits}

-- ==== Demand 3

-- Of the blocks bs, whose lines they are, and of c, what the fields are lowered with. "Demand 3 is one statement on the run as a whole, over every such
-- list and every number of steps, zero too; statements on single lines do not stand for it."
pub record Demand3 (c : Setting) (bs : List Block) : Type 0 where
  -- Whatever frame shorter than 2^31 bytes is sent, whatever the variables hold at the start, whatever each nested parser consumes and answers, and
  -- whatever each test of an enum answers: however many of the lines have run, none has read, skipped or taken a part beyond what its span
  -- then held. (Where a premise is broken the run is `excused` from there on.)
  pub never-beyond : (frame : List ℕ) → length frame < 2 ^ 31
      → (vars : Text → ℕ) → ((x : Text) → vars x < 2 ^ 64)
      → (replies : List Reply) (steps : ℕ)
      → run steps (start frame vars replies) (program bs) ≡ beyond → ⊥
  -- The same from any state before any block: whatever is written into variables and spans between two blocks (a C++ name that goes out of scope).
  pub from-any-block : (pre post : List Block) → bs ≡ pre ++ post → (σ : State) (steps : ℕ) → run steps σ (program post) ≡ beyond → ⊥
  -- And so never beyond the frame's end: every span is a part of the frame.
  pub inside-the-frame : (frame : List ℕ) (vars : Text → ℕ) (replies : List Reply) (steps : ℕ) (σ : State) (l : List Stmt)
      → run steps (start frame vars replies) (program bs) ≡ running σ l
      → (x : Text) → Inside frame (σ.spans x)
  -- In each checked run the checked number equals the sum of the widths of its chunks over 8; the sum is whole octets.
  pub number_is : (r : CheckedRun bs) → (r.number ≡ all_widths r.chunks / 8) × (8 * r.number ≡ all_widths r.chunks)
  -- The checked runs, in order, are the runs of the target's bit fields: the chunks of each are the groups that were closed since the flush before, each
  -- field with the width that the record gives it.
  pub runs_are : runs_in bs ≡ placed_runs c (runs c)
  -- Wherever a checked run is run to its end, from the state σ to the state τ, the number is that of the bytes it reads and skips; and these were the
  -- first of the span.
  pub run-to-its-end : (r : CheckedRun bs) (σ τ : State) → Passes (run_lines r) (behind_run r) σ τ
      → (τ.spans span ≡ drop r.number (σ.spans span)) × (τ.read_and_skipped ≡ σ.read_and_skipped + r.number)
  -- And a run of the lines that has come behind a checked run, now or at an earlier step, has run it to its end.
  pub behind-is-ended : (r : CheckedRun bs) (σ : State) (k : ℕ) → ComeTo (behind_run r) bs σ k → RunToItsEnd bs r σ k

-- For every entry whose fields give these blocks: the target of an accepted record, or another of its packets and structs (document 02, Card 13).
pub demand-3-of : (s : Text) (h : Head) (e : Entry) (bs : List Block) → Lowers s h e bs → Demand3 (setting_of s h e) bs
demand-3-of s h e bs l =
    let ok = blocks-ok-of s h e bs l in
    record {
      never-beyond = λ frame short vars small replies steps. never bs ok (start frame vars replies) steps;
      from-any-block = λ pre post f σ steps. never post (later-ok pre post (subst BlocksOk f ok)) σ steps;
      inside-the-frame = λ frame vars replies steps σ l f. inside frame vars replies steps (program bs) l σ f;
      number_is = λ r. number-widths r.number r.chunks (checked-ok-of s h e bs l r);
      runs_are = (shaped_of s h e bs l).runs_are;
      run-to-its-end = λ r. ended-moved bs r (checked-ok-of s h e bs l r);
      behind-is-ended = λ r. come-behind bs r (checked-ok-of s h e bs l r);
    }

-- For every record that is accepted, and its target.
pub demand-3 : (s : Text) (bs : List Block) → answer s ≡ accepted bs → (t : Target) → target_of s ≡ Some t → Demand3 (setting s t) bs
demand-3 s bs e t f = demand-3-of s t.head t.entry bs (grounds s bs e t f).lowered

-- Stronger than asked: wherever a run of the lines has come, the line that is run next uses no number below zero but on the right of a `<`, and
-- divides by no zero. So what these would give, which the machine has from outside, does not matter: proofs/Outside. Nor, where the span has fewer
-- than 2^31 bytes, does it use a product past 2^31 − 1 but on the right of a `<`: only a plain check of a product asks for one (document 02, Card 8).
pub plain : (s : Text) (bs : List Block) → answer s ≡ accepted bs
    → (frame : List ℕ) (vars : Text → ℕ) (replies : List Reply) (steps : ℕ) (σ : State) (l : List Stmt)
    → run steps (start frame vars replies) (program bs) ≡ running σ l → PlainNext σ l
plain s bs e frame vars replies steps σ l f = plain-next bs (blocks-ok s bs e) (start frame vars replies) σ steps l f

-- ==== Demand 2, the bits

-- Of a bit field d among the fields that are lowered with c.
pub record Demand2Bits (bs : List Block) (c : Setting) (d : BitField c) : Type 0 where
  -- It has a chunk in a checked run.
  pub chunk : ChunkOf bs c d
  -- And wherever its chunk stands: run on a frame, the lines give the field, once they have come to it, now or at an earlier step, the bits that the
  -- reference's rule gives it out of the octets read for its run: see `Given`.
  pub given : (h : ChunkOf bs c d) (frame : List ℕ) → Octets frame → (vars : Text → ℕ) (replies : List Reply) (k : ℕ)
      → ComeTo (at_field bs c d h) bs (start frame vars replies) k → Given bs c d h (start frame vars replies) k

-- For every entry whose fields give these blocks, and every bit field of it that stands in a group of whole octets and is no reserved one.
pub bits_of : (s : Text) (h : Head) (e : Entry) (bs : List Block) → Lowers s h e bs
    → (d : BitField (setting_of s h e)) → Demand2Bits bs (setting_of s h e) d
bits_of s h e bs l d =
    record {
      chunk = chunk_of bs (setting_of s h e) (shaped_of s h e bs l) d;
      given = λ c. given-bits bs (setting_of s h e) d c (checked-ok-of s h e bs l c.in_run);
    }

-- For every record that is accepted, and every bit field of its target that stands in a group of whole octets and is no reserved one.
pub bits : (s : Text) (bs : List Block) → answer s ≡ accepted bs
    → (t : Target) → target_of s ≡ Some t → (d : BitField (setting s t)) → Demand2Bits bs (setting s t) d
bits s bs e t f d = bits_of s t.head t.entry bs (grounds s bs e t f).lowered d

-- An accepted record has a target.
pub has-target : (s : Text) (bs : List Block) → answer s ≡ accepted bs → (t : Target) × (target_of s ≡ Some t)
has-target s bs e =
    let h = has-grounds s bs e in
    (h.0, h.1.is-target)

-- ==== The lines that these speak of

-- Where `lower` answers 0, the record is accepted, and what it writes is the text of the lines that are run.
pub printed : (s : Text) (room : ℕ) → (lower s room).answered ≡ 0
    → (bs : List Block) × (answer s ≡ accepted bs) × ((lower s room).lines ≡ render (program bs))
printed s room z = lines-printed s room z

-- The text of these lines is read in one way: every expression is in brackets where C++ would read it otherwise, and no line is one that only a run makes.
pub written-so : (bs : List Block) → written (program bs) ≡ true
written-so bs = all-written bs
