-- The code's chunk and state as the stream's, and what closing a chunk and `check_code` come to.
-- Assumes nothing.
use Rattle.std.specs.Prelude.{Result, Ok, Err, IfOk, Bool, true, false, not, ◌&&◌, if◌then◌else◌, List, [], ◌++◌, ◌≡◌, ℕ, ◌+◌, ◌/◌, ◌≤◌, ◌<◌, ◌^◌, eqb, ltb, set, replicate}
use Rattle.definitions.specs.Refusals.{Verdict}
use Rattle.definitions.specs.Blocks.{Bit, raws_behind}
use Rattle.definitions.specs.FieldParser.{next_nr}
use Rattle.definitions.specs.declared.Options.{Options}
use Rattle.definitions.specs.declared.Refusal.{Refusal}
use Rattle.text.specs.Wrote.{Wrote}
use Rattle.text.specs.declared.Writer.{Writer}
use Rattle.stream.specs.Stream.{check_text, chunk_text, chunk_at}
use Rattle.stream.specs.Stream as flow
use Rattle.plans.specs.Told.{Advance}
use Rattle.chunk_lines.specs.declared.Chunk.{Chunk}
use Rattle.chunk_lines.specs.Bits.{sum_to}
use Rattle.chunks.specs.declared.State.{State}

-- ---- chunk and state

-- the state as the stream's, with the fields of its chunk
abbrev pub seen : State → List Bit → flow.State
seen t bs = record { shift = t.shift; chunk = bs; chunk_nr = t.nr; raw_nr = t.raws; pending = t.pending }

-- with a field of so many bits alone in its chunk
abbrev pub alone_at : State → ℕ → List Bit → flow.State
alone_at t width bs = record { shift = width; chunk = bs; chunk_nr = t.nr; raw_nr = t.raws; pending = t.pending }

abbrev pub new_state : State
new_state = record { shift = 0; nr = 0; raws = 0; pending = false }

abbrev pub no_fields : Chunk
no_fields = record { shifts = replicate 64 0; widths = replicate 64 0; len = 0 }

abbrev pub pushed : Chunk → ℕ → ℕ → Chunk
pushed c shift width =
    record { shifts = set c.shifts c.len shift; widths = set c.widths c.len width; len = c.len + 1 }

abbrev pub opened_state : State → ℕ → State
opened_state t width = record { shift = t.shift + width; nr = t.nr; raws = t.raws; pending = t.pending }

-- ---- `check_code`

-- 10: lines are pending, and a chunk is open
abbrev pub code_verdict : Bool → ℕ → Verdict
code_verdict pending len = if pending && not (eqb len 0) then Err Refusal.OpenChunk else Ok tt

-- ---- a chunk at an octet boundary

-- the number of the next chunk
abbrev pub next_by : Bool → ℕ → ℕ
next_by true nr = nr
next_by false nr = nr + 1

-- the state behind it
abbrev pub closed_after : flow.State → flow.State
closed_after s =
    record {
      shift = 0;
      chunk = [];
      chunk_nr = next_nr s.chunk_nr s.chunk;
      raw_nr = raws_behind s.raw_nr s.chunk;
      pending = true;
    }

-- 12: it has more than 64 bits
unfoldable pub close_advance : Options → flow.State → ℕ → Advance
close_advance o s later = elim (ltb 64 s.shift) [
  | true ↦ record { verdict = Err Refusal.ScalarTooWide; lines = []; after = s }
  | false ↦ record {
    verdict = (Ok tt);
    lines = check_text s.pending ((s.shift + later) / 8) ++ chunk_text o (chunk_at s s.chunk);
    after = closed_after s;
  }
]

abbrev pub closed_state : ℕ → ℕ → State
closed_state nr raws = record { shift = 0; nr = nr; raws = raws; pending = true }

-- what `close` asks of a chunk: two fields or more with the bits of the state, and sums that fit
pub record Closing (t : State) (c : Chunk) (later : ℕ) : Type 0 where
  pub more : 1 < c.len
  pub short : c.len ≤ 64
  pub sum : t.shift ≡ sum_to c.widths c.len
  pub fits : t.shift + later < 2 ^ 64
  pub few : t.nr + 1 < 2 ^ 64
  pub tested : t.raws + 64 < 2 ^ 64

-- ---- what a step comes to

-- the verdict of an answer with a state
abbrev pub verdict_of : Result State Refusal → Verdict
verdict_of (Ok t) = Ok tt
verdict_of (Err why) = Err why

-- an advance of the stream, with these fields in the chunk behind it. A refusal has no state: the one before it stays
pub record Advanced (a : Advance) (bs : List Bit) (old new : Writer) (r : Result State Refusal) : Type 0 where
  pub verdict_is : verdict_of r ≡ a.verdict
  pub wrote : Wrote old new a.lines
  pub goes_on : IfOk r (λ t. seen t bs ≡ a.after)
