-- What the fields of a plan tell, one after the other: their lines and, where one is refused, why, and the lines of those before it. proofs/Tells has the
-- law that this is the stream over the fields (crate stream).
-- Assumes nothing.
use Rattle.std.specs.Prelude.{Ok, Err, Bool, true, false, not, ◌&&◌, List, [], ◌∷◌, ◌++◌, ℕ, ◌+◌, ◌/◌, ◌%◌, eqb, ltb}
use Rattle.definitions.specs.Refusals.{Verdict}
use Rattle.definitions.specs.Bytes.{Text}
use Rattle.definitions.specs.Blocks.{Kind, Bit, raws_behind}
use Rattle.definitions.specs.FieldParser.{next_nr}
use Rattle.definitions.specs.declared.Options.{Options}
use Rattle.definitions.specs.declared.Refusal.{Refusal}
use Rattle.stream.specs.Stream.{Result, refuses, writes, State, check_text, chunk_text, calm, chunk_at}
use Rattle.plans.specs.Planned.{Said, says, silent, stops, Planned, bit, other, bits_ahead}

-- ---- one field: its verdict, its lines, and the state behind it

pub record Advance : Type 0 where
  pub verdict : Verdict
  pub lines : Text
  pub after : State

module _ (o : Options) (s : State) (kind : Kind) (width later : ℕ) where
  -- the chunk with one field more
  abbrev pub grown_bits : List Bit
  grown_bits = s.chunk ++ (record { shift = s.shift; width = width; kind = kind } ∷ [])

  -- 12: an octet boundary with more than 64 bits
  unfoldable pub bit_advance : Advance
  bit_advance = elim (eqb ((s.shift + width) % 8) 0) [
    | true ↦ elim (ltb 64 (s.shift + width)) [
      | true ↦ record { verdict = Err Refusal.ScalarTooWide; lines = []; after = s }
      | false ↦ record {
        verdict = (Ok tt);
        lines = check_text s.pending ((s.shift + width + later) / 8) ++ chunk_text o (chunk_at s grown_bits);
        after = record {
          shift = 0;
          chunk = [];
          chunk_nr = next_nr s.chunk_nr grown_bits;
          raw_nr = raws_behind s.raw_nr grown_bits;
          pending = true;
        };
      }
    ]
    | false ↦ record {
      verdict = (Ok tt);
      lines = [];
      after = record { shift = s.shift + width; chunk = grown_bits; chunk_nr = s.chunk_nr; raw_nr = s.raw_nr; pending = s.pending };
    }
  ]

-- 10: lines are pending, and a chunk is open
abbrev pub flush_verdict : Bool → List Bit → Verdict
flush_verdict false bs = (Ok tt)
flush_verdict true [] = (Ok tt)
flush_verdict true (b ∷ bs) = Err Refusal.OpenChunk

-- 11: inside an open chunk, of so many bits
unfoldable pub on_shift : ℕ → Bool → Said → Said
on_shift shift must said = elim (must && not (eqb shift 0)) [ true ↦ stops Refusal.OctetBoundary | false ↦ said ]

abbrev pub said_advance : State → Said → Advance
said_advance s (says t) = record { verdict = (Ok tt); lines = t; after = s }
said_advance s silent = record { verdict = (Ok tt); lines = []; after = s }
said_advance s (stops why) = record { verdict = Err why; lines = []; after = s }

-- it first flushes what is pending
unfoldable pub other_advance : State → Bool → Said → Advance
other_advance s must said = elim (flush_verdict s.pending s.chunk) [
  | (Ok tt) ↦ said_advance (calm s) (on_shift s.shift must said)
  | Err why ↦ record { verdict = Err why; lines = []; after = s }
]

-- with the bits of the bit fields behind it
abbrev pub advance : Options → State → Planned → ℕ → Advance
advance o s (bit width kind) later = bit_advance o s kind width later
advance o s (other must said) later = other_advance s must said

-- ---- all fields

pub record Told : Type 0 where
  pub verdict : Verdict
  pub lines : Text

-- a field, and then what follows; a refusal tells no more
abbrev pub joined : Verdict → Text → Told → Told
joined (Ok tt) t next = record { verdict = next.verdict; lines = t ++ next.lines }
joined (Err why) t next = record { verdict = Err why; lines = t }

unfoldable pub tell : Options → State → List Planned → Told
tell o s [] = record { verdict = flush_verdict s.pending s.chunk; lines = [] }
tell o s (p ∷ later) =
    joined (advance o s p (bits_ahead later)).verdict (advance o s p (bits_ahead later)).lines
    (tell o (advance o s p (bits_ahead later)).after later)

-- as the stream's
abbrev pub result_by : Verdict → Text → Result
result_by (Ok tt) t = writes t
result_by (Err why) t = refuses why

abbrev pub result_of : Told → Result
result_of r = result_by r.verdict r.lines
