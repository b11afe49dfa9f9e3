-- The lowering of a list of fields as a stream of bytes, for code without a heap. The Rust collects a run's lines in `unchecked_code` and prints the
-- check when it flushes. Here nothing is held back: where the first chunk of a run closes, the run's byte total is found by looking ahead over the
-- widths of the fields that follow, the check is written, and each chunk's lines as it closes. proofs/Same has the law that both give the same.
-- Assumes nothing.
use Rattle.std.specs.Prelude.{ℕ, ◌+◌, ◌/◌, ◌%◌, Bool, true, false, List, [], ◌∷◌, ◌++◌, ◌==◌, nat_lt}
use Rattle.definitions.specs.Bytes.{Text}
use Rattle.definitions.specs.Sizes.{Annotated, static_width}
use Rattle.definitions.specs.Lines.{Expr, line_text, lines_text, render}
use Rattle.definitions.specs.Blocks.{Bit, Chunk, raws_behind, check_size, chunk_lines, Block, block_lines, program}
use Rattle.definitions.specs.FieldParser.{Setting, bit_of, next_nr, is_bit, parse_unchecked, Emit, appends, silent, Outcome, refused, accepted}
use Rattle.definitions.specs.FieldParser as parser
use Rattle.definitions.specs.declared.Options.{Options}
use Rattle.definitions.specs.declared.Refusal.{Refusal}

pub data Result : Type 0 where
  refuses : Refusal → Result
  writes : Text → Result

-- a text, and then what follows; a refusal further on drops it
abbrev pub ahead : Text → Result → Result
ahead t (refuses why) = refuses why
ahead t (writes u) = writes (t ++ u)

-- what the definitions' outcome comes to
abbrev pub rendered : Outcome → Result
rendered (refused why) = refuses why
rendered (accepted bs) = writes (render (program bs))

-- the open chunk, and whether the present run has its check
pub record State : Type 0 where
  pub shift : ℕ
  pub chunk : List Bit
  pub chunk_nr : ℕ
  pub raw_nr : ℕ
  pub pending : Bool

abbrev pub fresh : State
fresh = record { shift = 0; chunk = []; chunk_nr = 0; raw_nr = 0; pending = false }

abbrev pub width_of : Annotated → ℕ
width_of a = static_width a.field_size

-- the bits of the bit fields up to the next other field
unfoldable pub run_bits : Setting → List Annotated → ℕ
run_bits c [] = 0
run_bits c (a ∷ later) = elim (is_bit c a.field) [ true ↦ width_of a + run_bits c later | false ↦ 0 ]

-- `check_size`, before the first chunk of a run only
unfoldable pub check_text : Bool → ℕ → Text
check_text true n = []
check_text false n = line_text 0 (check_size (Expr.lit n)) []

-- the lines of one chunk
unfoldable pub chunk_text : Options → Chunk → Text
chunk_text o c = lines_text 0 (chunk_lines o c) []

-- the lines of one block
unfoldable pub block_text : Block → Text
block_text b = render (block_lines b [])

-- 10: lines are pending, and a chunk is open
abbrev pub flushing : Bool → List Bit → Result → Result
flushing false bs next = next
flushing true [] next = next
flushing true (b ∷ bs) next = refuses Refusal.OpenChunk

-- what a field that is no bit field emits, and then what follows
abbrev pub emitting : Emit → Result → Result
emitting (appends b) next = ahead (block_text b) next
emitting silent next = next
emitting (parser.refuses why) next = refuses why

-- the chunk with one field more
abbrev pub grown : Setting → State → Annotated → List Bit
grown c s a = s.chunk ++ (bit_of c s.shift a ∷ [])

abbrev pub opened : Setting → State → Annotated → State
opened c s a =
    record { shift = s.shift + width_of a; chunk = grown c s a; chunk_nr = s.chunk_nr; raw_nr = s.raw_nr; pending = s.pending }

abbrev pub closed : Setting → State → Annotated → State
closed c s a =
    record {
      shift = 0;
      chunk = [];
      chunk_nr = next_nr s.chunk_nr (grown c s a);
      raw_nr = raws_behind s.raw_nr (grown c s a);
      pending = true;
    }

-- after a field that is no bit field
abbrev pub calm : State → State
calm s = record { shift = s.shift; chunk = s.chunk; chunk_nr = s.chunk_nr; raw_nr = s.raw_nr; pending = false }

-- the chunk that closes, of these fields
abbrev pub chunk_at : State → List Bit → Chunk
chunk_at s bs = record { nr = s.chunk_nr; raw_nr = s.raw_nr; fields = bs }

-- what a closed chunk writes
abbrev pub closing : Setting → State → Annotated → List Annotated → Text
closing c s a later =
    check_text s.pending ((s.shift + width_of a + run_bits c later) / 8)
    ++ chunk_text c.options (chunk_at s (grown c s a))

-- the fields from one on, at a state
unfoldable pub stream : Setting → State → List Annotated → Result
stream c s [] = flushing s.pending s.chunk (writes [])
stream c s (a ∷ later) = elim (is_bit c a.field) [
  | true ↦ elim ((s.shift + width_of a) % 8 == 0) [
    | true ↦ elim (nat_lt 64 (s.shift + width_of a)) [
      | true ↦ refuses Refusal.ScalarTooWide
      | false ↦ ahead (closing c s a later) (stream c (closed c s a) later)
    ]
    | false ↦ stream c (opened c s a) later
  ]
  | false ↦ flushing s.pending s.chunk (emitting (parse_unchecked c s.shift a later) (stream c (calm s) later))
]
