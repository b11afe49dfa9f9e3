-- A chunk of the code, with the kinds beside it, as the definitions' list of bit fields.
-- Assumes nothing.
use Rattle.std.specs.Prelude.{Bool, true, false, List, [], ◌∷◌, ◌++◌, ◌≡◌, ℕ, zero, suc, ◌+◌, ◌/◌, ◌≤◌, ◌<◌, ◌^◌, get_or, take}
use Rattle.std.specs.List.{list_all}
use Rattle.definitions.specs.Bytes.{Text}
use Rattle.definitions.specs.Lines.{Line, Before, line_text, lines_text}
use Rattle.definitions.specs.Blocks.{Bit, bits_lines, chunk_name, get_cxx_scalar_type, read_of, span}
use Rattle.definitions.specs.Blocks as blocks
use Rattle.definitions.specs.declared.Arrays.{Arrays}
use Rattle.definitions.specs.declared.EndiannessValue.{EndiannessValue}
use Rattle.definitions.specs.declared.Options.{Options}
use Rattle.bit_fields.specs.declared.KindAt.{KindAt}
use Rattle.bit_fields.specs.Kinds.{kind_in}
use Rattle.chunk_lines.specs.declared.Chunk.{Chunk}
use Rattle.chunk_lines.specs.declared.WholeChunk.{WholeChunk}

abbrev pub is_reserved_at : KindAt → Bool
is_reserved_at KindAt.Reserved = true
is_reserved_at _ = false

-- a tested enum takes a number
abbrev pub next_raw_at : ℕ → KindAt → ℕ
next_raw_at k (KindAt.ClosedEnum id type) = k + 1
next_raw_at k _ = k

-- the kind of the field i
abbrev pub held_at : List KindAt → ℕ → KindAt
held_at kinds i = get_or kinds i KindAt.Reserved

-- the first n kinds are reserved
abbrev pub all_reserved : List KindAt → ℕ → Bool
all_reserved kinds n = list_all is_reserved_at (take n kinds)

-- the sum of the first n widths
unfoldable pub sum_to : List ℕ → ℕ → ℕ
sum_to ws zero = 0
sum_to ws (suc n) = sum_to ws n + get_or ws n 0

-- of a record, its word bytes and its mode
abbrev pub bit_at : Arrays → Text → Text → Chunk → List KindAt → ℕ → Bit
bit_at m s word c kinds i =
    record { shift = get_or c.shifts i 0; width = get_or c.widths i 0; kind = kind_in m s word (held_at kinds i) }

-- the first n fields
unfoldable pub bits_of : Arrays → Text → Text → Chunk → List KindAt → ℕ → List Bit
bits_of m s word c kinds zero = []
bits_of m s word c kinds (suc n) = bits_of m s word c kinds n ++ (bit_at m s word c kinds n ∷ [])

-- a chunk of one field
abbrev pub alone_of : Arrays → Text → Text → ℕ → KindAt → List Bit
alone_of m s word width kind = record { shift = 0; width = width; kind = kind_in m s word kind } ∷ []

-- the definitions' chunk of these fields
abbrev pub chunk_of : ℕ → ℕ → List Bit → blocks.Chunk
chunk_of nr raws bs = record { nr = nr; raw_nr = raws; fields = bs }

-- ---- bytes

-- `span.skip(N); // skip reserved fields`
unfoldable pub skip_text : ℕ → Text
skip_text bits = line_text 0 (Line.reserved span (bits / 8)) []

-- the lines of the first n fields, out of the chunk's variable
unfoldable pub bits_text : Options → Text → Text → WholeChunk → Chunk → List KindAt → ℕ → Text
bits_text o s word whole c kinds n =
    lines_text 0 (bits_lines o.raw (chunk_name whole.nr) whole.raws (bits_of o.arrays s word c kinds n)) []

-- `uintW_t chunkN = span.read_le<uintW_t, N>();`
unfoldable pub head_text : EndiannessValue → ℕ → ℕ → ℕ → Text
head_text order nr backing w = line_text 0 (Line.set (Before.chunk backing) (chunk_name nr) (read_of span order w)) []

-- ---- what the writers ask of a chunk

-- no field is wider than 64 bits
pub record Narrow (c : Chunk) : Type 0 where
  pub short : c.len ≤ 64
  pub narrow : (i : ℕ) → i < c.len → get_or c.widths i 0 ≤ 64

-- the numbers of 64 tested enums more fit
abbrev pub Fits : WholeChunk → Type 0
Fits whole = whole.raws + 64 < 2 ^ 64

-- two fields or more at an octet boundary, with their bits and the backing type
pub record Closed (c : Chunk) (kinds : List KindAt) (whole : WholeChunk) : Type 0 where
  pub short : c.len ≤ 64
  pub more : 1 < c.len
  pub sum : whole.bits ≡ sum_to c.widths c.len
  pub small : whole.bits ≤ 64
  pub type : whole.backing ≡ get_cxx_scalar_type whole.bits
  pub skips : whole.skip ≡ all_reserved kinds c.len
