-- The lines of a checked run: a share for each of its bit fields, which pays for the read of the field's chunk and for the run's check too.
-- Assumes nothing.
use mathlib.Core.Bool.{Bool, true, false}
use mathlib.Core.List.{List, [], ◌∷◌, ◌++◌}
use mathlib.Core.Path.{◌≡◌, refl, ap}
use Prim.Native.Nat.{ℕ, ◌+◌, ◌*◌, ◌/◌, ◌≤◌, ◌<◌}
use native.Mathlib.Omega.{arith}
use lib.ListN.{length, length-append}
use Rattle.definitions.specs.Bytes.{Text, pick, decimal, hexadecimal}
use Rattle.definitions.specs.Lines.{Src, Line, Stmt, line_text, lines_text, render}
use Rattle.definitions.specs.Blocks.{span, body, Kind, Bit, Chunk, widths, get_cxx_scalar_type, read_of, mask, raw_name, next_raw, kind_lines, should_skip_value, chunk_name, bits_lines, read_lines, chunk_lines, chunks_lines, Block}
use Rattle.definitions.specs.declared.EndiannessValue.{EndiannessValue}
use Rattle.definitions.specs.declared.Raw.{Raw}
use Rattle.definitions.specs.declared.Options.{Options}
use Rattle.definitions.proofs.Raws.{next-most}
use Rattle.lengths.specs.Shares.{own_lines, chunk_read, bit_field}
use Rattle.lengths.proofs.Digits.{decimal-any, decimal-width, decimal-bytes, hexadecimal-any, mask-short}
use Rattle.lengths.proofs.Shapes.{order-length, scalar-type}
use Rattle.lengths.proofs.Others.{Within}

-- ---- one field

-- its variable is `output->{id}_element_size_` at most
abbrev pub KindShort : Kind → Type 0
KindShort (Kind.number x) = length x ≤ 54
KindShort (Kind.condition x) = length x ≤ 54
KindShort (Kind.open_enum x type) = (length x ≤ 54) × (length type ≤ 32)
KindShort (Kind.closed_enum x type) = (length x ≤ 54) × (length type ≤ 32)
KindShort (Kind.fixed_scalar n) = Unit {0}
KindShort (Kind.fixed_enum type tag) = (length type ≤ 32) × (length tag ≤ 32)
KindShort Kind.reserved = Unit {0}

-- so many bits end the chunk that it stands in
pub record BitShort (end : ℕ) (b : Bit) : Type 0 where
  pub kind : KindShort b.kind
  pub place : b.shift + b.width ≤ end

abbrev pub AllShort : ℕ → List Bit → Type 0
AllShort end [] = Unit {0}
AllShort end (b ∷ bs) = BitShort end b × AllShort end bs

-- a target has at most 64 tested enums: `raw_value` and up to two digits
raw-short : (m : Raw) (k : ℕ) → k ≤ 64 → length (raw_name m k) ≤ 11
raw-short Raw.Plain k h = omega arith
raw-short Raw.Numbered k h = simp length-append (omega (arith, decimal-width k h))

-- the bits of a chunk that is held in a variable: the numbers of the chunk, of the shift and of the mask; a tested enum is held in r
module _ (nr shift w : ℕ) (a : length (decimal nr) ≤ 64) (b : length (decimal shift) ≤ 2) (c : length (hexadecimal (mask w)) ≤ 18) (r : Text)
    (z : length r ≤ 11) (u : Text) where
  held-lines : (k : Kind) → KindShort k → length (lines_text 0 (kind_lines r (Src.bits (chunk_name nr) shift (mask w)) k) u) ≤ own_lines + length u
  held-lines (Kind.number x) h = simp length-append (omega arith)
  held-lines (Kind.condition x) h = simp length-append (omega arith)
  held-lines (Kind.open_enum x type) h = simp length-append (omega arith)
  held-lines (Kind.closed_enum x type) h = simp length-append (omega arith)
  held-lines (Kind.fixed_scalar n) h = simp length-append (omega (arith, hexadecimal-any n))
  held-lines (Kind.fixed_enum type tag) h = simp length-append (omega arith)
  held-lines Kind.reserved h = omega arith

-- the bits of a chunk of one field: the numbers of the type and of the bytes
module _ (o : EndiannessValue) (w : ℕ) (a : length (decimal (get_cxx_scalar_type w)) ≤ 2) (b : length (decimal (w / 8)) ≤ 64) (r : Text)
    (z : length r ≤ 11) (u : Text) where
  read-lines : (k : Kind) → KindShort k → length (lines_text 0 (kind_lines r (read_of span o w) k) u) ≤ own_lines + length u
  read-lines (Kind.number x) h = simp (length-append, order-length) (omega arith)
  read-lines (Kind.condition x) h = simp (length-append, order-length) (omega arith)
  read-lines (Kind.open_enum x type) h = simp (length-append, order-length) (omega arith)
  read-lines (Kind.closed_enum x type) h = simp (length-append, order-length) (omega arith)
  read-lines (Kind.fixed_scalar n) h = simp (length-append, order-length) (omega (arith, hexadecimal-any n))
  read-lines (Kind.fixed_enum type tag) h = simp (length-append, order-length) (omega arith)
  read-lines Kind.reserved h = omega arith

-- ---- one chunk

lines-append : (d : ℕ) (a b : List Line) (u : Text) → lines_text d (a ++ b) u ≡ lines_text d a (lines_text d b u)
lines-append d [] b u = refl
lines-append d (x ∷ a) b u = ap (line_text d x) (lines-append d a b u)

bits-lines : (m : Raw) (nr k : ℕ) (bs : List Bit) (u : Text) → AllShort 64 bs → k + length bs ≤ 64
    → length (lines_text 0 (bits_lines m (chunk_name nr) k bs) u) ≤ own_lines * length bs + length u
bits-lines m nr k [] u h e = omega arith
bits-lines m nr k (b ∷ bs) u h e =
    rw lines-append
    (omega (
      arith,
      held-lines nr b.shift b.width (decimal-any nr) (decimal-width b.shift (omega (arith, h.0.place)))
          (mask-short b.width (omega (arith, h.0.place))) (raw_name m k) (raw-short m k (omega (arith, e)))
          (lines_text 0 (bits_lines m (chunk_name nr) (next_raw k b.kind) bs) u) b.kind h.0.kind,
      bits-lines m nr (next_raw k b.kind) bs u h.1 (omega (arith, e, next-most k b.kind)),
    ))

pub record ChunkShort (c : Chunk) : Type 0 where
  pub bits : AllShort 64 c.fields
  pub width : widths c.fields ≤ 64
  pub some : 0 < length c.fields
  pub raws : c.raw_nr + length c.fields ≤ 64

abbrev pub ChunksShort : List Chunk → Type 0
ChunksShort [] = Unit {0}
ChunksShort (c ∷ cs) = ChunkShort c × ChunksShort cs

chunk-lines : (o : Options) (c : Chunk) (u : Text) → ChunkShort c
    → length (lines_text 0 (chunk_lines o c) u) ≤ chunk_read + own_lines * length c.fields + length u
chunk-lines o c u h = by (should_skip_value c.fields)
  where
    read : (ds : List Bit) → AllShort 64 ds → c.raw_nr + length ds ≤ 64 → (n : ℕ) → n ≤ 64
        → length (lines_text 0 (read_lines o c.nr c.raw_nr n ds) u) ≤ chunk_read + own_lines * length ds + length u
    read [] k e n w = omega arith
    read (b ∷ []) k e n w =
        omega (
          arith,
          read-lines o.endianness n (scalar-type n) (decimal-any (n / 8)) (raw_name o.raw c.raw_nr)
              (raw-short o.raw c.raw_nr (omega (arith, e))) u b.kind k.0.kind,
        )
    read (b ∷ d ∷ ds) k e n w =
        simp (length-append, order-length)
        (omega (arith, bits-lines o.raw c.nr c.raw_nr (b ∷ d ∷ ds) u k e, decimal-any c.nr, scalar-type n, decimal-bytes n w))

    by : (b : Bool)
        → length (lines_text 0 (pick b (Line.reserved span (widths c.fields / 8) ∷ []) (read_lines o c.nr c.raw_nr (widths c.fields) c.fields)) u)
        ≤ chunk_read + own_lines * length c.fields + length u
    by true = simp length-append (omega (arith, decimal-any (widths c.fields / 8), h.some))
    by false = read c.fields h.bits h.raws (widths c.fields) h.width

-- ---- the run

-- how many bit fields
abbrev pub bits_in : List Chunk → ℕ
bits_in [] = 0
bits_in (c ∷ cs) = length c.fields + bits_in cs

chunks-lines : (o : Options) (cs : List Chunk) (u : Text) → ChunksShort cs
    → length (lines_text 0 (chunks_lines o cs) u) ≤ (own_lines + chunk_read) * bits_in cs + length u
chunks-lines o [] u h = omega arith
chunks-lines o (c ∷ cs) u h =
    rw lines-append
    (omega (
      arith,
      chunk-lines o c (lines_text 0 (chunks_lines o cs) u) h.0,
      chunks-lines o cs u h.1,
      h.0.some,
    ))

body-text : (ls : List Line) (l : List Stmt) → render (body ls l) ≡ lines_text 0 ls (render l)
body-text [] l = refl
body-text (x ∷ ls) l = ap (line_text 0 x) (body-text ls l)

-- a run of at least one chunk
pub checked-short : (o : Options) (n : ℕ) (cs : List Chunk) → ChunksShort cs → 0 < bits_in cs
    → Within (bit_field * bits_in cs) (Block.checked o n cs)
checked-short o n cs h some = record {
  before = λ l.
      simp length-append
      (omega (arith, some, decimal-any n, ap length (body-text (chunks_lines o cs) l), chunks-lines o cs (render l) h));
}
