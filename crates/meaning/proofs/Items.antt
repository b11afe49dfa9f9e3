-- The lines of a checked run as items, each with the bytes that it reads or skips: together those of its chunks.
-- Assumes nothing.
use mathlib.Core.Path.{◌≡◌, refl}
use mathlib.Core.Bool.{Bool, true, false, ◌&&◌}
use mathlib.Core.List.{List, [], ◌∷◌, ◌++◌}
use Prim.Native.Nat.{ℕ, ◌+◌, ◌/◌}
use native.Mathlib.Omega.{arith}
use Rattle.definitions.specs.Bytes.{Text, pick}
use Rattle.definitions.specs.Lines.{Src, Test, Before, Line}
use Rattle.definitions.specs.Blocks.{span, Kind, Bit, Chunk, widths, get_cxx_scalar_type, mask, raw_name, next_raw, is_reserved, should_skip_value, chunk_name, kind_lines, bits_lines, read_lines, chunk_lines, chunks_lines}
use Rattle.definitions.specs.declared.EndiannessValue.{EndiannessValue}
use Rattle.definitions.specs.declared.Raw.{Raw}
use Rattle.definitions.specs.declared.Options.{Options}
use Rattle.lengths.proofs.Booleans.{impossible}

-- a line of a checked run, and the bytes that it reads or skips
pub data From : Type 0 where
  from_span : EndiannessValue → ℕ → ℕ → From
  from_chunk : Text → ℕ → ℕ → From
  from_var : Text → From

pub data Item : Type 0 where
  assign : Before → Text → From → Item
  assign_cast : Text → Text → From → Item
  fixed : From → ℕ → Item
  tagged : Text → From → Text → Item
  valid : Text → Text → Item
  skipped : ℕ → Item

abbrev pub src_of : From → Src
src_of (From.from_span o w n) = Src.read span o w n
src_of (From.from_chunk x k m) = Src.bits x k m
src_of (From.from_var x) = Src.held x

abbrev pub line_of : Item → Line
line_of (Item.assign d x v) = Line.set d x (src_of v)
line_of (Item.assign_cast x c v) = Line.set_cast x c (src_of v)
line_of (Item.fixed v n) = Line.check 4 (Test.not_fixed (src_of v) n)
line_of (Item.tagged T v g) = Line.check 4 (Test.not_tag T (src_of v) g)
line_of (Item.valid T x) = Line.check 3 (Test.not_valid T x)
line_of (Item.skipped n) = Line.reserved span n

abbrev pub bytes_from : From → ℕ
bytes_from (From.from_span o w n) = n
bytes_from (From.from_chunk x k m) = 0
bytes_from (From.from_var x) = 0

abbrev pub bytes_of : Item → ℕ
bytes_of (Item.assign d x v) = bytes_from v
bytes_of (Item.assign_cast x c v) = bytes_from v
bytes_of (Item.fixed v n) = bytes_from v
bytes_of (Item.tagged T v g) = bytes_from v
bytes_of (Item.valid T x) = 0
bytes_of (Item.skipped n) = n

abbrev pub total : List Item → ℕ
total [] = 0
total (i ∷ is) = bytes_of i + total is

abbrev pub lines_of : List Item → List Line
lines_of [] = []
lines_of (i ∷ is) = line_of i ∷ lines_of is

-- a tested enum is held in r
abbrev pub kind_items : Text → From → Kind → List Item
kind_items r v (Kind.number x) = Item.assign Before.old x v ∷ []
kind_items r v (Kind.condition x) = Item.assign Before.condition x v ∷ []
kind_items r v (Kind.open_enum x T) = Item.assign_cast x T v ∷ []
kind_items r v (Kind.closed_enum x T) = Item.assign Before.auto r v ∷ Item.valid T r ∷ Item.assign_cast x T (From.from_var r) ∷ []
kind_items r v (Kind.fixed_scalar n) = Item.fixed v n ∷ []
kind_items r v (Kind.fixed_enum T g) = Item.tagged T v g ∷ []
kind_items r v Kind.reserved = []

abbrev pub bits_items : Raw → Text → ℕ → List Bit → List Item
bits_items m x k [] = []
bits_items m x k (b ∷ bs) =
    kind_items (raw_name m k) (From.from_chunk x b.shift (mask b.width)) b.kind ++ bits_items m x (next_raw k b.kind) bs

abbrev pub read_items : Options → ℕ → ℕ → ℕ → List Bit → List Item
read_items o nr k w [] = []
read_items o nr k w (b ∷ []) = kind_items (raw_name o.raw k) (From.from_span o.endianness (get_cxx_scalar_type w) (w / 8)) b.kind
read_items o nr k w (b ∷ d ∷ bs) =
    Item.assign (Before.chunk (get_cxx_scalar_type w)) (chunk_name nr) (From.from_span o.endianness (get_cxx_scalar_type w) (w / 8))
    ∷ bits_items o.raw (chunk_name nr) k (b ∷ d ∷ bs)

abbrev pub chunk_items : Options → Chunk → List Item
chunk_items o c =
    pick (should_skip_value c.fields) (Item.skipped (widths c.fields / 8) ∷ [])
    (read_items o c.nr c.raw_nr (widths c.fields) c.fields)

abbrev pub run_items : Options → List Chunk → List Item
run_items o [] = []
run_items o (c ∷ cs) = chunk_items o c ++ run_items o cs

abbrev pub offsets : List Chunk → ℕ
offsets [] = 0
offsets (c ∷ cs) = widths c.fields / 8 + offsets cs

-- ---- they are the lines

lines-append : (a b : List Item) → lines_of (a ++ b) ≡ lines_of a ++ lines_of b
lines-append [] b = refl
lines-append (i ∷ a) b = rw (lines-append a b)

kind-lines : (r : Text) (v : From) (k : Kind) → lines_of (kind_items r v k) ≡ kind_lines r (src_of v) k
kind-lines r v (Kind.number x) = refl
kind-lines r v (Kind.condition x) = refl
kind-lines r v (Kind.open_enum x T) = refl
kind-lines r v (Kind.closed_enum x T) = refl
kind-lines r v (Kind.fixed_scalar n) = refl
kind-lines r v (Kind.fixed_enum T g) = refl
kind-lines r v Kind.reserved = refl

bits-lines : (m : Raw) (x : Text) (k : ℕ) (bs : List Bit) → lines_of (bits_items m x k bs) ≡ bits_lines m x k bs
bits-lines m x k [] = refl
bits-lines m x k (b ∷ bs) =
    rw (
      lines-append (kind_items _ _ b.kind) (bits_items m x (next_raw k b.kind) bs),
      kind-lines _ _ b.kind,
      bits-lines m x (next_raw k b.kind) bs,
    )

read-lines : (o : Options) (nr k w : ℕ) (bs : List Bit) → lines_of (read_items o nr k w bs) ≡ read_lines o nr k w bs
read-lines o nr k w [] = refl
read-lines o nr k w (b ∷ []) = kind-lines _ _ b.kind
read-lines o nr k w (b ∷ d ∷ bs) = rw (bits-lines o.raw _ k (b ∷ d ∷ bs))

chunk-lines : (o : Options) (c : Chunk) → lines_of (chunk_items o c) ≡ chunk_lines o c
chunk-lines o c = by (should_skip_value c.fields)
  where
    by : (t : Bool)
        → lines_of (pick t (Item.skipped (widths c.fields / 8) ∷ []) (read_items o c.nr c.raw_nr (widths c.fields) c.fields))
        ≡ pick t (Line.reserved span (widths c.fields / 8) ∷ []) (read_lines o c.nr c.raw_nr (widths c.fields) c.fields)
    by true = refl
    by false = read-lines o c.nr c.raw_nr (widths c.fields) c.fields

pub run-lines : (o : Options) (cs : List Chunk) → lines_of (run_items o cs) ≡ chunks_lines o cs
run-lines o [] = refl
run-lines o (c ∷ cs) = rw (lines-append (chunk_items o c) (run_items o cs), chunk-lines o c, run-lines o cs)

-- ---- how many bytes they read and skip

total-append : (a b : List Item) → total (a ++ b) ≡ total a + total b
total-append [] b = omega arith
total-append (i ∷ a) b = omega (arith, total-append a b)

kind-some : (r : Text) (v : From) (k : Kind) → is_reserved k ≡ false → total (kind_items r v k) ≡ bytes_from v
kind-some r v (Kind.number x) e = omega arith
kind-some r v (Kind.condition x) e = omega arith
kind-some r v (Kind.open_enum x T) e = omega arith
kind-some r v (Kind.closed_enum x T) e = omega arith
kind-some r v (Kind.fixed_scalar n) e = omega arith
kind-some r v (Kind.fixed_enum T g) e = omega arith
kind-some r v Kind.reserved e = impossible (cc)

kind-none : (r : Text) (v : From) (k : Kind) → bytes_from v ≡ 0 → total (kind_items r v k) ≡ 0
kind-none r v (Kind.number x) e = omega arith
kind-none r v (Kind.condition x) e = omega arith
kind-none r v (Kind.open_enum x T) e = omega arith
kind-none r v (Kind.closed_enum x T) e = omega arith
kind-none r v (Kind.fixed_scalar n) e = omega arith
kind-none r v (Kind.fixed_enum T g) e = omega arith
kind-none r v Kind.reserved e = refl

bits_none : (m : Raw) (x : Text) (k : ℕ) (bs : List Bit) → total (bits_items m x k bs) ≡ 0
bits_none m x k [] = refl
bits_none m x k (b ∷ bs) =
    let v : From = From.from_chunk x b.shift (mask b.width) in
    omega (
      arith,
      total-append (kind_items (raw_name m k) v b.kind) (bits_items m x (next_raw k b.kind) bs),
      kind-none (raw_name m k) v b.kind refl,
      bits_none m x (next_raw k b.kind) bs,
    )

and_right : (b : Bool) → (b && true) ≡ false → b ≡ false
and_right true e = e
and_right false e = refl

read_some : (o : Options) (nr k w : ℕ) (bs : List Bit) → should_skip_value bs ≡ false → total (read_items o nr k w bs) ≡ w / 8
read_some o nr k w [] e = impossible (cc)
read_some o nr k w (b ∷ []) e =
    kind-some (raw_name o.raw k) (From.from_span o.endianness (get_cxx_scalar_type w) (w / 8)) b.kind (and_right (is_reserved b.kind) e)
read_some o nr k w (b ∷ d ∷ bs) e = omega (arith, bits_none o.raw (chunk_name nr) k (b ∷ d ∷ bs))

chunk-exact : (o : Options) (c : Chunk) → total (chunk_items o c) ≡ widths c.fields / 8
chunk-exact o c = by (should_skip_value c.fields) refl
  where
    by : (t : Bool) → should_skip_value c.fields ≡ t
        → total (pick t (Item.skipped (widths c.fields / 8) ∷ []) (read_items o c.nr c.raw_nr (widths c.fields) c.fields))
        ≡ widths c.fields / 8
    by true e = omega arith
    by false e = read_some o c.nr c.raw_nr (widths c.fields) c.fields e

pub run-exact : (o : Options) (cs : List Chunk) → total (run_items o cs) ≡ offsets cs
run-exact o [] = refl
run-exact o (c ∷ cs) = omega (arith, total-append (chunk_items o c) (run_items o cs), chunk-exact o c, run-exact o cs)
