-- The lines of any blocks are written so that their text is read in one way: `written` of specs/Written.
-- Assumes nothing.
use mathlib.Core.Path.{◌≡◌, refl, ap, ◌∙◌}
use mathlib.Core.Bool.{Bool, true, false, ◌&&◌}
use mathlib.Core.List.{List, [], ◌∷◌, ◌++◌}
use Prim.Native.Nat.{ℕ, ◌/◌}
use Rattle.definitions.specs.Bytes.{Text, pick, all}
use Rattle.definitions.specs.Lines.{Src, Dest, Out, Line, Stmt}
use Rattle.definitions.specs.Blocks.{Kind, Bit, Chunk, mask, read_of, raw_name, next_raw, kind_lines, bits_lines, read_lines, should_skip_value, widths, span, chunk_name, chunk_lines, chunks_lines, body, Elem, parse_array_element, parse_array_field_lite, parse_array_field_full, by_mode, Array, array_lines, field_lines, Block, block_lines, program}
use Rattle.definitions.specs.declared.Raw.{Raw}
use Rattle.definitions.specs.declared.Options.{Options}
use Rattle.definitions.specs.declared.Arrays.{Arrays}
use Rattle.definitions.specs.declared.Modifier.{Modifier}
use Rattle.definitions.specs.declared.ElementSize.{ElementSize}
use Rattle.definitions.specs.declared.ArraySize.{ArraySize}
use Rattle.definitions.specs.declared.Products.{Products}
use Rattle.lengths.proofs.Booleans.{impossible}
use Rattle.meaning.specs.Written.{written_line, written}

-- ---- lines in a row

both : (v w : Bool) → v && w ≡ true → (v ≡ true) × (w ≡ true)
both true w e = (refl, e)
both false w e = impossible (cc)

all_append : (a b : List Line) → all written_line a ≡ true → all written_line b ≡ true → all written_line (a ++ b) ≡ true
all_append [] b h k = k
all_append (x ∷ a) b h k =
    let p = both (written_line x) (all written_line a) h in
    ap (λ (w : Bool). w && all written_line (a ++ b)) p.0 ∙ all_append a b p.1 k

body-written : (b : List Line) (l : List Stmt) → all written_line b ≡ true → written (body b l) ≡ written l
body-written [] l h = refl
body-written (x ∷ b) l h =
    let p = both (written_line x) (all written_line b) h in
    ap (λ (w : Bool). w && written (body b l)) p.0 ∙ body-written b l p.1

-- ---- checked runs

kind-written : (r : Text) (v : Src) (k : Kind) → all written_line (kind_lines r v k) ≡ true
kind-written r v (Kind.number x) = refl
kind-written r v (Kind.condition x) = refl
kind-written r v (Kind.open_enum x type) = refl
kind-written r v (Kind.closed_enum x type) = refl
kind-written r v (Kind.fixed_scalar n) = refl
kind-written r v (Kind.fixed_enum type tag) = refl
kind-written r v Kind.reserved = refl

bits-written : (m : Raw) (x : Text) (k : ℕ) (bs : List Bit) → all written_line (bits_lines m x k bs) ≡ true
bits-written m x k [] = refl
bits-written m x k (b ∷ bs) =
    let v : Src = Src.bits x b.shift (mask b.width) in
    all_append (kind_lines (raw_name m k) v b.kind) (bits_lines m x (next_raw k b.kind) bs) (kind-written (raw_name m k) v b.kind)
    (bits-written m x (next_raw k b.kind) bs)

read-written : (o : Options) (nr k w : ℕ) (bs : List Bit) → all written_line (read_lines o nr k w bs) ≡ true
read-written o nr k w [] = refl
read-written o nr k w (b ∷ []) = kind-written (raw_name o.raw k) (read_of span o.endianness w) b.kind
read-written o nr k w (b ∷ d ∷ bs) = bits-written o.raw (chunk_name nr) k (b ∷ d ∷ bs)

chunk-written : (o : Options) (c : Chunk) → all written_line (chunk_lines o c) ≡ true
chunk-written o c = by (should_skip_value c.fields)
  where
    by : (skips : Bool)
        → all written_line (pick skips (Line.reserved span (widths c.fields / 8) ∷ []) (read_lines o c.nr c.raw_nr (widths c.fields) c.fields))
        ≡ true
    by true = refl
    by false = read-written o c.nr c.raw_nr (widths c.fields) c.fields

chunks-written : (o : Options) (cs : List Chunk) → all written_line (chunks_lines o cs) ≡ true
chunks-written o [] = refl
chunks-written o (c ∷ cs) = all_append (chunk_lines o c) (chunks_lines o cs) (chunk-written o c) (chunks-written o cs)

-- ---- arrays

element-written : (s : Text) (e : Elem) (d : Dest) (o : Out) → all written_line (parse_array_element s e d o) ≡ true
element-written s (Elem.scalar order w) d o = refl
element-written s (Elem.open_enum type order w) d o = refl
element-written s (Elem.closed_enum type order w) d o = refl
element-written s (Elem.parsed type) d o = refl

module _ (id type : Text) (e : Elem) (l : List Stmt) where
  lite-written : (o : Products) (w : ElementSize) (n : ArraySize) → written (parse_array_field_lite o id type e l w n) ≡ written l
  lite-written o (ElementSize.Static es) (ArraySize.StaticCount n) = refl
  lite-written Products.Plain (ElementSize.Static es) ArraySize.DynamicCount = refl
  lite-written Products.Divide (ElementSize.Static es) ArraySize.DynamicCount = refl
  lite-written o (ElementSize.Static es) ArraySize.DynamicSize = refl
  lite-written o (ElementSize.Static es) ArraySize.Unknown = refl
  lite-written Products.Plain ElementSize.Dynamic (ArraySize.StaticCount n) = refl
  lite-written Products.Divide ElementSize.Dynamic (ArraySize.StaticCount n) = refl
  lite-written Products.Plain ElementSize.Dynamic ArraySize.DynamicCount = refl
  lite-written Products.Divide ElementSize.Dynamic ArraySize.DynamicCount = refl
  lite-written o ElementSize.Dynamic ArraySize.DynamicSize = refl
  lite-written o ElementSize.Dynamic ArraySize.Unknown = refl
  lite-written o ElementSize.Unknown (ArraySize.StaticCount n) = refl
  lite-written o ElementSize.Unknown ArraySize.DynamicCount = refl
  lite-written o ElementSize.Unknown ArraySize.DynamicSize = refl
  lite-written o ElementSize.Unknown ArraySize.Unknown = refl

  -- a loop over elements that are stored so
  loop-written : (d : Dest) → all written_line (parse_array_element span e d Out.out) && written l ≡ written l
  loop-written d = ap (λ (w : Bool). w && written l) (element-written span e d Out.out)

  full-written : (o : Products) (w : ElementSize) (n : ArraySize) → written (parse_array_field_full o id type e l w n) ≡ written l
  full-written o (ElementSize.Static es) (ArraySize.StaticCount n) = loop-written _
  full-written Products.Plain (ElementSize.Static es) ArraySize.DynamicCount = loop-written _
  full-written Products.Divide (ElementSize.Static es) ArraySize.DynamicCount = loop-written _
  full-written o (ElementSize.Static es) ArraySize.DynamicSize = loop-written _
  full-written o (ElementSize.Static es) ArraySize.Unknown = loop-written _
  full-written Products.Plain ElementSize.Dynamic (ArraySize.StaticCount n) = refl
  full-written Products.Divide ElementSize.Dynamic (ArraySize.StaticCount n) = refl
  full-written Products.Plain ElementSize.Dynamic ArraySize.DynamicCount = refl
  full-written Products.Divide ElementSize.Dynamic ArraySize.DynamicCount = refl
  full-written o ElementSize.Dynamic ArraySize.DynamicSize = refl
  full-written o ElementSize.Dynamic ArraySize.Unknown = refl
  full-written o ElementSize.Unknown (ArraySize.StaticCount n) = refl
  full-written o ElementSize.Unknown ArraySize.DynamicCount = refl
  full-written o ElementSize.Unknown ArraySize.DynamicSize = refl
  full-written o ElementSize.Unknown ArraySize.Unknown = refl

array_written : (a : Array) (l : List Stmt) → written (array_lines a l) ≡ written l
array_written a l = by a.mode
  where
    by : (m : Arrays) → written (by_mode m a.products a.id a.type a.elem l a.element_size a.array_size) ≡ written l
    by Arrays.Lite = lite-written a.id a.type a.elem l a.products a.element_size a.array_size
    by Arrays.Full = full-written a.id a.type a.elem l a.products a.element_size a.array_size

field-written : (m : Modifier) (w : ℕ) (a : Array) (l : List Stmt) → written (field_lines m w a l) ≡ written l
field-written Modifier.None w a l = array_written a l
field-written (Modifier.Plus n) w a l = array_written a l
field-written (Modifier.Minus n) w a l = array_written a l

-- ---- blocks

block_written : (b : Block) (l : List Stmt) → written (block_lines b l) ≡ written l
block_written (Block.checked o n cs) l = body-written (chunks_lines o cs) l (chunks-written o cs)
block_written (Block.sized_payload x s Modifier.None) l = refl
block_written (Block.sized_payload x s (Modifier.Plus n)) l = refl
block_written (Block.sized_payload x s (Modifier.Minus n)) l = refl
block_written (Block.payload_up_to x n) l = refl
block_written (Block.payload_to_end x) l = refl
block_written (Block.array m w a) l = field-written m w a l
block_written (Block.padded_array p m w a) l = field-written m w a _
block_written (Block.optional_scalar c v order w x) l = refl
block_written (Block.optional_open c v order w x type) l = refl
block_written (Block.optional_closed c v order w x type) l = refl
block_written (Block.optional_nested c v x type) l = refl
block_written (Block.nested type x) l = refl
block_written (Block.nested_up_to id n type x) l = refl

pub all-written : (bs : List Block) → written (program bs) ≡ true
all-written [] = refl
all-written (b ∷ bs) = block_written b (program bs) ∙ all-written bs
