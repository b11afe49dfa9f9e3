-- The lines of blocks: those without divisions differ in their checks alone (`program-checks`), and divided ones test no product (`program-tests`).
-- Assumes nothing.
use mathlib.Core.Bool.{Bool, true, false}
use mathlib.Core.List.{List, [], ◌∷◌, ◌++◌}
use mathlib.Core.Path.{◌≡◌, refl}
use Prim.Native.Nat.{ℕ, ◌/◌}
use Rattle.definitions.specs.Bytes.{Text, pick}
use Rattle.definitions.specs.Lines.{Expr, Src, Dest, Out, Line, Stmt}
use Rattle.definitions.specs.Blocks.{span, body, check_size, check_product, Kind, Bit, Chunk, widths, read_of, mask, next_raw, kind_lines, should_skip_value, raw_name, chunk_name, bits_lines, read_lines, chunk_lines, chunks_lines, Elem, parse_array_element, parse_array_field_lite, parse_array_field_full, by_mode, Array, size_name, modifier_lines, actual_size, Block, block_lines, program}
use Rattle.definitions.specs.declared.Products.{Products}
use Rattle.definitions.specs.declared.Arrays.{Arrays}
use Rattle.definitions.specs.declared.Options.{Options}
use Rattle.definitions.specs.declared.Raw.{Raw}
use Rattle.definitions.specs.declared.Modifier.{Modifier}
use Rattle.definitions.specs.declared.ElementSize.{ElementSize}
use Rattle.definitions.specs.declared.ArraySize.{ArraySize}
use Rattle.divided.specs.Undivided.{options_with, block_with, undivide, HasProducts, DividedBlocks}
use Rattle.divided.specs.Checks.{Factors, Checks, NoProduct, LinesTest, NoProductTested}

-- ==== The checks alone

-- ---- one line of a block before lines that are so

pub checks-body : (b : List Line) {l m : List Stmt} → Checks l m → Checks (body b l) (body b m)
checks-body [] h = h
checks-body (x ∷ b) h = Checks.same (Stmt.one x) (checks-body b h)

-- an array's check
check-room : (o : Products) {a b : Expr} → Factors a b → {l m : List Stmt} → Checks l m
    → Checks (Stmt.one (check_product o a b) ∷ l) (Stmt.one (check_product Products.Plain a b) ∷ m)
check-room Products.Plain f h = Checks.same _ h
check-room Products.Divide f h = Checks.divided f h

-- ---- the 24 shapes

module _ (o : Products) (id type : Text) (elem : Elem) {l m : List Stmt} (h : Checks l m) where
  lite-checks : (e : ElementSize) (n : ArraySize)
      → Checks (parse_array_field_lite o id type elem l e n) (parse_array_field_lite Products.Plain id type elem m e n)
  lite-checks (ElementSize.Static es) (ArraySize.StaticCount n) = Checks.same _ (Checks.same _ (Checks.same _ h))
  lite-checks (ElementSize.Static es) ArraySize.DynamicCount = check-room o (Factors.counted _ _) (Checks.same _ (Checks.same _ h))
  lite-checks (ElementSize.Static es) ArraySize.DynamicSize = Checks.same _ (Checks.same _ (Checks.same _ (Checks.same _ h)))
  lite-checks (ElementSize.Static es) ArraySize.Unknown = Checks.same _ (Checks.same _ (Checks.same _ h))
  lite-checks ElementSize.Dynamic (ArraySize.StaticCount n) =
      Checks.same _ (check-room o (Factors.sized _ _) (Checks.same _ (Checks.same _ h)))
  lite-checks ElementSize.Dynamic ArraySize.DynamicCount = Checks.same _ (check-room o (Factors.both _ _) (Checks.same _ (Checks.same _ h)))
  lite-checks ElementSize.Dynamic ArraySize.DynamicSize = Checks.same _ (Checks.same _ (Checks.same _ (Checks.same _ h)))
  lite-checks ElementSize.Dynamic ArraySize.Unknown = Checks.same _ (Checks.same _ (Checks.same _ h))
  lite-checks ElementSize.Unknown (ArraySize.StaticCount n) = Checks.same _ (Checks.same _ (Checks.same _ h))
  lite-checks ElementSize.Unknown ArraySize.DynamicCount = Checks.same _ (Checks.same _ (Checks.same _ h))
  lite-checks ElementSize.Unknown ArraySize.DynamicSize = Checks.same _ (Checks.same _ (Checks.same _ h))
  lite-checks ElementSize.Unknown ArraySize.Unknown = Checks.same _ (Checks.same _ (Checks.same _ h))

  full-checks : (e : ElementSize) (n : ArraySize)
      → Checks (parse_array_field_full o id type elem l e n) (parse_array_field_full Products.Plain id type elem m e n)
  full-checks (ElementSize.Static es) (ArraySize.StaticCount n) = Checks.same _ (Checks.same _ h)
  full-checks (ElementSize.Static es) ArraySize.DynamicCount = check-room o (Factors.counted _ _) (Checks.same _ h)
  full-checks (ElementSize.Static es) ArraySize.DynamicSize = Checks.same _ (Checks.same _ (Checks.same _ (Checks.same _ h)))
  full-checks (ElementSize.Static es) ArraySize.Unknown = Checks.same _ (Checks.same _ (Checks.same _ h))
  full-checks ElementSize.Dynamic (ArraySize.StaticCount n) = check-room o (Factors.sized _ _) (Checks.same _ (Checks.same _ h))
  full-checks ElementSize.Dynamic ArraySize.DynamicCount = check-room o (Factors.both _ _) (Checks.same _ (Checks.same _ h))
  full-checks ElementSize.Dynamic ArraySize.DynamicSize = Checks.same _ (Checks.same _ (Checks.same _ (Checks.same _ (Checks.same _ h))))
  full-checks ElementSize.Dynamic ArraySize.Unknown = Checks.same _ (Checks.same _ (Checks.same _ (Checks.same _ h)))
  full-checks ElementSize.Unknown (ArraySize.StaticCount n) = Checks.same _ h
  full-checks ElementSize.Unknown ArraySize.DynamicCount = Checks.same _ h
  full-checks ElementSize.Unknown ArraySize.DynamicSize = Checks.same _ (Checks.same _ (Checks.same _ (Checks.same _ h)))
  full-checks ElementSize.Unknown ArraySize.Unknown = Checks.same _ h

  mode-checks : (k : Arrays) (e : ElementSize) (n : ArraySize) → Checks (by_mode k o id type elem l e n) (by_mode k Products.Plain id type elem m e n)
  mode-checks Arrays.Lite e n = lite-checks e n
  mode-checks Arrays.Full e n = full-checks e n

modifier-checks : (c : Modifier) (w : ℕ) (x : Text) {l m : List Stmt} → Checks l m → Checks (modifier_lines c w x l) (modifier_lines c w x m)
modifier-checks Modifier.None w x h = h
modifier-checks (Modifier.Plus n) w x h = Checks.same _ h
modifier-checks (Modifier.Minus n) w x h = Checks.same _ h

array-checks : (c : Modifier) (w : ℕ) (a : Array) {l m : List Stmt} → Checks l m
    → Checks (modifier_lines c w (size_name a) (by_mode a.mode a.products a.id a.type a.elem l a.element_size a.array_size))
    (modifier_lines c w (size_name a) (by_mode a.mode Products.Plain a.id a.type a.elem m a.element_size a.array_size))
array-checks c w a h =
    modifier-checks c w (size_name a) (mode-checks a.products a.id a.type a.elem h a.mode a.element_size a.array_size)

-- ---- blocks

-- of a checked run no line looks at `products`
read-with : (w : Products) (o : Options) (nr k n : ℕ) (bs : List Bit) → read_lines (options_with w o) nr k n bs ≡ read_lines o nr k n bs
read-with w o nr k n [] = refl
read-with w o nr k n (b ∷ []) = refl
read-with w o nr k n (b ∷ d ∷ bs) = refl

chunks-with : (w : Products) (o : Options) (cs : List Chunk) → chunks_lines (options_with w o) cs ≡ chunks_lines o cs
chunks-with w o [] = refl
chunks-with w o (c ∷ cs) = rw (read-with w o c.nr c.raw_nr (widths c.fields) c.fields, chunks-with w o cs)

block-checks : (b : Block) {l m : List Stmt} → Checks l m → Checks (block_lines b l) (block_lines (block_with Products.Plain b) m)
block-checks (Block.checked o n cs) h = rw (chunks-with Products.Plain o cs) (checks-body (check_size (Expr.lit n) ∷ chunks_lines o cs) h)
block-checks (Block.sized_payload x s c) h = Checks.same _ (Checks.same _ (Checks.same _ h))
block-checks (Block.payload_up_to x n) h = Checks.same _ (Checks.same _ (Checks.same _ h))
block-checks (Block.payload_to_end x) h = Checks.same _ (Checks.same _ h)
block-checks (Block.array c w a) h = array-checks c w a h
block-checks (Block.padded_array p c w a) h = Checks.same _ (array-checks c w a (Checks.same _ h))
block-checks (Block.optional_scalar c v order w x) h = Checks.same _ h
block-checks (Block.optional_open c v order w x type) h = Checks.same _ h
block-checks (Block.optional_closed c v order w x type) h = Checks.same _ h
block-checks (Block.optional_nested c v x type) h = Checks.same _ h
block-checks (Block.nested type x) h = Checks.same _ h
block-checks (Block.nested_up_to id n type x) h = Checks.same _ (Checks.same _ (Checks.same _ (Checks.same _ h)))

pub program-checks : (bs : List Block) → Checks (program bs) (program (undivide bs))
program-checks [] = Checks.end
program-checks (b ∷ bs) = block-checks b (program-checks bs)

-- ==== No product in a test

pub tests-body : (b : List Line) (l : List Stmt) → LinesTest b → NoProductTested l → NoProductTested (body b l)
tests-body [] l h k = k
tests-body (x ∷ b) l h k = (h.0, tests-body b l h.1 k)

tests-append : (a b : List Line) → LinesTest a → LinesTest b → LinesTest (a ++ b)
tests-append [] b h k = k
tests-append (x ∷ a) b h k = (h.0, tests-append a b h.1 k)

-- ---- checked runs

kind-tests : (r : Text) (v : Src) (k : Kind) → LinesTest (kind_lines r v k)
kind-tests r v (Kind.number x) = (tt, tt)
kind-tests r v (Kind.condition x) = (tt, tt)
kind-tests r v (Kind.open_enum x type) = (tt, tt)
kind-tests r v (Kind.closed_enum x type) = (tt, (tt, (tt, tt)))
kind-tests r v (Kind.fixed_scalar n) = (tt, tt)
kind-tests r v (Kind.fixed_enum type tag) = (tt, tt)
kind-tests r v Kind.reserved = tt

bits-test : (m : Raw) (x : Text) (k : ℕ) (bs : List Bit) → LinesTest (bits_lines m x k bs)
bits-test m x k [] = tt
bits-test m x k (b ∷ bs) =
    tests-append (kind_lines (raw_name m k) (Src.bits x b.shift (mask b.width)) b.kind) (bits_lines m x (next_raw k b.kind) bs)
    (kind-tests (raw_name m k) (Src.bits x b.shift (mask b.width)) b.kind) (bits-test m x (next_raw k b.kind) bs)

read-tests : (o : Options) (nr k w : ℕ) (bs : List Bit) → LinesTest (read_lines o nr k w bs)
read-tests o nr k w [] = tt
read-tests o nr k w (b ∷ []) = kind-tests (raw_name o.raw k) (read_of span o.endianness w) b.kind
read-tests o nr k w (b ∷ d ∷ bs) = (tt, bits-test o.raw (chunk_name nr) k (b ∷ d ∷ bs))

chunk-tests : (o : Options) (c : Chunk) → LinesTest (chunk_lines o c)
chunk-tests o c = by (should_skip_value c.fields)
  where
    by : (b : Bool)
        → LinesTest (pick b (Line.reserved span (widths c.fields / 8) ∷ []) (read_lines o c.nr c.raw_nr (widths c.fields) c.fields))
    by true = (tt, tt)
    by false = read-tests o c.nr c.raw_nr (widths c.fields) c.fields

chunks-test : (o : Options) (cs : List Chunk) → LinesTest (chunks_lines o cs)
chunks-test o [] = tt
chunks-test o (c ∷ cs) = tests-append (chunk_lines o c) (chunks_lines o cs) (chunk-tests o c) (chunks-test o cs)

-- ---- the 24 shapes, divided

element-tests : (s : Text) (e : Elem) (d : Dest) (o : Out) → LinesTest (parse_array_element s e d o)
element-tests s (Elem.scalar order w) d o = (tt, tt)
element-tests s (Elem.open_enum type order w) d o = (tt, tt)
element-tests s (Elem.closed_enum type order w) d o = (tt, (tt, (tt, tt)))
element-tests s (Elem.parsed type) d o = (tt, (tt, (tt, tt)))

module _ (id type : Text) (elem : Elem) (l : List Stmt) (h : NoProductTested l) where
  lite-tests : (e : ElementSize) (n : ArraySize) → NoProductTested (parse_array_field_lite Products.Divide id type elem l e n)
  lite-tests (ElementSize.Static es) (ArraySize.StaticCount n) = (tt, (tt, (tt, h)))
  lite-tests (ElementSize.Static es) ArraySize.DynamicCount = (tt, (tt, (tt, h)))
  lite-tests (ElementSize.Static es) ArraySize.DynamicSize = (tt, (tt, (tt, (tt, h))))
  lite-tests (ElementSize.Static es) ArraySize.Unknown = (tt, (tt, (tt, h)))
  lite-tests ElementSize.Dynamic (ArraySize.StaticCount n) = (tt, (tt, (tt, (tt, h))))
  lite-tests ElementSize.Dynamic ArraySize.DynamicCount = (tt, (tt, (tt, (tt, h))))
  lite-tests ElementSize.Dynamic ArraySize.DynamicSize = (tt, (tt, (tt, (tt, h))))
  lite-tests ElementSize.Dynamic ArraySize.Unknown = (tt, (tt, (tt, h)))
  lite-tests ElementSize.Unknown (ArraySize.StaticCount n) = (tt, ((tt, (tt, tt)), (tt, h)))
  lite-tests ElementSize.Unknown ArraySize.DynamicCount = (tt, ((tt, (tt, tt)), (tt, h)))
  lite-tests ElementSize.Unknown ArraySize.DynamicSize = (tt, (tt, (tt, h)))
  lite-tests ElementSize.Unknown ArraySize.Unknown = (tt, ((tt, (tt, (tt, tt))), (tt, h)))

  full-tests : (e : ElementSize) (n : ArraySize) → NoProductTested (parse_array_field_full Products.Divide id type elem l e n)
  full-tests (ElementSize.Static es) (ArraySize.StaticCount n) = (tt, (element-tests _ elem _ _, h))
  full-tests (ElementSize.Static es) ArraySize.DynamicCount = (tt, (element-tests _ elem _ _, h))
  full-tests (ElementSize.Static es) ArraySize.DynamicSize = (tt, (tt, (tt, (element-tests _ elem _ _, h))))
  full-tests (ElementSize.Static es) ArraySize.Unknown = (tt, (tt, (element-tests _ elem _ _, h)))
  full-tests ElementSize.Dynamic (ArraySize.StaticCount n) = (tt, ((tt, (tt, (tt, (tt, tt)))), (tt, h)))
  full-tests ElementSize.Dynamic ArraySize.DynamicCount = (tt, ((tt, (tt, (tt, (tt, tt)))), (tt, h)))
  full-tests ElementSize.Dynamic ArraySize.DynamicSize = (tt, (tt, (tt, ((tt, (tt, (tt, (tt, tt)))), (tt, h)))))
  full-tests ElementSize.Dynamic ArraySize.Unknown = (tt, (tt, ((tt, (tt, (tt, (tt, tt)))), (tt, h))))
  full-tests ElementSize.Unknown (ArraySize.StaticCount n) = ((tt, (tt, (tt, tt))), h)
  full-tests ElementSize.Unknown ArraySize.DynamicCount = ((tt, (tt, (tt, tt))), h)
  full-tests ElementSize.Unknown ArraySize.DynamicSize = (tt, (tt, ((tt, (tt, (tt, (tt, tt)))), (tt, h))))
  full-tests ElementSize.Unknown ArraySize.Unknown = ((tt, (tt, (tt, (tt, tt)))), h)

  mode-tests : (k : Arrays) (e : ElementSize) (n : ArraySize) → NoProductTested (by_mode k Products.Divide id type elem l e n)
  mode-tests Arrays.Lite e n = lite-tests e n
  mode-tests Arrays.Full e n = full-tests e n

modifier-tests : (c : Modifier) (w : ℕ) (x : Text) (l : List Stmt) → NoProductTested l → NoProductTested (modifier_lines c w x l)
modifier-tests Modifier.None w x l h = h
modifier-tests (Modifier.Plus n) w x l h = (tt, h)
modifier-tests (Modifier.Minus n) w x l h = (tt, h)

array-tests : (c : Modifier) (w : ℕ) (a : Array) (l : List Stmt) → a.products ≡ Products.Divide → NoProductTested l
    → NoProductTested (modifier_lines c w (size_name a) (by_mode a.mode a.products a.id a.type a.elem l a.element_size a.array_size))
array-tests c w a l e h =
    modifier-tests c w (size_name a) _ (rw e (mode-tests a.id a.type a.elem l h a.mode a.element_size a.array_size))

-- ---- blocks

payload-tests : (c : Modifier) (x : Text) → NoProduct (actual_size c x)
payload-tests Modifier.None x = tt
payload-tests (Modifier.Plus n) x = (tt, tt)
payload-tests (Modifier.Minus n) x = (tt, tt)

block-tests : (b : Block) (l : List Stmt) → HasProducts Products.Divide b → NoProductTested l → NoProductTested (block_lines b l)
block-tests (Block.checked o n cs) l e h = (tt, tests-body (chunks_lines o cs) l (chunks-test o cs) h)
block-tests (Block.sized_payload x s c) l e h = (payload-tests c s, (tt, (tt, h)))
block-tests (Block.payload_up_to x n) l e h = (tt, (tt, (tt, h)))
block-tests (Block.payload_to_end x) l e h = (tt, (tt, h))
block-tests (Block.array c w a) l e h = array-tests c w a l e h
block-tests (Block.padded_array p c w a) l e h = (tt, array-tests c w a _ e ((tt, ((tt, (tt, tt)), (tt, tt))), h))
block-tests (Block.optional_scalar c v order w x) l e h = ((tt, (tt, (tt, tt))), h)
block-tests (Block.optional_open c v order w x type) l e h = ((tt, (tt, (tt, tt))), h)
block-tests (Block.optional_closed c v order w x type) l e h = ((tt, (tt, (tt, (tt, (tt, tt))))), h)
block-tests (Block.optional_nested c v x type) l e h = ((tt, (tt, (tt, tt))), h)
block-tests (Block.nested type x) l e h = (tt, h)
block-tests (Block.nested_up_to id n type x) l e h = (tt, (tt, (tt, (tt, h))))

pub program-tests : (bs : List Block) → DividedBlocks bs → NoProductTested (program bs)
program-tests [] h = tt
program-tests (b ∷ bs) h = block-tests b (program bs) h.0 (program-tests bs h.1)
