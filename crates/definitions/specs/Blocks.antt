-- What a lowering emits, block by block, and the lines of each block before the lines `l` that follow: the texts of cxx.rs. A checked run of bit
-- fields (document 01) is one block, with its checked number and its chunks; so is every other field that emits lines.
-- Assumes nothing.
use Rattle.std.specs.Prelude.{ℕ, ◌+◌, ◌-◌, ◌*◌, ◌/◌, ◌^◌, Bool, true, false, List, [], ◌∷◌, ◌++◌, nat_le}
use Rattle.definitions.specs.Bytes.{Text, text, pick, all, decimal}
use Rattle.definitions.specs.Lines.{Expr, Src, Test, Before, Dest, Out, Line, Stmt}
use Rattle.definitions.specs.declared.EndiannessValue.{EndiannessValue}
use Rattle.definitions.specs.declared.Arrays.{Arrays}
use Rattle.definitions.specs.declared.Raw.{Raw}
use Rattle.definitions.specs.declared.Products.{Products}
use Rattle.definitions.specs.declared.Options.{Options}
use Rattle.definitions.specs.declared.Modifier.{Modifier}
use Rattle.definitions.specs.declared.ElementSize.{ElementSize}
use Rattle.definitions.specs.declared.ArraySize.{ArraySize}

abbrev pub span : Text
span = text "span"

abbrev pub raw : Text
raw = text "raw_value"

abbrev pub element_span : Text
element_span = text "element_span"

-- lines before statements
abbrev pub body : List Line → List Stmt → List Stmt
body [] l = l
body (x ∷ xs) l = Stmt.one x ∷ body xs l

-- `check_size`
abbrev pub check_size : Expr → Line
check_size e = Line.check 4 (Test.less (Expr.size span) e)

-- the same of A * B bytes, by their product or by a division (document 02, Card 8)
abbrev pub check_product : Products → Expr → Expr → Line
check_product Products.Plain a b = check_size (Expr.mul a b)
check_product Products.Divide a b = Line.check 4 (Test.divided (Expr.size span) a b)

-- `if (span.size() < e) return false;`
abbrev pub room_for : Expr → Line
room_for e = Line.must (Test.less (Expr.size span) e)

-- ---- the chunks of a checked run

-- what a bit field's bits are put into, or held against
pub data Kind : Type 0 where
  -- a scalar, size, count, element size; a flag or a condition
  number condition : Text → Kind
  -- a variable and its enum
  open_enum closed_enum : Text → Text → Kind
  -- the value it must have
  fixed_scalar : ℕ → Kind
  -- an enum and the tag it must have
  fixed_enum : Text → Text → Kind
  reserved : Kind

pub record Bit : Type 0 where
  pub shift : ℕ
  pub width : ℕ
  pub kind : Kind

pub record Chunk : Type 0 where
  -- the value of `chunk_nr` when the chunk was closed
  pub nr : ℕ
  -- how many tested enums stand in the target's chunks before it (document 02, Card 7)
  pub raw_nr : ℕ
  pub fields : List Bit

abbrev pub widths : List Bit → ℕ
widths [] = 0
widths (b ∷ bs) = b.width + widths bs

-- the bits of the backing type, of a width up to 64: more is refusal 12
abbrev pub get_cxx_scalar_type : ℕ → ℕ
get_cxx_scalar_type w = pick (nat_le w 8) 8 (pick (nat_le w 16) 16 (pick (nat_le w 32) 32 64))

-- `s.read_le<uintW_t, N>()` of so many bits
abbrev pub read_of : Text → EndiannessValue → ℕ → Src
read_of s order w = Src.read s order (get_cxx_scalar_type w) (w / 8)

-- `mask`
abbrev pub mask : ℕ → ℕ
mask w = 2 ^ w - 1

-- the variable that a tested enum, the k-th of the target's from 0 on, is held in (document 02, Card 7)
abbrev pub raw_name : Raw → ℕ → Text
raw_name Raw.Plain k = raw
raw_name Raw.Numbered k = raw ++ decimal k

-- how many tested enums there are behind a field, where k are before it
abbrev pub next_raw : ℕ → Kind → ℕ
next_raw k (Kind.number x) = k
next_raw k (Kind.condition x) = k
next_raw k (Kind.open_enum x type) = k
next_raw k (Kind.closed_enum x type) = k + 1
next_raw k (Kind.fixed_scalar n) = k
next_raw k (Kind.fixed_enum type tag) = k
next_raw k Kind.reserved = k

-- and behind the fields of a chunk
abbrev pub raws_behind : ℕ → List Bit → ℕ
raws_behind k [] = k
raws_behind k (b ∷ bs) = raws_behind (next_raw k b.kind) bs

-- the lines of a field whose bits are v; a tested enum is held in r
-- (a closed enum's `return false;` stands three spaces deep, as in cxx.rs)
abbrev pub kind_lines : Text → Src → Kind → List Line
kind_lines r v (Kind.number x) = Line.set Before.old x v ∷ []
kind_lines r v (Kind.condition x) = Line.set Before.condition x v ∷ []
kind_lines r v (Kind.open_enum x type) = Line.set_cast x type v ∷ []
kind_lines r v (Kind.closed_enum x type) =
    Line.set Before.auto r v ∷ Line.check 3 (Test.not_valid type r) ∷ Line.set_cast x type (Src.held r) ∷ []
kind_lines r v (Kind.fixed_scalar n) = Line.check 4 (Test.not_fixed v n) ∷ []
kind_lines r v (Kind.fixed_enum type tag) = Line.check 4 (Test.not_tag type v tag) ∷ []
kind_lines r v Kind.reserved = []

abbrev pub is_reserved : Kind → Bool
is_reserved (Kind.number x) = false
is_reserved (Kind.condition x) = false
is_reserved (Kind.open_enum x type) = false
is_reserved (Kind.closed_enum x type) = false
is_reserved (Kind.fixed_scalar n) = false
is_reserved (Kind.fixed_enum type tag) = false
is_reserved Kind.reserved = true

-- `should_skip_value`: reserved fields only
abbrev pub should_skip_value : List Bit → Bool
should_skip_value bs = all (λ (b : Bit). is_reserved b.kind) bs

abbrev pub chunk_name : ℕ → Text
chunk_name nr = text "chunk" ++ decimal nr

-- the fields of a chunk that is held in a variable, behind k tested enums
abbrev pub bits_lines : Raw → Text → ℕ → List Bit → List Line
bits_lines m x k [] = []
bits_lines m x k (b ∷ bs) =
    kind_lines (raw_name m k) (Src.bits x b.shift (mask b.width)) b.kind ++ bits_lines m x (next_raw k b.kind) bs

-- a chunk of one field reads into it, a larger one into `chunk0`, `chunk1` and so on
abbrev pub read_lines : Options → ℕ → ℕ → ℕ → List Bit → List Line
read_lines o nr k w [] = []
read_lines o nr k w (b ∷ []) = kind_lines (raw_name o.raw k) (read_of span o.endianness w) b.kind
read_lines o nr k w (b ∷ d ∷ bs) =
    Line.set (Before.chunk (get_cxx_scalar_type w)) (chunk_name nr) (read_of span o.endianness w)
    ∷ bits_lines o.raw (chunk_name nr) k (b ∷ d ∷ bs)

abbrev pub chunk_lines : Options → Chunk → List Line
chunk_lines o c =
    pick (should_skip_value c.fields) (Line.reserved span (widths c.fields / 8) ∷ [])
    (read_lines o c.nr c.raw_nr (widths c.fields) c.fields)

abbrev pub chunks_lines : Options → List Chunk → List Line
chunks_lines o [] = []
chunks_lines o (c ∷ cs) = chunk_lines o c ++ chunks_lines o cs

-- ---- arrays: the 24 shapes

-- `parse_array_element`: how one element is read in full mode; an Unknown or Dynamic element is always a parsed one
pub data Elem : Type 0 where
  -- byte order and width
  scalar : EndiannessValue → ℕ → Elem
  -- and before them its enum
  open_enum closed_enum : Text → EndiannessValue → ℕ → Elem
  -- its type
  parsed : Text → Elem

pub record Array : Type 0 where
  pub mode : Arrays
  pub products : Products
  pub id : Text
  -- empty where the elements have a width
  pub type : Text
  pub element_size : ElementSize
  pub array_size : ArraySize
  pub elem : Elem

-- `target_prefix`
abbrev pub prefix : Arrays → Text
prefix Arrays.Lite = []
prefix Arrays.Full = text "output->"

-- `{prefix}{id}` and an end
abbrev pub named : Arrays → Text → Text → Text
named m id end = prefix m ++ (id ++ end)

-- `{id}` and an end
abbrev pub bare : Text → Text → Text
bare id end = id ++ end

-- `T out;`, `if (!T::Parse(s, &out)) {` ..
abbrev pub parse_lines : Text → Text → List Line
parse_lines type s = Line.declare type ∷ Line.check 4 (Test.not_parsed type s (text "out")) ∷ []

-- an element from the span s, and where it goes; a parsed one goes there as o says
abbrev pub parse_array_element : Text → Elem → Dest → Out → List Line
parse_array_element s (Elem.scalar order w) d o = Line.store d (read_of s order w) ∷ []
parse_array_element s (Elem.open_enum type order w) d o = Line.store_cast d type (read_of s order w) ∷ []
parse_array_element s (Elem.closed_enum type order w) d o =
    Line.set Before.auto raw (read_of s order w) ∷ Line.check 4 (Test.not_valid type raw) ∷ Line.place d (Out.raw_as type) ∷ []
parse_array_element s (Elem.parsed type) d o =
    Line.declare type ∷ Line.check 4 (Test.not_parsed type s (text "out")) ∷ Line.place d o ∷ []

module _ (o : Products) (id type : Text) (elem : Elem) (l : List Stmt) where
  abbrev size_var : Arrays → Expr
  size_var m = Expr.var (named m id (text "_size_"))

  abbrev count_var : Arrays → Expr
  count_var m = Expr.var (named m id (text "_count_"))

  abbrev element_var : Arrays → Expr
  element_var m = Expr.var (named m id (text "_element_size_"))

  abbrev rest : Expr
  rest = Expr.size span

  abbrev room : Expr → Stmt
  room e = Stmt.one (check_size e)

  abbrev room_of : Expr → Expr → Stmt
  room_of a b = Stmt.one (check_product o a b)

  -- `if (t) {`, `    return false;`, `}`
  abbrev fails : Test → Stmt
  fails t = Stmt.one (Line.check 4 t)

  -- lite: `{id}_`
  abbrev x : Text
  x = named Arrays.Lite id (text "_")

  -- `x = span.subrange(0, e);`, `span.skip(e);`
  abbrev cut : Expr → List Stmt
  cut e = Stmt.one (Line.front Before.old x span e) ∷ Stmt.one (Line.skip span e) ∷ l

  -- `x = span;`, `span.clear();`
  abbrev whole : List Stmt
  whole = Stmt.one (Line.keep x span) ∷ Stmt.one (Line.clear span) ∷ l

  -- `x = x.subrange(0, x.size() - span.size());`
  abbrev eaten : Stmt
  eaten = Stmt.one (Line.front Before.old x x (Expr.sub (Expr.size x) rest))

  -- `parse_array_field_lite`
  abbrev pub parse_array_field_lite : ElementSize → ArraySize → List Stmt
  parse_array_field_lite (ElementSize.Static es) (ArraySize.StaticCount n) = room (Expr.lit (es * n)) ∷ cut (Expr.lit (es * n))
  parse_array_field_lite (ElementSize.Static es) ArraySize.DynamicCount =
      room_of (Expr.lit es) (count_var Arrays.Lite) ∷ cut (Expr.mul (Expr.lit es) (count_var Arrays.Lite))
  parse_array_field_lite (ElementSize.Static es) ArraySize.DynamicSize =
      room (size_var Arrays.Lite) ∷ fails (Test.ragged (size_var Arrays.Lite) (Expr.lit es)) ∷ cut (size_var Arrays.Lite)
  parse_array_field_lite (ElementSize.Static es) ArraySize.Unknown = fails (Test.ragged rest (Expr.lit es)) ∷ whole
  parse_array_field_lite ElementSize.Dynamic (ArraySize.StaticCount n) =
      fails (Test.equal (element_var Arrays.Lite) (Expr.lit 0))
      ∷ room_of (element_var Arrays.Lite) (Expr.lit n)
      ∷ cut (Expr.mul (element_var Arrays.Lite) (Expr.lit n))
  parse_array_field_lite ElementSize.Dynamic ArraySize.DynamicCount =
      fails (Test.equal (element_var Arrays.Lite) (Expr.lit 0))
      ∷ room_of (element_var Arrays.Lite) (count_var Arrays.Lite)
      ∷ cut (Expr.mul (element_var Arrays.Lite) (count_var Arrays.Lite))
  parse_array_field_lite ElementSize.Dynamic ArraySize.DynamicSize =
      room (size_var Arrays.Lite) ∷ fails (Test.ragged_or_zero (size_var Arrays.Lite) (element_var Arrays.Lite)) ∷ cut (size_var Arrays.Lite)
  parse_array_field_lite ElementSize.Dynamic ArraySize.Unknown = fails (Test.ragged_or_zero rest (element_var Arrays.Lite)) ∷ whole
  parse_array_field_lite ElementSize.Unknown (ArraySize.StaticCount n) =
      Stmt.one (Line.keep x span) ∷ Stmt.count (Expr.lit n) (parse_lines type span) ∷ eaten ∷ l
  parse_array_field_lite ElementSize.Unknown ArraySize.DynamicCount =
      Stmt.one (Line.keep x span) ∷ Stmt.count (count_var Arrays.Lite) (parse_lines type span) ∷ eaten ∷ l
  parse_array_field_lite ElementSize.Unknown ArraySize.DynamicSize = room (size_var Arrays.Lite) ∷ cut (size_var Arrays.Lite)
  parse_array_field_lite ElementSize.Unknown ArraySize.Unknown =
      Stmt.one (Line.keep x span) ∷ Stmt.while (Test.more span) (parse_lines type span) ∷ eaten ∷ l

  -- full: `output->{id}_`
  abbrev y : Text
  y = named Arrays.Full id (text "_")

  abbrev slotted : Text → List Line
  slotted s = parse_array_element s elem (Dest.slot y) Out.out

  abbrev pushed : Text → List Line
  pushed s = parse_array_element s elem (Dest.push y) Out.out

  -- `auto element_span = span.subrange(n * e, e);`, and the element in it
  abbrev in_part : List Line
  in_part =
      Line.part Before.auto element_span span (Expr.mul Expr.turn (element_var Arrays.Full)) (element_var Arrays.Full)
      ∷ parse_array_element element_span (Elem.parsed type) (Dest.slot y) Out.out

  abbrev moved_slot : List Line
  moved_slot = parse_array_element span (Elem.parsed type) (Dest.slot y) Out.moved

  abbrev moved_push : Text → List Line
  moved_push s = parse_array_element s (Elem.parsed type) (Dest.push y) Out.moved

  -- `auto {id}_count_ = e;`
  abbrev own_count : Expr → Stmt
  own_count e = Stmt.one (Line.set_to Before.auto (bare id (text "_count_")) e)

  abbrev by_own : Expr
  by_own = Expr.var (bare id (text "_count_"))

  abbrev own_span : Text
  own_span = bare id (text "_span")

  -- `parse_array_field_full`
  abbrev pub parse_array_field_full : ElementSize → ArraySize → List Stmt
  parse_array_field_full (ElementSize.Static es) (ArraySize.StaticCount n) =
      room (Expr.lit (es * n)) ∷ Stmt.count (Expr.lit n) (slotted span) ∷ l
  parse_array_field_full (ElementSize.Static es) ArraySize.DynamicCount =
      room_of (Expr.lit es) (count_var Arrays.Full) ∷ Stmt.count (count_var Arrays.Full) (pushed span) ∷ l
  parse_array_field_full (ElementSize.Static es) ArraySize.DynamicSize =
      room (size_var Arrays.Full)
      ∷ fails (Test.ragged (size_var Arrays.Full) (Expr.lit es))
      ∷ own_count (Expr.div (size_var Arrays.Full) (Expr.lit es))
      ∷ Stmt.count by_own (pushed span)
      ∷ l
  parse_array_field_full (ElementSize.Static es) ArraySize.Unknown =
      fails (Test.ragged rest (Expr.lit es))
      ∷ own_count (Expr.div rest (Expr.lit es))
      ∷ Stmt.count by_own (pushed span)
      ∷ l
  parse_array_field_full ElementSize.Dynamic (ArraySize.StaticCount n) =
      room_of (element_var Arrays.Full) (Expr.lit n)
      ∷ Stmt.count (Expr.lit n) in_part
      ∷ Stmt.one (Line.skip span (Expr.mul (element_var Arrays.Full) (Expr.lit n)))
      ∷ l
  parse_array_field_full ElementSize.Dynamic ArraySize.DynamicCount =
      room_of (element_var Arrays.Full) (count_var Arrays.Full)
      ∷ Stmt.count (count_var Arrays.Full) in_part
      ∷ Stmt.one (Line.skip span (Expr.mul (element_var Arrays.Full) (count_var Arrays.Full)))
      ∷ l
  parse_array_field_full ElementSize.Dynamic ArraySize.DynamicSize =
      room (size_var Arrays.Full)
      ∷ fails (Test.ragged_or_zero (size_var Arrays.Full) (element_var Arrays.Full))
      ∷ own_count (Expr.div (size_var Arrays.Full) (element_var Arrays.Full))
      ∷ Stmt.count by_own in_part
      ∷ Stmt.one (Line.skip span (size_var Arrays.Full))
      ∷ l
  parse_array_field_full ElementSize.Dynamic ArraySize.Unknown =
      fails (Test.ragged_or_zero rest (element_var Arrays.Full))
      ∷ own_count (Expr.div rest (element_var Arrays.Full))
      ∷ Stmt.count by_own in_part
      ∷ Stmt.one (Line.clear span)
      ∷ l
  parse_array_field_full ElementSize.Unknown (ArraySize.StaticCount n) = Stmt.count (Expr.lit n) moved_slot ∷ l
  parse_array_field_full ElementSize.Unknown ArraySize.DynamicCount = Stmt.count (count_var Arrays.Full) (moved_push span) ∷ l
  parse_array_field_full ElementSize.Unknown ArraySize.DynamicSize =
      room (size_var Arrays.Full)
      ∷ Stmt.one (Line.front Before.auto own_span span (size_var Arrays.Full))
      ∷ Stmt.while (Test.more own_span) (moved_push own_span)
      ∷ Stmt.one (Line.skip span (size_var Arrays.Full))
      ∷ l
  parse_array_field_full ElementSize.Unknown ArraySize.Unknown = Stmt.while (Test.more span) (moved_push span) ∷ l

abbrev pub by_mode : Arrays → Products → Text → Text → Elem → List Stmt → ElementSize → ArraySize → List Stmt
by_mode Arrays.Lite o id type elem l e n = parse_array_field_lite o id type elem l e n
by_mode Arrays.Full o id type elem l e n = parse_array_field_full o id type elem l e n

abbrev pub array_lines : Array → List Stmt → List Stmt
array_lines a l = by_mode a.mode a.products a.id a.type a.elem l a.element_size a.array_size

abbrev pub size_name : Array → Text
size_name a = named a.mode a.id (text "_size_")

-- the size modifier, `x = x - m;`, of a variable so many bits wide, and the array
abbrev pub modifier_lines : Modifier → ℕ → Text → List Stmt → List Stmt
modifier_lines Modifier.None w x l = l
modifier_lines (Modifier.Plus n) w x l = Stmt.one (Line.minus w x n) ∷ l
modifier_lines (Modifier.Minus n) w x l = Stmt.one (Line.plus w x n) ∷ l

abbrev pub field_lines : Modifier → ℕ → Array → List Stmt → List Stmt
field_lines m w a l = modifier_lines m w (size_name a) (array_lines a l)

-- ---- blocks

pub data Block : Type 0 where
  -- the head's choices (byte order, and what a tested enum is held in), the checked number, and the chunks behind the check
  checked : Options → ℕ → List Chunk → Block
  -- a payload by its size: target, the size variable, and its modifier
  sized_payload : Text → Text → Modifier → Block
  -- a payload up to the trailing bytes, and one to the end
  payload_up_to : Text → ℕ → Block
  payload_to_end : Text → Block
  -- an array with its size modifier and the size variable's bits
  array : Modifier → ℕ → Array → Block
  -- the same, and the padding after it: padded bytes
  padded_array : ℕ → Modifier → ℕ → Array → Block
  -- optional fields: the condition, its value, and the field: byte order and width, target, enum
  optional_scalar : Text → ℕ → EndiannessValue → ℕ → Text → Block
  optional_open optional_closed : Text → ℕ → EndiannessValue → ℕ → Text → Text → Block
  optional_nested : Text → ℕ → Text → Text → Block
  -- a nested parser, on the span, or on a part of it before the trailing bytes: its type, its target
  nested : Text → Text → Block
  nested_up_to : Text → ℕ → Text → Text → Block

-- `{id}_start_size`
abbrev pub start_name : Text → Text
start_name id = bare id (text "_start_size")

-- `{id}_start_size - span.size()`
abbrev pub gone : Text → Expr
gone z = Expr.sub (Expr.var z) (Expr.size span)

-- `P - ({id}_start_size - span.size())`
abbrev pub missing : Text → ℕ → Expr
missing z p = Expr.sub (Expr.lit p) (Expr.bracket (gone z))

-- `span.size() - N`
abbrev pub all_but : ℕ → Expr
all_but n = Expr.sub (Expr.size span) (Expr.lit n)

-- the payload's size: `(x - 5)` for +5, `(x + 5)` for -5
abbrev pub actual_size : Modifier → Text → Expr
actual_size Modifier.None x = Expr.var x
actual_size (Modifier.Plus n) x = Expr.bracket (Expr.sub (Expr.var x) (Expr.lit n))
actual_size (Modifier.Minus n) x = Expr.bracket (Expr.add (Expr.var x) (Expr.lit n))

-- `if (c == v) {` .. `}`
abbrev pub when_is : Text → ℕ → List Line → Stmt
when_is c v ls = Stmt.when (Test.equal (Expr.var c) (Expr.lit v)) ls

abbrev pub block_lines : Block → List Stmt → List Stmt
block_lines (Block.checked o n cs) l = body (check_size (Expr.lit n) ∷ chunks_lines o cs) l
block_lines (Block.sized_payload x s m) l =
    body
    (room_for (actual_size m s)
    ∷ Line.front Before.old x span (actual_size m s)
    ∷ Line.skip span (actual_size m s)
    ∷ [])
    l
block_lines (Block.payload_up_to x n) l =
    body (room_for (Expr.lit n) ∷ Line.front Before.old x span (all_but n) ∷ Line.skip span (all_but n) ∷ []) l
block_lines (Block.payload_to_end x) l = body (Line.keep x span ∷ Line.clear span ∷ []) l
block_lines (Block.array m w a) l = field_lines m w a l
block_lines (Block.padded_array p m w a) l =
    Stmt.one (Line.set_to Before.size_t (start_name a.id) (Expr.size span))
    ∷ field_lines m w a
    (Stmt.when (Test.less (gone (start_name a.id)) (Expr.lit p))
    (room_for (missing (start_name a.id) p) ∷ Line.skip span (missing (start_name a.id) p) ∷ [])
    ∷ l)
block_lines (Block.optional_scalar c v order w x) l =
    when_is c v (check_size (Expr.lit (w / 8)) ∷ Line.set Before.old x (read_of span order w) ∷ []) ∷ l
block_lines (Block.optional_open c v order w x type) l =
    when_is c v (check_size (Expr.lit (w / 8)) ∷ Line.set_cast x type (read_of span order w) ∷ []) ∷ l
block_lines (Block.optional_closed c v order w x type) l =
    when_is c v
    (check_size (Expr.lit (w / 8))
    ∷ Line.set Before.auto raw (read_of span order w)
    ∷ Line.check 3 (Test.not_valid type raw)
    ∷ Line.set_cast x type (Src.held raw)
    ∷ [])
    ∷ l
block_lines (Block.optional_nested c v x type) l =
    when_is c v (Line.emplace x ∷ Line.check 4 (Test.not_parsed type span (text "opt_output")) ∷ []) ∷ l
block_lines (Block.nested type x) l = Stmt.one (Line.must (Test.not_parsed type span x)) ∷ l
block_lines (Block.nested_up_to id n type x) l =
    body
    (room_for (Expr.lit n)
    ∷ Line.front Before.slice (bare id (text "_span")) span (all_but n)
    ∷ Line.must (Test.not_parsed type (bare id (text "_span")) x)
    ∷ Line.skip span (Expr.size (bare id (text "_span")))
    ∷ [])
    l

-- all the lines
abbrev pub program : List Block → List Stmt
program [] = []
program (b ∷ bs) = block_lines b (program bs)
