-- `FieldParser` of cxx.rs: the target's fields one after the other, the blocks that they emit, and refusals 10 to 14 where it panics.
-- Assumes nothing.
use Rattle.std.specs.Prelude.{Option, Some, None, ℕ, ◌+◌, ◌/◌, ◌%◌, Bool, true, false, ◌||◌, List, [], ◌∷◌, ◌++◌, ◌==◌, nat_lt}
use Rattle.definitions.specs.Bytes.{Text, text, pick, any, part}
use Rattle.definitions.specs.Sizes.{Row, Annotated, enum_of, is_bitfield, is_payload_id, has_payload_size, reference, same_name, element_size, array_size, static_width, is_array, outer_size}
use Rattle.definitions.specs.Blocks.{Kind, Bit, Chunk, raws_behind, should_skip_value, get_cxx_scalar_type, Elem, Array, named, Block}
use Rattle.definitions.specs.declared.EnumKind.{EnumKind}
use Rattle.definitions.specs.declared.Part.{Part}
use Rattle.definitions.specs.declared.Modifier.{Modifier}
use Rattle.definitions.specs.declared.EndiannessValue.{EndiannessValue}
use Rattle.definitions.specs.declared.Options.{Options}
use Rattle.definitions.specs.declared.Trailing.{Trailing}
use Rattle.definitions.specs.declared.FieldDesc.{FieldDesc}
use Rattle.definitions.specs.declared.Condition.{Condition}
use Rattle.definitions.specs.declared.Field.{Field}
use Rattle.definitions.specs.declared.Size.{Size}
use Rattle.definitions.specs.declared.Reference.{Reference}
use Rattle.definitions.specs.declared.Refusal.{Refusal}

-- ---- the parser: what stays, and what changes

pub record Setting : Type 0 where
  -- the record
  pub source : Text
  -- `scope`, and what is looked up in `schema`: the rows of the declarations before the target
  pub scope : List Row
  -- the head's choices: `endianness`; `extract_arrays`, and so `target_prefix`; what a padded array counts in a trailing size; what a tested enum is
  -- held in
  pub options : Options
  -- `decl.fields()`
  pub fields : List Field

pub record FieldParser : Type 0 where
  pub offset : ℕ
  pub shift : ℕ
  pub chunk : List Bit
  pub chunk_nr : ℕ
  -- how many tested enums the chunks closed so far have: counted through the target (document 02, Card 7)
  pub raw_nr : ℕ
  pub unchecked_code : List Chunk
  pub code : List Block

-- the parser after a field, or the panic
pub data Step : Type 0 where
  go : FieldParser → Step
  stop : Refusal → Step

abbrev pub and_then : Step → (FieldParser → Step) → Step
and_then (go p) f = f p
and_then (stop why) f = stop why

abbrev pub new : FieldParser
new = record { offset = 0; shift = 0; chunk = []; chunk_nr = 0; raw_nr = 0; unchecked_code = []; code = [] }

abbrev pub append : FieldParser → Block → FieldParser
append p b =
    record {
      offset = p.offset;
      shift = p.shift;
      chunk = p.chunk;
      chunk_nr = p.chunk_nr;
      raw_nr = p.raw_nr;
      unchecked_code = p.unchecked_code;
      code = p.code ++ (b ∷ []);
    }

-- the pending chunks go behind one size check with their byte total
abbrev pub flush : Setting → FieldParser → FieldParser
flush c p =
    record {
      offset = 0;
      shift = p.shift;
      chunk = p.chunk;
      chunk_nr = p.chunk_nr;
      raw_nr = p.raw_nr;
      unchecked_code = [];
      code = p.code ++ (Block.checked c.options p.offset p.unchecked_code ∷ []);
    }

-- 10: lines are pending, and a chunk is open
abbrev pub flushed : Setting → FieldParser → List Chunk → List Bit → Step
flushed c p [] bs = go p
flushed c p (d ∷ ds) [] = go (flush c p)
flushed c p (d ∷ ds) (b ∷ bs) = stop Refusal.OpenChunk

unfoldable pub check_code : Setting → FieldParser → Step
check_code c p = flushed c p p.unchecked_code p.chunk

-- ---- names

-- a name as it is written
abbrev pub written : Setting → Part → Text
written c name = part c.source name

-- `{prefix}{id}_`
abbrev pub member : Setting → Part → Text
member c id = named c.options.arrays (written c id) (text "_")

-- `field_name`: `payload` for `_payload_` and `_body_`
abbrev pub field_name : Setting → Part → Text
field_name c of = pick (is_payload_id c.source of) (text "payload") (written c of)

-- `is_cond_for`: the `if` names of the target's fields
abbrev pub is_cond_of : Text → Part → Option Condition → Bool
is_cond_of s id None = false
is_cond_of s id (Some cond) = same_name s cond.id id

unfoldable pub is_cond_for : Setting → Part → Bool
is_cond_for c id = any (λ (f : Field). is_cond_of c.source id f.cond) c.fields

-- ---- `parse_bit_field`

-- a closed enum is tested by `IsValid`; `complete` spares the test here
abbrev pub enum_kind : Text → Text → Option EnumKind → Kind
enum_kind x type (Some kind) = pick (kind.is_open || kind.is_complete) (Kind.open_enum x type) (Kind.closed_enum x type)
enum_kind x type None = Kind.number x

-- the arms of its `match`; the kinds that are no bit field are never reached
unfoldable pub kind_of : Setting → FieldDesc → Kind
kind_of c (FieldDesc.Checksum of) = Kind.reserved
kind_of c (FieldDesc.Padding size) = Kind.reserved
kind_of c (FieldDesc.Size of width) = Kind.number (named c.options.arrays (field_name c of) (text "_size_"))
kind_of c (FieldDesc.Count of width) = Kind.number (named c.options.arrays (written c of) (text "_count_"))
kind_of c (FieldDesc.ElementSize of width) = Kind.number (named c.options.arrays (field_name c of) (text "_element_size_"))
kind_of c FieldDesc.Body = Kind.reserved
kind_of c (FieldDesc.Payload modifier) = Kind.reserved
kind_of c (FieldDesc.FixedScalar width value) = Kind.fixed_scalar value
kind_of c (FieldDesc.FixedEnum type tag) = Kind.fixed_enum (written c type) (written c tag)
kind_of c (FieldDesc.Reserved width) = Kind.reserved
kind_of c (FieldDesc.Array id width type modifier size) = Kind.reserved
kind_of c (FieldDesc.Scalar id width) = pick (is_cond_for c id) (Kind.condition (written c id)) (Kind.number (member c id))
kind_of c (FieldDesc.Flag id) = Kind.condition (written c id)
kind_of c (FieldDesc.Typedef id type) = enum_kind (member c id) (written c type) (enum_of c.source c.scope type)

abbrev pub bit_of : Setting → ℕ → Annotated → Bit
bit_of c shift a = record { shift = shift; width = static_width a.field_size; kind = kind_of c a.field.desc }

-- `chunk_nr` goes up only for a chunk of more than one field that is no skip
abbrev pub next_nr : ℕ → List Bit → ℕ
next_nr nr [] = nr
next_nr nr (b ∷ []) = nr
next_nr nr (b ∷ d ∷ bs) = pick (should_skip_value (b ∷ d ∷ bs)) nr (nr + 1)

abbrev pub open_chunk : FieldParser → ℕ → List Bit → FieldParser
open_chunk p shift chunk =
    record {
      offset = p.offset;
      shift = shift;
      chunk = chunk;
      chunk_nr = p.chunk_nr;
      raw_nr = p.raw_nr;
      unchecked_code = p.unchecked_code;
      code = p.code;
    }

-- the chunk's lines are pending: `unchecked_append`
abbrev pub close_chunk : FieldParser → ℕ → List Bit → FieldParser
close_chunk p shift chunk =
    record {
      offset = p.offset + shift / 8;
      shift = 0;
      chunk = [];
      chunk_nr = next_nr p.chunk_nr chunk;
      raw_nr = raws_behind p.raw_nr chunk;
      unchecked_code = p.unchecked_code ++ (record { nr = p.chunk_nr; raw_nr = p.raw_nr; fields = chunk } ∷ []);
      code = p.code;
    }

-- 12: an octet boundary with more than 64 bits
abbrev pub push_bit : FieldParser → ℕ → List Bit → Step
push_bit p shift chunk = elim (shift % 8 == 0) [
  | true ↦ elim (nat_lt 64 shift) [ true ↦ stop Refusal.ScalarTooWide | false ↦ go (close_chunk p shift chunk) ]
  | false ↦ go (open_chunk p shift chunk)
]

unfoldable pub parse_bit_field : Setting → FieldParser → Annotated → Step
parse_bit_field c p a = push_bit p (p.shift + static_width a.field_size) (p.chunk ++ (bit_of c p.shift a ∷ []))

-- ---- what a field that is no bit field comes to: the block that it appends, no block, or a panic

pub data Emit : Type 0 where
  appends : Block → Emit
  silent : Emit
  refuses : Refusal → Emit

-- 11: a chunk is open
abbrev pub on_boundary : ℕ → Emit → Emit
on_boundary shift next = elim (shift == 0) [ true ↦ next | false ↦ refuses Refusal.OctetBoundary ]

-- an array without a condition
abbrev pub is_array_field : Field → Bool
is_array_field f = elim f.cond [ None ↦ is_array f.desc | Some cond ↦ false ]

-- what a later field counts: in cxx.rs its size. The language reference gives an array with a padding its padded size (document 02, Card 3)
unfoldable pub later_size : Trailing → Annotated → Size
later_size Trailing.Plain a = a.field_size
later_size Trailing.Padded a = pick (is_array_field a.field) (outer_size a.field_size a.padded_size) a.field_size

-- `get_trailing_size`: the bits that all later fields count; none where one of them is not static
unfoldable pub trailing_from : Trailing → ℕ → List Annotated → Option ℕ
trailing_from m sum [] = Some sum
trailing_from m sum (a ∷ later) = elim (later_size m a) [
  | Size.Static bits ↦ trailing_from m (sum + bits) later
  | Size.Dynamic ↦ None
  | Size.Unknown ↦ None
]

abbrev pub get_trailing_size : Trailing → List Annotated → Option ℕ
get_trailing_size m later = trailing_from m 0 later

-- 14: a later field is not static
abbrev pub on_trailing : Option ℕ → (ℕ → Emit) → Emit
on_trailing None f = refuses Refusal.MultipleUnknown
on_trailing (Some bits) f = f bits

-- ---- `parse_typedef_field`: of a type that is no enum

abbrev pub typedef_block : Setting → Part → Part → ℕ → Block
typedef_block c id type bits =
    pick (nat_lt 0 bits)
    (Block.nested_up_to (written c id) (bits / 8) (written c type) (member c id))
    (Block.nested (written c type) (member c id))

abbrev pub typedef_by_size : Setting → Part → Part → List Annotated → Size → Emit
typedef_by_size c id type later (Size.Static bits) = appends (Block.nested (written c type) (member c id))
typedef_by_size c id type later Size.Dynamic = appends (Block.nested (written c type) (member c id))
typedef_by_size c id type later Size.Unknown =
    on_trailing (get_trailing_size c.options.trailing later) λ bits. appends (typedef_block c id type bits)

unfoldable pub parse_typedef_field : Setting → ℕ → Annotated → Part → Part → List Annotated → Emit
parse_typedef_field c shift a id type later = on_boundary shift (typedef_by_size c id type later a.field_size)

-- ---- `parse_optional_field`

abbrev pub optional_typedef : Setting → Part → ℕ → Part → Part → Option EnumKind → Block
optional_typedef c cond value id type (Some kind) =
    pick kind.is_open
    (Block.optional_open (written c cond) value c.options.endianness kind.width (member c id) (written c type))
    (Block.optional_closed (written c cond) value c.options.endianness kind.width (member c id) (written c type))
optional_typedef c cond value id type None = Block.optional_nested (written c cond) value (member c id) (written c type)

-- 13: neither scalar nor typedef
abbrev pub unsupported : Emit
unsupported = refuses Refusal.UnsupportedOptional

unfoldable pub parse_optional_field : Setting → Part → ℕ → FieldDesc → Emit
parse_optional_field c cond value (FieldDesc.Checksum of) = unsupported
parse_optional_field c cond value (FieldDesc.Padding size) = unsupported
parse_optional_field c cond value (FieldDesc.Size of width) = unsupported
parse_optional_field c cond value (FieldDesc.Count of width) = unsupported
parse_optional_field c cond value (FieldDesc.ElementSize of width) = unsupported
parse_optional_field c cond value FieldDesc.Body = unsupported
parse_optional_field c cond value (FieldDesc.Payload modifier) = unsupported
parse_optional_field c cond value (FieldDesc.FixedScalar width fixed) = unsupported
parse_optional_field c cond value (FieldDesc.FixedEnum type tag) = unsupported
parse_optional_field c cond value (FieldDesc.Reserved width) = unsupported
parse_optional_field c cond value (FieldDesc.Array id width type modifier size) = unsupported
parse_optional_field c cond value (FieldDesc.Scalar id width) =
    appends (Block.optional_scalar (written c cond) value c.options.endianness width (member c id))
parse_optional_field c cond value (FieldDesc.Flag id) = unsupported
parse_optional_field c cond value (FieldDesc.Typedef id type) =
    appends (optional_typedef c cond value id type (enum_of c.source c.scope type))

-- ---- `parse_payload_field_lite`, of a payload and of a body

abbrev pub payload_name : Setting → Text → Text
payload_name c end = named c.options.arrays (text "payload") end

abbrev pub unsized_payload : Text → ℕ → Block
unsized_payload x bits = pick (nat_lt 0 bits) (Block.payload_up_to x (bits / 8)) (Block.payload_to_end x)

abbrev pub payload_by_size : Setting → Modifier → List Annotated → Bool → Emit
payload_by_size c modifier later true =
    appends (Block.sized_payload (payload_name c (text "_")) (payload_name c (text "_size_")) modifier)
payload_by_size c modifier later false =
    on_trailing (get_trailing_size c.options.trailing later) λ bits. appends (unsized_payload (payload_name c (text "_")) bits)

unfoldable pub parse_payload_field_lite : Setting → ℕ → Modifier → List Annotated → Emit
parse_payload_field_lite c shift modifier later =
    on_boundary shift (payload_by_size c modifier later (has_payload_size c.source c.fields))

-- ---- arrays: `parse_array_field_lite`, `parse_array_field_full` and `parse_array_element` are in Blocks

-- document 01, 'What the lines mean': the backing type's bits of the first size field that names the array; 64 where there is none
abbrev pub size_bits : Text → Part → Option Reference → Option ℕ
size_bits s id None = None
size_bits s id (Some (Reference.Size of width)) = pick (same_name s of id) (Some (get_cxx_scalar_type width)) None
size_bits s id (Some (Reference.Count of)) = None
size_bits s id (Some (Reference.ElementSize of)) = None

unfoldable pub size_backing : Text → Part → List Field → ℕ
size_backing s id [] = 64
size_backing s id (f ∷ fs) =
    elim (size_bits s id (reference f.desc)) [ Some b ↦ b | None ↦ size_backing s id fs ]

-- the element: `complete` spares no test here
abbrev pub typed_elem : EndiannessValue → Text → Option EnumKind → Elem
typed_elem order type (Some kind) = pick kind.is_open (Elem.open_enum type order kind.width) (Elem.closed_enum type order kind.width)
typed_elem order type None = Elem.parsed type

abbrev pub elem_of : Setting → Option ℕ → Option Part → Elem
elem_of c (Some width) type = Elem.scalar c.options.endianness width
elem_of c None (Some type) = typed_elem c.options.endianness (written c type) (enum_of c.source c.scope type)
elem_of c None None = Elem.parsed []

-- the type's name; empty where the elements have a width
abbrev pub type_name : Setting → Option Part → Text
type_name c None = []
type_name c (Some type) = written c type

abbrev pub array_of : Setting → Part → Option ℕ → Option Part → Option ℕ → Array
array_of c id width type size =
    record {
      mode = c.options.arrays;
      products = c.options.products;
      id = written c id;
      type = type_name c type;
      element_size = element_size c.source c.scope c.fields id width type;
      array_size = array_size c.source c.fields id size;
      elem = elem_of c width type;
    }

abbrev pub with_padding : Option ℕ → Modifier → ℕ → Array → Block
with_padding None m w a = Block.array m w a
with_padding (Some bits) m w a = Block.padded_array (bits / 8) m w a

unfoldable pub parse_array_field : Setting → Option ℕ → Part → Option ℕ → Option Part → Modifier → Option ℕ → Emit
parse_array_field c padding id width type modifier size =
    appends (with_padding padding modifier (size_backing c.source id c.fields) (array_of c id width type size))

-- ---- `parse`: one field, with those behind it

-- its arms for a field that is no bit field; the others are never reached
unfoldable pub parse_other : Setting → ℕ → Annotated → List Annotated → FieldDesc → Emit
parse_other c shift a later (FieldDesc.Checksum of) = silent
parse_other c shift a later (FieldDesc.Padding size) = silent
parse_other c shift a later (FieldDesc.Size of width) = silent
parse_other c shift a later (FieldDesc.Count of width) = silent
parse_other c shift a later (FieldDesc.ElementSize of width) = silent
parse_other c shift a later FieldDesc.Body = parse_payload_field_lite c shift Modifier.None later
parse_other c shift a later (FieldDesc.Payload modifier) = parse_payload_field_lite c shift modifier later
parse_other c shift a later (FieldDesc.FixedScalar width value) = silent
parse_other c shift a later (FieldDesc.FixedEnum type tag) = silent
parse_other c shift a later (FieldDesc.Reserved width) = silent
parse_other c shift a later (FieldDesc.Array id width type modifier size) =
    parse_array_field c a.padded_size id width type modifier size
parse_other c shift a later (FieldDesc.Scalar id width) = silent
parse_other c shift a later (FieldDesc.Flag id) = silent
parse_other c shift a later (FieldDesc.Typedef id type) = parse_typedef_field c shift a id type later

-- a bit field without a condition: only these gather in a chunk
unfoldable pub is_bit : Setting → Field → Bool
is_bit c f = elim f.cond [ None ↦ is_bitfield c.source c.scope f.desc | Some cond ↦ false ]

unfoldable pub parse_unchecked : Setting → ℕ → Annotated → List Annotated → Emit
parse_unchecked c shift a later = elim a.field.cond [
  | None ↦ parse_other c shift a later a.field.desc
  | Some cond ↦ parse_optional_field c cond.id cond.value a.field.desc
]

abbrev pub emitted : FieldParser → Emit → Step
emitted p (appends b) = go (append p b)
emitted p silent = go p
emitted p (refuses why) = stop why

-- any other field first flushes what is pending
unfoldable pub parse : Setting → FieldParser → Annotated → List Annotated → Step
parse c p a later = elim (is_bit c a.field) [
  | true ↦ parse_bit_field c p a
  | false ↦ and_then (check_code c p) λ q. emitted q (parse_unchecked c q.shift a later)
]

unfoldable pub parse_all : Setting → FieldParser → List Annotated → Step
parse_all c p [] = go p
parse_all c p (a ∷ later) = and_then (parse c p a later) λ q. parse_all c q later

abbrev pub done : Setting → FieldParser → Step
done c p = check_code c p

-- ---- document 01, 'Lowering': `new`, `parse` for each field of the target in order, and `done`

pub data Outcome : Type 0 where
  refused : Refusal → Outcome
  accepted : List Block → Outcome

-- the `code`
abbrev pub code_of : Step → Outcome
code_of (go p) = accepted p.code
code_of (stop why) = refused why

-- `xs` are the target's fields with their sizes
unfoldable pub lower_fields : Setting → List Annotated → Outcome
lower_fields c xs = code_of (and_then (parse_all c new xs) (done c))
