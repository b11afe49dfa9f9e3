-- The sizes of analyzer.rs: `Size`, the tables of `Schema`, `element_size` and `array_size`. A type or a parent is an earlier declaration
-- (refusal 5), so it is looked up by its name among the rows of the declarations before.
-- Assumes nothing.
use Rattle.std.specs.Prelude.{Option, Some, None, ℕ, ◌+◌, ◌*◌, ◌/◌, Bool, true, false, ◌||◌, List, [], ◌∷◌, ◌++◌}
use Rattle.definitions.specs.Bytes.{Text, text, pick, any, same, part}
use Rattle.definitions.specs.Record.{Declaration}
use Rattle.definitions.specs.declared.EnumKind.{EnumKind}
use Rattle.definitions.specs.declared.Part.{Part}
use Rattle.definitions.specs.declared.FieldDesc.{FieldDesc}
use Rattle.definitions.specs.declared.Field.{Field}
use Rattle.definitions.specs.declared.DeclDesc.{DeclDesc}
use Rattle.definitions.specs.declared.Decl.{Decl}
use Rattle.definitions.specs.declared.Size.{Size}
use Rattle.definitions.specs.declared.ElementSize.{ElementSize}
use Rattle.definitions.specs.declared.ArraySize.{ArraySize}
use Rattle.definitions.specs.declared.Reference.{Reference}

-- ---- `Size`

-- `impl Add for Size`
abbrev pub add_size : Size → Size → Size
add_size Size.Unknown (Size.Static b) = Size.Unknown
add_size Size.Unknown Size.Dynamic = Size.Unknown
add_size Size.Unknown Size.Unknown = Size.Unknown
add_size Size.Dynamic (Size.Static b) = Size.Dynamic
add_size Size.Dynamic Size.Dynamic = Size.Dynamic
add_size Size.Dynamic Size.Unknown = Size.Unknown
add_size (Size.Static a) (Size.Static b) = Size.Static (a + b)
add_size (Size.Static a) Size.Dynamic = Size.Dynamic
add_size (Size.Static a) Size.Unknown = Size.Unknown

-- `impl Mul<usize> for Size`
abbrev pub mul_size : Size → ℕ → Size
mul_size Size.Unknown n = Size.Unknown
mul_size Size.Dynamic n = Size.Dynamic
mul_size (Size.Static a) n = Size.Static (a * n)

-- `static_`: the bits of a static size
abbrev pub static_width : Size → ℕ
static_width (Size.Static width) = width
static_width Size.Dynamic = 0
static_width Size.Unknown = 0

-- ---- which field names which

abbrev pub same_name : Text → Part → Part → Bool
same_name s p q = same (part s p) (part s q)

-- `_payload_` or `_body_`
abbrev pub is_payload_id : Text → Part → Bool
is_payload_id s p = same (part s p) (text "_payload_") || same (part s p) (text "_body_")

abbrev pub reference : FieldDesc → Option Reference
reference (FieldDesc.Checksum of) = None
reference (FieldDesc.Padding size) = None
reference (FieldDesc.Size of width) = Some (Reference.Size of width)
reference (FieldDesc.Count of width) = Some (Reference.Count of)
reference (FieldDesc.ElementSize of width) = Some (Reference.ElementSize of)
reference FieldDesc.Body = None
reference (FieldDesc.Payload modifier) = None
reference (FieldDesc.FixedScalar width value) = None
reference (FieldDesc.FixedEnum type tag) = None
reference (FieldDesc.Reserved width) = None
reference (FieldDesc.Array id width type modifier size) = None
reference (FieldDesc.Scalar id width) = None
reference (FieldDesc.Flag id) = None
reference (FieldDesc.Typedef id type) = None

-- a size field of the payload
abbrev pub is_payload_size : Text → Option Reference → Bool
is_payload_size s None = false
is_payload_size s (Some (Reference.Size of width)) = is_payload_id s of
is_payload_size s (Some (Reference.Count of)) = false
is_payload_size s (Some (Reference.ElementSize of)) = false

-- a size or count field of the array `id`
abbrev pub is_array_size : Text → Part → Option Reference → Bool
is_array_size s id None = false
is_array_size s id (Some (Reference.Size of width)) = same_name s of id
is_array_size s id (Some (Reference.Count of)) = same_name s of id
is_array_size s id (Some (Reference.ElementSize of)) = false

-- an element size field of the array `id`
abbrev pub is_element_size : Text → Part → Option Reference → Bool
is_element_size s id None = false
is_element_size s id (Some (Reference.Size of width)) = false
is_element_size s id (Some (Reference.Count of)) = false
is_element_size s id (Some (Reference.ElementSize of)) = same_name s of id

-- some field of a declaration passes a test of what it names
abbrev pub any_reference : (Option Reference → Bool) → List Field → Bool
any_reference test fs = any (λ (f : Field). test (reference f.desc)) fs

-- ---- the rows of `Schema`: what a later declaration takes from an earlier one

pub record Row : Type 0 where
  pub decl : Decl
  pub decl_size : Size
  pub parent_size : Size
  pub payload_size : Size

-- `total_size`
abbrev pub total_size : Row → Size
total_size r = add_size (add_size r.decl_size r.parent_size) r.payload_size

-- `scope.typedef.get(name)`
unfoldable pub lookup : Text → List Row → Part → Option Row
lookup s [] name = None
lookup s (r ∷ rs) name = elim (same_name s r.decl.id name) [ true ↦ Some r | false ↦ lookup s rs name ]

-- `schema.total_size` of a type by its name
abbrev pub total_of : Text → List Row → Part → Size
total_of s rows name = elim (lookup s rows name) [ Some r ↦ total_size r | None ↦ Size.Unknown ]

-- `schema.decl_size(key) + schema.parent_size(key)` of the parent
abbrev pub parent_of : Text → List Row → Option Part → Size
parent_of s rows None = Size.Static 0
parent_of s rows (Some name) =
    elim (lookup s rows name) [ Some r ↦ add_size r.decl_size r.parent_size | None ↦ Size.Static 0 ]

-- ---- `annotate_field`: `fs` are the fields of the declaration

-- dynamic where a field of the declaration gives it, else unknown
abbrev pub given : Bool → Size
given true = Size.Dynamic
given false = Size.Unknown

-- `has_payload_size`
abbrev pub has_payload_size : Text → List Field → Bool
has_payload_size s fs = any_reference (is_payload_size s) fs

-- `has_array_size`
abbrev pub has_array_size : Text → List Field → Part → Bool
has_array_size s fs id = any_reference (is_array_size s id) fs

abbrev pub array_bits : Text → List Row → List Field → Part → Option ℕ → Option Part → Option ℕ → Size
array_bits s rows fs id width type None = given (has_array_size s fs id)
array_bits s rows fs id (Some width) type (Some size) = Size.Static (size * width)
array_bits s rows fs id None (Some type) (Some size) = mul_size (total_of s rows type) size
array_bits s rows fs id None None (Some size) = Size.Unknown

-- a field without a condition
unfoldable pub desc_size : Text → List Row → List Field → FieldDesc → Size
desc_size s rows fs (FieldDesc.Checksum of) = Size.Static 0
desc_size s rows fs (FieldDesc.Padding size) = Size.Static 0
desc_size s rows fs (FieldDesc.Size of width) = Size.Static width
desc_size s rows fs (FieldDesc.Count of width) = Size.Static width
desc_size s rows fs (FieldDesc.ElementSize of width) = Size.Static width
desc_size s rows fs FieldDesc.Body = given (has_payload_size s fs)
desc_size s rows fs (FieldDesc.Payload modifier) = given (has_payload_size s fs)
desc_size s rows fs (FieldDesc.FixedScalar width value) = Size.Static width
desc_size s rows fs (FieldDesc.FixedEnum type tag) = total_of s rows type
desc_size s rows fs (FieldDesc.Reserved width) = Size.Static width
desc_size s rows fs (FieldDesc.Array id width type modifier size) = array_bits s rows fs id width type size
desc_size s rows fs (FieldDesc.Scalar id width) = Size.Static width
desc_size s rows fs (FieldDesc.Flag id) = Size.Static 1
desc_size s rows fs (FieldDesc.Typedef id type) = total_of s rows type

-- an optional field is Dynamic
abbrev pub annotate_field : Text → List Row → List Field → Field → Size
annotate_field s rows fs f =
    elim f.cond [ None ↦ desc_size s rows fs f.desc | Some cond ↦ Size.Dynamic ]

-- ---- `annotate_decl`

-- a padding sets the padded size of the field just before it, in bits
abbrev pub padding_bits : FieldDesc → Option ℕ
padding_bits (FieldDesc.Checksum of) = None
padding_bits (FieldDesc.Padding size) = Some (8 * size)
padding_bits (FieldDesc.Size of width) = None
padding_bits (FieldDesc.Count of width) = None
padding_bits (FieldDesc.ElementSize of width) = None
padding_bits FieldDesc.Body = None
padding_bits (FieldDesc.Payload modifier) = None
padding_bits (FieldDesc.FixedScalar width value) = None
padding_bits (FieldDesc.FixedEnum type tag) = None
padding_bits (FieldDesc.Reserved width) = None
padding_bits (FieldDesc.Array id width type modifier size) = None
padding_bits (FieldDesc.Scalar id width) = None
padding_bits (FieldDesc.Flag id) = None
padding_bits (FieldDesc.Typedef id type) = None

abbrev pub padded_by : List Field → Option ℕ
padded_by [] = None
padded_by (f ∷ later) = padding_bits f.desc

-- a field with its entries of the tables `field_size` and `padded_size`
pub record Annotated : Type 0 where
  pub field : Field
  pub field_size : Size
  pub padded_size : Option ℕ

-- the fields from one on; `fs` are all of the declaration
unfoldable pub annotate_fields : Text → List Row → List Field → List Field → List Annotated
annotate_fields s rows fs [] = []
annotate_fields s rows fs (f ∷ later) =
    record { field = f; field_size = annotate_field s rows fs f; padded_size = padded_by later } ∷ annotate_fields s rows fs later

abbrev pub is_payload : FieldDesc → Bool
is_payload (FieldDesc.Checksum of) = false
is_payload (FieldDesc.Padding size) = false
is_payload (FieldDesc.Size of width) = false
is_payload (FieldDesc.Count of width) = false
is_payload (FieldDesc.ElementSize of width) = false
is_payload FieldDesc.Body = true
is_payload (FieldDesc.Payload modifier) = true
is_payload (FieldDesc.FixedScalar width value) = false
is_payload (FieldDesc.FixedEnum type tag) = false
is_payload (FieldDesc.Reserved width) = false
is_payload (FieldDesc.Array id width type modifier size) = false
is_payload (FieldDesc.Scalar id width) = false
is_payload (FieldDesc.Flag id) = false
is_payload (FieldDesc.Typedef id type) = false

abbrev pub is_array : FieldDesc → Bool
is_array (FieldDesc.Checksum of) = false
is_array (FieldDesc.Padding size) = false
is_array (FieldDesc.Size of width) = false
is_array (FieldDesc.Count of width) = false
is_array (FieldDesc.ElementSize of width) = false
is_array FieldDesc.Body = false
is_array (FieldDesc.Payload modifier) = false
is_array (FieldDesc.FixedScalar width value) = false
is_array (FieldDesc.FixedEnum type tag) = false
is_array (FieldDesc.Reserved width) = false
is_array (FieldDesc.Array id width type modifier size) = true
is_array (FieldDesc.Scalar id width) = false
is_array (FieldDesc.Flag id) = false
is_array (FieldDesc.Typedef id type) = false

-- what a field adds to its declaration: its padded size where it has one
abbrev pub outer_size : Size → Option ℕ → Size
outer_size size None = size
outer_size size (Some bits) = Size.Static bits

-- the sum over the fields that are no payload
unfoldable pub fields_size : Size → List Annotated → Size
fields_size sum [] = sum
fields_size sum (a ∷ xs) =
    fields_size (pick (is_payload a.field.desc) sum (add_size sum (outer_size a.field_size a.padded_size))) xs

-- the size of the last payload
unfoldable pub payloads_size : Size → List Annotated → Size
payloads_size last [] = last
payloads_size last (a ∷ xs) = payloads_size (pick (is_payload a.field.desc) a.field_size last) xs

-- `parent_id`
abbrev pub parent_id : DeclDesc → Option Part
parent_id (DeclDesc.Checksum width) = None
parent_id (DeclDesc.CustomField width) = None
parent_id (DeclDesc.Enum width is_open is_complete) = None
parent_id (DeclDesc.Packet parent) = parent
parent_id (DeclDesc.Struct parent) = parent

abbrev pub custom_size : Option ℕ → Size
custom_size None = Size.Dynamic
custom_size (Some width) = Size.Static width

-- `decl_size` and `payload_size`, of a packet and a struct what their fields come to
abbrev pub decl_size_of : DeclDesc → Size → Size
decl_size_of (DeclDesc.Checksum width) sum = Size.Static width
decl_size_of (DeclDesc.CustomField width) sum = custom_size width
decl_size_of (DeclDesc.Enum width is_open is_complete) sum = Size.Static width
decl_size_of (DeclDesc.Packet parent) sum = sum
decl_size_of (DeclDesc.Struct parent) sum = sum

abbrev pub payload_size_of : DeclDesc → Size → Size
payload_size_of (DeclDesc.Checksum width) last = Size.Static 0
payload_size_of (DeclDesc.CustomField width) last = Size.Static 0
payload_size_of (DeclDesc.Enum width is_open is_complete) last = Size.Static 0
payload_size_of (DeclDesc.Packet parent) last = last
payload_size_of (DeclDesc.Struct parent) last = last

abbrev pub row_of : Text → List Row → Decl → List Annotated → Row
row_of s rows d xs =
    record {
      decl = d;
      decl_size = decl_size_of d.desc (fields_size (Size.Static 0) xs);
      parent_size = parent_of s rows (parent_id d.desc);
      payload_size = payload_size_of d.desc (payloads_size (Size.Static 0) xs);
    }

-- ---- `Schema::new`: an entry for each declaration

pub record Entry : Type 0 where
  -- the rows of the declarations before: what the names in this one are looked up in
  pub earlier : List Row
  pub declaration : Declaration
  pub fields : List Annotated
  pub row : Row

abbrev pub Schema : Type 0
Schema = List Entry

abbrev pub annotate_decl : Text → List Row → Declaration → Entry
annotate_decl s rows d =
    record {
      earlier = rows;
      declaration = d;
      fields = annotate_fields s rows d.fields d.fields;
      row = row_of s rows d.decl (annotate_fields s rows d.fields d.fields);
    }

unfoldable pub annotate_from : Text → List Row → List Declaration → Schema
annotate_from s rows [] = []
annotate_from s rows (d ∷ ds) = annotate_decl s rows d ∷ annotate_from s (rows ++ ((annotate_decl s rows d).row ∷ [])) ds

abbrev pub new_schema : Text → List Declaration → Schema
new_schema s ds = annotate_from s [] ds

-- ---- `element_size` and `array_size`, of an array of the declaration with the fields `fs`

abbrev pub typed_element : Size → Bool → ElementSize
typed_element (Size.Static width) b = ElementSize.Static (width / 8)
typed_element Size.Dynamic true = ElementSize.Dynamic
typed_element Size.Dynamic false = ElementSize.Unknown
typed_element Size.Unknown true = ElementSize.Dynamic
typed_element Size.Unknown false = ElementSize.Unknown

abbrev pub element_size : Text → List Row → List Field → Part → Option ℕ → Option Part → ElementSize
element_size s rows fs id (Some width) type = ElementSize.Static (width / 8)
element_size s rows fs id None (Some type) =
    typed_element (total_of s rows type) (any_reference (is_element_size s id) fs)
element_size s rows fs id None None = ElementSize.Unknown

-- what one field makes of the array's size; else what the others make of it
abbrev pub counted_by : Text → Part → Option Reference → ArraySize → ArraySize
counted_by s id None other = other
counted_by s id (Some (Reference.Size of width)) other = pick (same_name s of id) ArraySize.DynamicSize other
counted_by s id (Some (Reference.Count of)) other = pick (same_name s of id) ArraySize.DynamicCount other
counted_by s id (Some (Reference.ElementSize of)) other = other

-- `decl.array_size(id)`: the first size or count field of the array decides
unfoldable pub first_count : Text → Part → List Field → ArraySize
first_count s id [] = ArraySize.Unknown
first_count s id (f ∷ fs) = counted_by s id (reference f.desc) (first_count s id fs)

abbrev pub array_size : Text → List Field → Part → Option ℕ → ArraySize
array_size s fs id (Some count) = ArraySize.StaticCount count
array_size s fs id None = first_count s id fs

-- ---- a type that is an enum: its width, and the marks open and complete

abbrev pub desc_enum : DeclDesc → Option EnumKind
desc_enum (DeclDesc.Checksum width) = None
desc_enum (DeclDesc.CustomField width) = None
desc_enum (DeclDesc.Enum width is_open is_complete) = Some (record { width = width; is_open = is_open; is_complete = is_complete })
desc_enum (DeclDesc.Packet parent) = None
desc_enum (DeclDesc.Struct parent) = None

abbrev pub enum_of : Text → List Row → Part → Option EnumKind
enum_of s rows type = elim (lookup s rows type) [ Some r ↦ desc_enum r.decl.desc | None ↦ None ]

abbrev pub is_enum : Option EnumKind → Bool
is_enum (Some kind) = true
is_enum None = false

-- `is_bitfield`: a typedef only where its type is an enum
abbrev pub is_bitfield : Text → List Row → FieldDesc → Bool
is_bitfield s rows (FieldDesc.Checksum of) = false
is_bitfield s rows (FieldDesc.Padding size) = false
is_bitfield s rows (FieldDesc.Size of width) = true
is_bitfield s rows (FieldDesc.Count of width) = true
is_bitfield s rows (FieldDesc.ElementSize of width) = true
is_bitfield s rows FieldDesc.Body = false
is_bitfield s rows (FieldDesc.Payload modifier) = false
is_bitfield s rows (FieldDesc.FixedScalar width value) = true
is_bitfield s rows (FieldDesc.FixedEnum type tag) = true
is_bitfield s rows (FieldDesc.Reserved width) = true
is_bitfield s rows (FieldDesc.Array id width type modifier size) = false
is_bitfield s rows (FieldDesc.Scalar id width) = true
is_bitfield s rows (FieldDesc.Flag id) = true
is_bitfield s rows (FieldDesc.Typedef id type) = is_enum (enum_of s rows type)
