-- Document 01, 'The answer, and why a record is turned back': the number of each refusal, and refusals 3 to 9, each a test over the whole record;
-- and of document 02 16, before them, and 17, between 8 and 9.
-- Assumes nothing.
use Rattle.std.specs.Prelude.{Result, Ok, Err, Option, Some, None, ℕ, ◌+◌, ◌-◌, ◌%◌, ◌^◌, Bool, true, false, not, ◌&&◌, ◌||◌, ltb, List, [], ◌∷◌, ◌++◌, length, ◌==◌, nat_lt}
use Rattle.definitions.specs.Bytes.{Text, any, part}
use Rattle.definitions.specs.Keywords.{is_keyword}
use Rattle.definitions.specs.Record.{Declaration}
use Rattle.definitions.specs.Sizes.{Schema, Entry, Row, Annotated, same_name, parent_id, desc_enum, enum_of, is_enum, total_size, total_of, static_width}
use Rattle.definitions.specs.declared.EnumKind.{EnumKind}
use Rattle.definitions.specs.declared.Part.{Part}
use Rattle.definitions.specs.declared.Modifier.{Modifier}
use Rattle.definitions.specs.declared.Head.{Head}
use Rattle.definitions.specs.declared.FieldDesc.{FieldDesc}
use Rattle.definitions.specs.declared.Condition.{Condition}
use Rattle.definitions.specs.declared.Field.{Field}
use Rattle.definitions.specs.declared.DeclDesc.{DeclDesc}
use Rattle.definitions.specs.declared.Decl.{Decl}
use Rattle.definitions.specs.declared.Size.{Size}
use Rattle.definitions.specs.declared.Refusal.{Refusal}

-- what a test over the whole record comes to
abbrev pub Verdict : Type 0
Verdict = Result Unit Refusal

-- `?`: what follows where nothing is refused
abbrev pub on_ok : {A B : Type 0} → Result A Refusal → (A → Result B Refusal) → Result B Refusal
on_ok (Ok x) f = f x
on_ok (Err why) f = Err why

abbrev pub number : Refusal → ℕ
number Refusal.RecordLength = 1
number Refusal.RecordForm = 2
number Refusal.Keyword = 16
number Refusal.TooMany = 3
number Refusal.DuplicateName = 4
number Refusal.UnknownName = 5
number Refusal.OutOfRange = 6
number Refusal.TooLarge = 7
number Refusal.NotWholeBytes = 8
number Refusal.Misstated = 17
number Refusal.NoTarget = 9
number Refusal.OpenChunk = 10
number Refusal.OctetBoundary = 11
number Refusal.ScalarTooWide = 12
number Refusal.UnsupportedOptional = 13
number Refusal.MultipleUnknown = 14
number Refusal.SectionTooLong = 19
number Refusal.NoRoom = 15

-- ---- 16: a name of the record is a keyword of C++17 (document 02, Card 6)

abbrev pub maybe_name : Option Part → List Part
maybe_name None = []
maybe_name (Some name) = name ∷ []

abbrev pub desc_names : FieldDesc → List Part
desc_names (FieldDesc.Checksum of) = of ∷ []
desc_names (FieldDesc.Padding size) = []
desc_names (FieldDesc.Size of width) = of ∷ []
desc_names (FieldDesc.Count of width) = of ∷ []
desc_names (FieldDesc.ElementSize of width) = of ∷ []
desc_names FieldDesc.Body = []
desc_names (FieldDesc.Payload modifier) = []
desc_names (FieldDesc.FixedScalar width value) = []
desc_names (FieldDesc.FixedEnum type tag) = type ∷ tag ∷ []
desc_names (FieldDesc.Reserved width) = []
desc_names (FieldDesc.Array id width type modifier size) = id ∷ maybe_name type
desc_names (FieldDesc.Scalar id width) = id ∷ []
desc_names (FieldDesc.Flag id) = id ∷ []
desc_names (FieldDesc.Typedef id type) = id ∷ type ∷ []

abbrev pub cond_names : Option Condition → List Part
cond_names None = []
cond_names (Some cond) = cond.id ∷ []

abbrev pub field_names : Field → List Part
field_names f = desc_names f.desc ++ cond_names f.cond

abbrev pub decl_names : Decl → List Part
decl_names d = d.id ∷ maybe_name (parent_id d.desc)

-- of fields, and of declarations with theirs
abbrev pub fields_names : List Field → List Part
fields_names [] = []
fields_names (f ∷ fs) = field_names f ++ fields_names fs

abbrev pub declarations_names : List Declaration → List Part
declarations_names [] = []
declarations_names (d ∷ ds) = decl_names d.decl ++ (fields_names d.fields ++ declarations_names ds)

-- every name of the record
abbrev pub record_names : Head → List Declaration → List Part
record_names h ds = h.target ∷ declarations_names ds

-- one of these names is a keyword
unfoldable pub any_keyword : Text → List Part → Bool
any_keyword s names = any (λ (n : Part). is_keyword (part s n)) names

abbrev pub keyword_name : Text → Head → List Declaration → Bool
keyword_name s h ds = any_keyword s (record_names h ds)

-- ---- 3: more than 32 declarations, or one with more than 64 fields

unfoldable pub too_many : List Declaration → Bool
too_many ds = nat_lt 32 (length ds) || any (λ (d : Declaration). ltb 64 (length d.fields)) ds

-- ---- 4: two declarations with one name

unfoldable pub duplicate_name : Text → List Declaration → Bool
duplicate_name s [] = false
duplicate_name s (d ∷ ds) = any (λ (e : Declaration). same_name s d.decl.id e.decl.id) ds || duplicate_name s ds

-- ---- 5: a type or parent is not an earlier declaration, a parent is no packet or struct, a fixed enum's type is no enum

unfoldable pub find : Text → List Declaration → Part → Option DeclDesc
find s [] name = None
find s (d ∷ ds) name = elim (same_name s d.decl.id name) [ true ↦ Some d.decl.desc | false ↦ find s ds name ]

-- a packet or struct
abbrev pub is_frame : DeclDesc → Bool
is_frame (DeclDesc.Checksum width) = false
is_frame (DeclDesc.CustomField width) = false
is_frame (DeclDesc.Enum width is_open is_complete) = false
is_frame (DeclDesc.Packet parent) = true
is_frame (DeclDesc.Struct parent) = true

abbrev pub is_enum_desc : DeclDesc → Bool
is_enum_desc d = is_enum (desc_enum d)

abbrev pub is_there : DeclDesc → Bool
is_there d = true

-- none, or one that fails the test
abbrev pub lacks : (DeclDesc → Bool) → Option DeclDesc → Bool
lacks ok None = true
lacks ok (Some d) = not (ok d)

abbrev pub bad_name : Text → List Declaration → (DeclDesc → Bool) → Option Part → Bool
bad_name s earlier ok None = false
bad_name s earlier ok (Some name) = lacks ok (find s earlier name)

abbrev pub bad_type : Text → List Declaration → FieldDesc → Bool
bad_type s earlier (FieldDesc.Checksum of) = false
bad_type s earlier (FieldDesc.Padding size) = false
bad_type s earlier (FieldDesc.Size of width) = false
bad_type s earlier (FieldDesc.Count of width) = false
bad_type s earlier (FieldDesc.ElementSize of width) = false
bad_type s earlier FieldDesc.Body = false
bad_type s earlier (FieldDesc.Payload modifier) = false
bad_type s earlier (FieldDesc.FixedScalar width value) = false
bad_type s earlier (FieldDesc.FixedEnum type tag) = bad_name s earlier is_enum_desc (Some type)
bad_type s earlier (FieldDesc.Reserved width) = false
bad_type s earlier (FieldDesc.Array id width type modifier size) = bad_name s earlier is_there type
bad_type s earlier (FieldDesc.Scalar id width) = false
bad_type s earlier (FieldDesc.Flag id) = false
bad_type s earlier (FieldDesc.Typedef id type) = bad_name s earlier is_there (Some type)

abbrev pub bad_names : Text → List Declaration → Declaration → Bool
bad_names s earlier d =
    bad_name s earlier is_frame (parent_id d.decl.desc) || any (λ (f : Field). bad_type s earlier f.desc) d.fields

unfoldable pub unknown_from : Text → List Declaration → List Declaration → Bool
unknown_from s earlier [] = false
unknown_from s earlier (d ∷ ds) = bad_names s earlier d || unknown_from s (earlier ++ (d ∷ [])) ds

abbrev pub unknown_name : Text → List Declaration → Bool
unknown_name s ds = unknown_from s [] ds

-- ---- 6: a width, count, padding or mod number outside its range

abbrev pub outside : ℕ → ℕ → ℕ → Bool
outside low high n = nat_lt n low || nat_lt high n

abbrev pub bad_width : ℕ → Bool
bad_width w = outside 1 64 w

abbrev pub bad_count : ℕ → Bool
bad_count n = outside 0 65535 n

abbrev pub bad_maybe : (ℕ → Bool) → Option ℕ → Bool
bad_maybe bad None = false
bad_maybe bad (Some n) = bad n

abbrev pub bad_modifier : Modifier → Bool
bad_modifier Modifier.None = false
bad_modifier (Modifier.Plus n) = bad_count n
bad_modifier (Modifier.Minus n) = bad_count n

abbrev pub bad_number : FieldDesc → Bool
bad_number (FieldDesc.Checksum of) = false
bad_number (FieldDesc.Padding size) = bad_count size
bad_number (FieldDesc.Size of width) = bad_width width
bad_number (FieldDesc.Count of width) = bad_width width
bad_number (FieldDesc.ElementSize of width) = bad_width width
bad_number FieldDesc.Body = false
bad_number (FieldDesc.Payload modifier) = bad_modifier modifier
bad_number (FieldDesc.FixedScalar width value) = bad_width width
bad_number (FieldDesc.FixedEnum type tag) = false
bad_number (FieldDesc.Reserved width) = bad_width width
bad_number (FieldDesc.Array id width type modifier size) =
    bad_maybe bad_width width || bad_modifier modifier || bad_maybe bad_count size
bad_number (FieldDesc.Scalar id width) = bad_width width
bad_number (FieldDesc.Flag id) = false
bad_number (FieldDesc.Typedef id type) = false

abbrev pub bad_decl : DeclDesc → Bool
bad_decl (DeclDesc.Checksum width) = bad_width width
bad_decl (DeclDesc.CustomField width) = bad_maybe (outside 1 4096) width
bad_decl (DeclDesc.Enum width is_open is_complete) = bad_width width
bad_decl (DeclDesc.Packet parent) = false
bad_decl (DeclDesc.Struct parent) = false

unfoldable pub out_of_range : List Declaration → Bool
out_of_range ds =
    any (λ (d : Declaration). bad_decl d.decl.desc || any (λ (f : Field). bad_number f.desc) d.fields) ds

-- ---- 7: a static size in the tables, a total size, or the sum of one declaration's static field sizes is over 2 ^ 31 - 1 bits

abbrev pub too_large : ℕ → Bool
too_large bits = nat_lt (2 ^ 31 - 1) bits

abbrev pub large_size : Size → Bool
large_size (Size.Static bits) = too_large bits
large_size Size.Dynamic = false
large_size Size.Unknown = false

abbrev pub large_field : Annotated → Bool
large_field a = large_size a.field_size || bad_maybe too_large a.padded_size

unfoldable pub static_sum : List Annotated → ℕ
static_sum [] = 0
static_sum (a ∷ xs) = static_width a.field_size + static_sum xs

abbrev pub large_row : Row → Bool
large_row r =
    large_size r.decl_size || large_size r.parent_size || large_size r.payload_size || large_size (total_size r)

abbrev pub large_entry : Entry → Bool
large_entry e = any large_field e.fields || large_row e.row || too_large (static_sum e.fields)

unfoldable pub large : Schema → Bool
large schema = any large_entry schema

-- ---- 8: an array's static element size is not a positive whole number of bytes; an optional scalar or enum has no whole bytes

abbrev pub not_whole : ℕ → Bool
not_whole bits = not (bits % 8 == 0)

abbrev pub ragged_size : Size → Bool
ragged_size (Size.Static bits) = bits == 0 || not_whole bits
ragged_size Size.Dynamic = false
ragged_size Size.Unknown = false

abbrev pub ragged_array : Text → List Row → Option ℕ → Option Part → Bool
ragged_array s rows (Some width) type = ragged_size (Size.Static width)
ragged_array s rows None (Some type) = ragged_size (total_of s rows type)
ragged_array s rows None None = false

abbrev pub is_optional : Option Condition → Bool
is_optional None = false
is_optional (Some cond) = true

abbrev pub ragged_enum : Option EnumKind → Bool
ragged_enum (Some kind) = not_whole kind.width
ragged_enum None = false

abbrev pub ragged_desc : Text → List Row → Bool → FieldDesc → Bool
ragged_desc s rows optional (FieldDesc.Checksum of) = false
ragged_desc s rows optional (FieldDesc.Padding size) = false
ragged_desc s rows optional (FieldDesc.Size of width) = false
ragged_desc s rows optional (FieldDesc.Count of width) = false
ragged_desc s rows optional (FieldDesc.ElementSize of width) = false
ragged_desc s rows optional FieldDesc.Body = false
ragged_desc s rows optional (FieldDesc.Payload modifier) = false
ragged_desc s rows optional (FieldDesc.FixedScalar width value) = false
ragged_desc s rows optional (FieldDesc.FixedEnum type tag) = false
ragged_desc s rows optional (FieldDesc.Reserved width) = false
ragged_desc s rows optional (FieldDesc.Array id width type modifier size) = ragged_array s rows width type
ragged_desc s rows optional (FieldDesc.Scalar id width) = optional && not_whole width
ragged_desc s rows optional (FieldDesc.Flag id) = false
ragged_desc s rows optional (FieldDesc.Typedef id type) = optional && ragged_enum (enum_of s rows type)

abbrev pub ragged_field : Text → List Row → Field → Bool
ragged_field s rows f = ragged_desc s rows (is_optional f.cond) f.desc

unfoldable pub ragged : Text → Schema → Bool
ragged s schema = any (λ (e : Entry). any (ragged_field s e.earlier) e.declaration.fields) schema

-- ---- 17: a `bits` line differs from `decl_size` (document 02, Card 10)

abbrev pub same_size : Size → Size → Bool
same_size (Size.Static a) (Size.Static b) = a == b
same_size (Size.Static a) Size.Dynamic = false
same_size (Size.Static a) Size.Unknown = false
same_size Size.Dynamic (Size.Static b) = false
same_size Size.Dynamic Size.Dynamic = true
same_size Size.Dynamic Size.Unknown = false
same_size Size.Unknown (Size.Static b) = false
same_size Size.Unknown Size.Dynamic = false
same_size Size.Unknown Size.Unknown = true

abbrev pub differs : Option Size → Size → Bool
differs None size = false
differs (Some stated) size = not (same_size stated size)

unfoldable pub misstated : Schema → Bool
misstated schema = any (λ (e : Entry). differs e.row.decl.bits e.row.decl_size) schema

-- ---- 9: the target is no packet or struct of the record

abbrev pub is_target : Text → Head → Entry → Bool
is_target s h e = same_name s e.row.decl.id h.target && is_frame e.row.decl.desc

unfoldable pub no_target : Text → Head → Schema → Bool
no_target s h schema = not (any (is_target s h) schema)

-- ---- each tested over the whole record before the next

abbrev pub refuse_if : Bool → Refusal → Verdict → Verdict
refuse_if true why next = Err why
refuse_if false why next = next

-- 16, then 3 to 9 with 17 between 8 and 9; `schema` are the tables of `ds`
unfoldable pub verdict : Text → Head → List Declaration → Schema → Verdict
verdict s h ds schema =
    refuse_if (keyword_name s h ds) Refusal.Keyword
    (refuse_if (too_many ds) Refusal.TooMany
    (refuse_if (duplicate_name s ds) Refusal.DuplicateName
    (refuse_if (unknown_name s ds) Refusal.UnknownName
    (refuse_if (out_of_range ds) Refusal.OutOfRange
    (refuse_if (large schema) Refusal.TooLarge
    (refuse_if (ragged s schema) Refusal.NotWholeBytes
    (refuse_if (misstated schema) Refusal.Misstated
    (refuse_if (no_target s h schema) Refusal.NoTarget (Ok tt)))))))))
