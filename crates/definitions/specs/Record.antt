-- 'The record': what stands at a place of the record `s`, and the place behind it. Where a line breaks the form nothing is read: refusal 2.
-- Assumes nothing.
use Rattle.std.specs.Prelude.{Option, Some, None, ℕ, zero, suc, ◌+◌, ◌-◌, ◌*◌, ◌^◌, Bool, true, false, ◌||◌, List, [], ◌∷◌, length, drop, ◌==◌, nat_lt}
use Rattle.definitions.specs.Bytes.{Text, text, is_digit, is_word}
use Rattle.definitions.specs.declared.Part.{Part}
use Rattle.definitions.specs.declared.Modifier.{Modifier}
use Rattle.definitions.specs.declared.EndiannessValue.{EndiannessValue}
use Rattle.definitions.specs.declared.Arrays.{Arrays}
use Rattle.definitions.specs.declared.Head.{Head}
use Rattle.definitions.specs.declared.FieldDesc.{FieldDesc}
use Rattle.definitions.specs.declared.Condition.{Condition}
use Rattle.definitions.specs.declared.Field.{Field}
use Rattle.definitions.specs.declared.DeclDesc.{DeclDesc}
use Rattle.definitions.specs.declared.Size.{Size}
use Rattle.definitions.specs.declared.Decl.{Decl}
use Rattle.definitions.specs.declared.Trailing.{Trailing}
use Rattle.definitions.specs.declared.Raw.{Raw}
use Rattle.definitions.specs.declared.Products.{Products}
use Rattle.definitions.specs.declared.OptionalRead.{OptionalRead}

-- what stands at a place, and the place behind it; nothing where the form is broken
abbrev pub Read : Type 0 → Type 0
Read A = Option (A × ℕ)

-- ---- leaves: a fixed text, a number, a name. `at` is the place of the list's first byte

-- the bytes of a text, one after the other
unfoldable pub key_of : Text → Text → ℕ → Option ℕ
key_of [] s at = Some at
key_of (k ∷ ks) [] at = None
key_of (k ∷ ks) (x ∷ s) at = elim (x == k) [ true ↦ key_of ks s (at + 1) | false ↦ None ]

abbrev pub key_at : Text → ℕ → Text → Option ℕ
key_at s at key = key_of key (drop at s) at

-- the digits behind a first one, whose number so far is v: none behind a 0, the number below 2 ^ 64, then the newline
unfoldable pub digits_of : Text → ℕ → ℕ → Read ℕ
digits_of [] v at = None
digits_of (x ∷ s) v at = elim (x == 10) [
  | true ↦ Some (v, at + 1)
  | false ↦ elim (is_digit x) [
    | true ↦ elim (v == 0) [
      | true ↦ None
      | false ↦ elim (nat_lt (v * 10 + (x - 48)) (2 ^ 64)) [
        | true ↦ digits_of s (v * 10 + (x - 48)) (at + 1)
        | false ↦ None
      ]
    ]
    | false ↦ None
  ]
]

unfoldable pub number_of : Text → ℕ → Read ℕ
number_of [] at = None
number_of (x ∷ s) at = elim (is_digit x) [ true ↦ digits_of s (x - 48) (at + 1) | false ↦ None ]

abbrev pub number_at : Text → ℕ → Read ℕ
number_at s at = number_of (drop at s) at

abbrev pub part_of : ℕ → ℕ → Part
part_of from to = record { start = from; end = to }

-- the word bytes up to the newline, of which n went before, from `start` on: at most 32
unfoldable pub word_of : Text → ℕ → ℕ → ℕ → Read Part
word_of [] start n at = None
word_of (x ∷ s) start n at = elim (x == 10) [
  | true ↦ Some (part_of start at, at + 1)
  | false ↦ elim (n == 32) [
    | true ↦ None
    | false ↦ elim (is_word x) [ true ↦ word_of s start (n + 1) (at + 1) | false ↦ None ]
  ]
]

-- a word that begins with no digit, and is not empty
unfoldable pub name_of : Text → ℕ → Read Part
name_of [] at = None
name_of (x ∷ s) at =
    elim (is_digit x) [ true ↦ None | false ↦ elim (x == 10) [ true ↦ None | false ↦ word_of (x ∷ s) at 0 at ] ]

abbrev pub is_found : Option ℕ → Bool
is_found (Some p) = true
is_found None = false

-- digits up to the newline
unfoldable pub digits_line : Text → Bool
digits_line [] = false
digits_line (x ∷ s) = elim (x == 10) [ true ↦ true | false ↦ elim (is_digit x) [ true ↦ digits_line s | false ↦ false ] ]

-- and at least one
unfoldable pub some_digits : Text → Bool
some_digits [] = false
some_digits (x ∷ s) = elim (is_digit x) [ true ↦ digits_line s | false ↦ false ]

abbrev pub digits_behind : Text → Option ℕ → Bool
digits_behind s None = false
digits_behind s (Some p) = some_digits (drop p s)

-- the line from `at` on is `span`, `output` or `chunk` with digits behind it
unfoldable pub is_forbidden : Text → ℕ → Bool
is_forbidden s at =
    is_found (key_at s at (text "span\n")) || is_found (key_at s at (text "output\n")) || digits_behind s (key_at s at (text "chunk"))

unfoldable pub name_at : Text → ℕ → Read Part
name_at s at = elim (is_forbidden s at) [ true ↦ None | false ↦ name_of (drop at s) at ]

-- ---- what follows an answer: `bad` where nothing was read, else f of what was read and the place behind it

module _ {ℓ} {A : Type ℓ} {B : Type 0} where
  abbrev pub on_found : Option B → A → (B → A) → A
  on_found (Some x) bad f = f x
  on_found None bad f = bad

  abbrev pub on_read : Read B → A → (B → ℕ → A) → A
  on_read (Some (x, p)) bad f = f x p
  on_read None bad f = bad

-- ---- lines: a key with its `=`, and a value up to the newline. `-` is absent

abbrev pub number_line : Text → ℕ → Text → Read ℕ
number_line s at key = on_found (key_at s at key) None λ p. number_at s p

unfoldable pub name_line : Text → ℕ → Text → Read Part
name_line s at key = on_found (key_at s at key) None λ p. name_at s p

abbrev pub bit_at : Text → ℕ → Read Bool
bit_at s at =
    on_found (key_at s at (text "0\n")) (on_found (key_at s at (text "1\n")) None λ p. Some (true, p)) λ p. Some (false, p)

abbrev pub bit_line : Text → ℕ → Text → Read Bool
bit_line s at key = on_found (key_at s at key) None λ p. bit_at s p

abbrev pub maybe_number_at : Text → ℕ → Read (Option ℕ)
maybe_number_at s at =
    on_found (key_at s at (text "-\n"))
    (on_read (number_at s at) None λ n p. Some (Some n, p))
    λ p. Some (None, p)

abbrev pub maybe_number_line : Text → ℕ → Text → Read (Option ℕ)
maybe_number_line s at key = on_found (key_at s at key) None λ p. maybe_number_at s p

abbrev pub maybe_name_at : Text → ℕ → Read (Option Part)
maybe_name_at s at =
    on_found (key_at s at (text "-\n"))
    (on_read (name_at s at) None λ n p. Some (Some n, p))
    λ p. Some (None, p)

unfoldable pub maybe_name_line : Text → ℕ → Text → Read (Option Part)
maybe_name_line s at key = on_found (key_at s at key) None λ p. maybe_name_at s p

-- a sign and a number
abbrev pub plus_at : Text → ℕ → Read Modifier
plus_at s at =
    on_found (key_at s at (text "+")) None λ p.
    on_read (number_at s p) None λ n q. Some (Modifier.Plus n, q)

abbrev pub minus_at : Text → ℕ → Read Modifier
minus_at s at =
    on_found (key_at s at (text "-")) (plus_at s at) λ p.
    on_read (number_at s p) None λ n q. Some (Modifier.Minus n, q)

abbrev pub modifier_at : Text → ℕ → Read Modifier
modifier_at s at = on_found (key_at s at (text "-\n")) (minus_at s at) λ p. Some (Modifier.None, p)

abbrev pub modifier_line : Text → ℕ → Text → Read Modifier
modifier_line s at key = on_found (key_at s at key) None λ p. modifier_at s p

-- a size in bits, or what else `Schema` gives (document 02, Card 10)
abbrev pub stated_at : Text → ℕ → Read (Option Size)
stated_at s at =
    on_found (key_at s at (text "dynamic\n"))
    (on_found (key_at s at (text "unknown\n"))
    (on_read (number_at s at) None λ n p. Some (Some (Size.Static n), p))
    λ p. Some (Some Size.Unknown, p))
    λ p. Some (Some Size.Dynamic, p)

-- a line that need not be there
abbrev pub bits_line : Text → ℕ → Read (Option Size)
bits_line s at = on_found (key_at s at (text "bits=")) (Some (None, at)) λ p. stated_at s p

-- ---- a field: its kind's keys, then `if` and `is`

-- a name under a key, and a width
abbrev pub named_width : Text → (Part → ℕ → FieldDesc) → Text → ℕ → Read FieldDesc
named_width key desc s at =
    on_read (name_line s at key) None λ name p.
    on_read (number_line s p (text "width=")) None λ width q. Some (desc name width, q)

unfoldable pub scalar_at : Text → ℕ → Read FieldDesc
scalar_at s at = named_width (text "id=") FieldDesc.Scalar s at

unfoldable pub size_at : Text → ℕ → Read FieldDesc
size_at s at = named_width (text "of=") FieldDesc.Size s at

unfoldable pub count_at : Text → ℕ → Read FieldDesc
count_at s at = named_width (text "of=") FieldDesc.Count s at

unfoldable pub element_size_at : Text → ℕ → Read FieldDesc
element_size_at s at = named_width (text "of=") FieldDesc.ElementSize s at

unfoldable pub fixed_scalar_at : Text → ℕ → Read FieldDesc
fixed_scalar_at s at =
    on_read (number_line s at (text "width=")) None λ width p.
    on_read (number_line s p (text "value=")) None λ value q. Some (FieldDesc.FixedScalar width value, q)

unfoldable pub fixed_enum_at : Text → ℕ → Read FieldDesc
fixed_enum_at s at =
    on_read (name_line s at (text "type=")) None λ type p.
    on_read (name_line s p (text "tag=")) None λ tag q. Some (FieldDesc.FixedEnum type tag, q)

unfoldable pub reserved_at : Text → ℕ → Read FieldDesc
reserved_at s at = on_read (number_line s at (text "width=")) None λ width p. Some (FieldDesc.Reserved width, p)

unfoldable pub flag_at : Text → ℕ → Read FieldDesc
flag_at s at = on_read (name_line s at (text "id=")) None λ id p. Some (FieldDesc.Flag id, p)

unfoldable pub typedef_at : Text → ℕ → Read FieldDesc
typedef_at s at =
    on_read (name_line s at (text "id=")) None λ id p.
    on_read (name_line s p (text "type=")) None λ type q. Some (FieldDesc.Typedef id type, q)

-- exactly one of width and type is absent
abbrev pub one_array : Part → Option ℕ → Option Part → Modifier → Option ℕ → ℕ → Read FieldDesc
one_array id None None modifier size p = None
one_array id None (Some type) modifier size p =
    Some (FieldDesc.Array id None (Some type) modifier size, p)
one_array id (Some width) None modifier size p =
    Some (FieldDesc.Array id (Some width) None modifier size, p)
one_array id (Some width) (Some type) modifier size p = None

unfoldable pub array_rest : Text → ℕ → Part → Option ℕ → Option Part → Read FieldDesc
array_rest s at id width type =
    on_read (modifier_line s at (text "mod=")) None λ modifier p.
    on_read (maybe_number_line s p (text "count=")) None λ count q. one_array id width type modifier count q

unfoldable pub array_at : Text → ℕ → Read FieldDesc
array_at s at =
    on_read (name_line s at (text "id=")) None λ id p.
    on_read (maybe_number_line s p (text "width=")) None λ width q.
    on_read (maybe_name_line s q (text "type=")) None λ type r. array_rest s r id width type

unfoldable pub payload_at : Text → ℕ → Read FieldDesc
payload_at s at = on_read (modifier_line s at (text "mod=")) None λ modifier p. Some (FieldDesc.Payload modifier, p)

abbrev pub body_at : Text → ℕ → Read FieldDesc
body_at s at = Some (FieldDesc.Body, at)

unfoldable pub padding_at : Text → ℕ → Read FieldDesc
padding_at s at = on_read (number_line s at (text "bytes=")) None λ size p. Some (FieldDesc.Padding size, p)

unfoldable pub checksum_at : Text → ℕ → Read FieldDesc
checksum_at s at = on_read (name_line s at (text "of=")) None λ of p. Some (FieldDesc.Checksum of, p)

-- the kinds, each with the reader of its keys
abbrev pub Kinds : Type 0
Kinds = List (Text × (Text → ℕ → Read FieldDesc))

-- the first of these lines that `r`, the record `s` from `at` on, begins with, and its keys
abbrev pub choose : Kinds → Text → Text → ℕ → Read FieldDesc
choose [] s r at = None
choose (k ∷ ks) s r at = on_found (key_of k.0 r at) (choose ks s r at) λ p. k.1 s p

abbrev pub kinds : Kinds
kinds =
    (text "field=scalar\n", scalar_at)
    ∷ (text "field=size\n", size_at)
    ∷ (text "field=count\n", count_at)
    ∷ (text "field=elemsize\n", element_size_at)
    ∷ (text "field=fixed\n", fixed_scalar_at)
    ∷ (text "field=fixedenum\n", fixed_enum_at)
    ∷ (text "field=reserved\n", reserved_at)
    ∷ (text "field=flag\n", flag_at)
    ∷ (text "field=typedef\n", typedef_at)
    ∷ (text "field=array\n", array_at)
    ∷ (text "field=payload\n", payload_at)
    ∷ (text "field=body\n", body_at)
    ∷ (text "field=padding\n", padding_at)
    ∷ (text "field=checksum\n", checksum_at)
    ∷ []

unfoldable pub desc_at : Text → ℕ → Read FieldDesc
desc_at s at = choose kinds s (drop at s) at

unfoldable pub cond_at : Text → ℕ → Read (Option Condition)
cond_at s at =
    on_read (maybe_name_line s at (text "if=")) None λ name p.
    on_found name (Some (None, p)) λ id.
    on_read (number_line s p (text "is=")) None λ value q. Some (Some (record { id = id; value = value }), q)

-- one field, and the place behind it
unfoldable pub field_at : Text → ℕ → Read Field
field_at s at =
    on_read (desc_at s at) None λ desc p.
    on_read (cond_at s p) None λ cond q. Some (record { key = at; desc = desc; cond = cond }, q)

-- ---- the head and the declarations

-- the head's choices
abbrev pub on_endian : {A : Type 0} → Text → ℕ → A → (EndiannessValue → ℕ → A) → A
on_endian s at bad f =
    on_found (key_at s at (text "endian=little\n"))
    (on_found (key_at s at (text "endian=big\n")) bad λ p. f EndiannessValue.BigEndian p)
    λ p. f EndiannessValue.LittleEndian p

abbrev pub on_arrays : {A : Type 0} → Text → ℕ → A → (Arrays → ℕ → A) → A
on_arrays s at bad f =
    on_found (key_at s at (text "arrays=lite\n"))
    (on_found (key_at s at (text "arrays=full\n")) bad λ p. f Arrays.Full p)
    λ p. f Arrays.Lite p

-- a line of two words that may be absent, which says what its first word says; a line of another form is no declaration, and so 2
abbrev pub word_line : {A : Type 0} → Text → ℕ → Text × A → Text × A → A × ℕ
word_line s at first other =
    on_found (key_at s at first.0) (on_found (key_at s at other.0) (first.1, at) λ p. (other.1, p)) λ p. (first.1, p)

-- how a padded array counts behind a payload
unfoldable pub trailing_at : Text → ℕ → Trailing × ℕ
trailing_at s at = word_line s at (text "trailing=plain\n", Trailing.Plain) (text "trailing=padded\n", Trailing.Padded)

-- what the variable of a tested enum is called
unfoldable pub raw_at : Text → ℕ → Raw × ℕ
raw_at s at = word_line s at (text "raw=plain\n", Raw.Plain) (text "raw=numbered\n", Raw.Numbered)

-- how an array's check asks for a product
unfoldable pub products_at : Text → ℕ → Products × ℕ
products_at s at = word_line s at (text "products=plain\n", Products.Plain) (text "products=divide\n", Products.Divide)

-- behind `trailing` and `raw`
abbrev pub behind_raw : Text → Trailing → Raw × ℕ → OptionalRead
behind_raw s trailing w =
    let p = products_at s w.1 in
    record { trailing = trailing; raw = w.0; products = p.0; next = p.1 }

abbrev pub behind_trailing : Text → Trailing × ℕ → OptionalRead
behind_trailing s t = behind_raw s t.0 (raw_at s t.1)

-- the lines that may be absent, in their order
unfoldable pub optional_at : Text → ℕ → OptionalRead
optional_at s at = behind_trailing s (trailing_at s at)

-- behind `arrays`
abbrev pub head_is : EndiannessValue → Part → Arrays → OptionalRead → Read Head
head_is endianness target arrays t =
    Some (
      (record {
        options = record { endianness = endianness; arrays = arrays; trailing = t.trailing; raw = t.raw; products = t.products };
        target = target;
      }),
      t.next,
    )

unfoldable pub head_at : Text → ℕ → Read Head
head_at s at =
    on_endian s at None λ endianness p.
    on_read (name_line s p (text "target=")) None λ target q.
    on_arrays s q None λ arrays r.
    head_is endianness target arrays (optional_at s r)

abbrev pub decl_is : ℕ → Part → Option Size → DeclDesc → ℕ → Read Decl
decl_is at id bits desc p = Some (record { key = at; id = id; bits = bits; desc = desc }, p)

-- a packet or a struct; `at` is the declaration's place, `p` that behind its `decl` line
abbrev pub parented_at : (Option Part → DeclDesc) → Text → ℕ → ℕ → Read Decl
parented_at desc s at p =
    on_read (name_line s p (text "name=")) None λ id q.
    on_read (maybe_name_line s q (text "parent=")) None λ parent r.
    on_read (bits_line s r) None λ bits t. decl_is at id bits (desc parent) t

unfoldable pub packet_at : Text → ℕ → ℕ → Read Decl
packet_at s at p = parented_at DeclDesc.Packet s at p

unfoldable pub struct_at : Text → ℕ → ℕ → Read Decl
struct_at s at p = parented_at DeclDesc.Struct s at p

unfoldable pub enum_at : Text → ℕ → ℕ → Read Decl
enum_at s at p =
    on_read (name_line s p (text "name=")) None λ id q.
    on_read (number_line s q (text "width=")) None λ width r.
    on_read (bit_line s r (text "open=")) None λ is_open t.
    on_read (bit_line s t (text "complete=")) None λ is_complete u. decl_is at id None (DeclDesc.Enum width is_open is_complete) u

unfoldable pub checksum_decl_at : Text → ℕ → ℕ → Read Decl
checksum_decl_at s at p =
    on_read (name_line s p (text "name=")) None λ id q.
    on_read (number_line s q (text "width=")) None λ width r. decl_is at id None (DeclDesc.Checksum width) r

unfoldable pub custom_at : Text → ℕ → ℕ → Read Decl
custom_at s at p =
    on_read (name_line s p (text "name=")) None λ id q.
    on_read (maybe_number_line s q (text "width=")) None λ width r. decl_is at id None (DeclDesc.CustomField width) r

-- the lines of a declaration that stand before its fields
unfoldable pub decl_at : Text → ℕ → Read Decl
decl_at s at =
    on_found (key_at s at (text "decl=packet\n"))
    (on_found (key_at s at (text "decl=struct\n"))
    (on_found (key_at s at (text "decl=enum\n"))
    (on_found (key_at s at (text "decl=checksum\n"))
    (on_found (key_at s at (text "decl=custom\n")) None λ p. custom_at s at p)
    λ p. checksum_decl_at s at p)
    λ p. enum_at s at p)
    λ p. struct_at s at p)
    λ p. packet_at s at p

-- a declaration with its fields
pub record Declaration : Type 0 where
  pub decl : Decl
  pub fields : List Field

pub data Fields : Type 0 where
  fields_are : List Field → ℕ → Fields
  no_fields : Fields

pub data Declarations : Type 0 where
  declarations_are : List Declaration → Declarations
  no_declarations : Declarations

pub data RecordRead : Type 0 where
  record_is : Head → List Declaration → RecordRead
  no_record : RecordRead

abbrev pub with_field : Field → Fields → Fields
with_field x (fields_are xs p) = fields_are (x ∷ xs) p
with_field x no_fields = no_fields

-- the fields from a place on; a field takes at least one byte, so the record's length is fuel enough
unfoldable pub fields_at : Text → ℕ → ℕ → Fields
fields_at s zero at = no_fields
fields_at s (suc fuel) at =
    on_found (key_at s at (text "field=")) (fields_are [] at) λ p. on_read (field_at s at) no_fields λ x q. with_field x (fields_at s fuel q)

-- only a packet and a struct have fields
unfoldable pub fields_behind : Text → DeclDesc → ℕ → Fields
fields_behind s (DeclDesc.Checksum width) at = fields_are [] at
fields_behind s (DeclDesc.CustomField width) at = fields_are [] at
fields_behind s (DeclDesc.Enum width is_open is_complete) at = fields_are [] at
fields_behind s (DeclDesc.Packet parent) at = fields_at s (length s) at
fields_behind s (DeclDesc.Struct parent) at = fields_at s (length s) at

abbrev pub on_fields {ℓ} : {A : Type ℓ} → Fields → A → (List Field → ℕ → A) → A
on_fields (fields_are xs p) bad f = f xs p
on_fields no_fields bad f = bad

abbrev pub with_declaration : Declaration → Declarations → Declarations
with_declaration d (declarations_are ds) = declarations_are (d ∷ ds)
with_declaration d no_declarations = no_declarations

-- at least one declaration, and so on to the record's end
unfoldable pub declarations_at : Text → ℕ → ℕ → Declarations
declarations_at s zero at = no_declarations
declarations_at s (suc fuel) at =
    on_read (decl_at s at) no_declarations λ d p.
    on_fields (fields_behind s d.desc p) no_declarations λ xs q.
    with_declaration (record { decl = d; fields = xs })
    (elim (nat_lt q (length s)) [ true ↦ declarations_at s fuel q | false ↦ declarations_are [] ])

abbrev pub with_head : Head → Declarations → RecordRead
with_head h (declarations_are ds) = record_is h ds
with_head h no_declarations = no_record

unfoldable pub read_record : Text → RecordRead
read_record s = on_read (head_at s 0) no_record λ h p. with_head h (declarations_at s (length s) p)
