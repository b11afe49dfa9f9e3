-- The rule of the PDL language reference for bit fields: they are packed from the least significant bit on, up to the next octet boundary, and the
-- octets so filled stand in the file's order. Written from the language: it knows no line, no shift and no mask of the generator. Behind it,
-- document 01's checked runs: which groups stand behind one size check.
-- Assumes nothing.
use Rattle.std.specs.Prelude.{true, false, List, [], ◌∷◌, ◌++◌, reverse, ℕ, zero, suc, ◌+◌, ◌*◌, ◌/◌, ◌%◌, ◌^◌, ◌<◌, eqb, get_or, Option, Some, None}
use Rattle.definitions.specs.Sizes.{enum_of}
use Rattle.definitions.specs.FieldParser.{Setting, is_bit}
use Rattle.definitions.specs.declared.EnumKind.{EnumKind}
use Rattle.definitions.specs.declared.EndiannessValue.{EndiannessValue}
use Rattle.definitions.specs.declared.FieldDesc.{FieldDesc}
use Rattle.definitions.specs.declared.Field.{Field}

-- ---- the value of a field

-- a little endian file has the lowest octet first, a big endian file last
abbrev pub lowest_first : EndiannessValue → List ℕ → List ℕ
lowest_first EndiannessValue.LittleEndian os = os
lowest_first EndiannessValue.BigEndian os = reverse os

-- bit j of octets whose lowest stands first: bit j % 8 of octet j / 8
abbrev pub octet_bit : List ℕ → ℕ → ℕ
octet_bit os j = get_or os (j / 8) 0 / 2 ^ (j % 8) % 2

-- the number that so many bits from bit s on make, the least significant first
abbrev pub bits_at : List ℕ → ℕ → ℕ → ℕ
bits_at os s zero = 0
bits_at os s (suc w) = octet_bit os s + 2 * bits_at os (suc s) w

-- the value of a field in a group whose octets are `os`, as they stand in the frame: `before` are the bits of the group's fields before it
abbrev pub field_value : EndiannessValue → List ℕ → ℕ → ℕ → ℕ
field_value order os before width = bits_at (lowest_first order os) before width

-- bytes
abbrev pub Octets : List ℕ → Type 0
Octets [] = Unit {0}
Octets (b ∷ bs) = (b < 256) × Octets bs

-- ---- the groups: bit fields gather up to the next octet boundary

-- the width that an enum is declared with
abbrev pub enum_width : Option EnumKind → ℕ
enum_width (Some kind) = kind.width
enum_width None = 0

-- "widths are the record's, a flag 1, an enum as declared"; only bit fields have one
abbrev pub declared_width : Setting → FieldDesc → ℕ
declared_width c (FieldDesc.Checksum of) = 0
declared_width c (FieldDesc.Padding size) = 0
declared_width c (FieldDesc.Size of width) = width
declared_width c (FieldDesc.Count of width) = width
declared_width c (FieldDesc.ElementSize of width) = width
declared_width c FieldDesc.Body = 0
declared_width c (FieldDesc.Payload modifier) = 0
declared_width c (FieldDesc.FixedScalar width value) = width
declared_width c (FieldDesc.FixedEnum type tag) = enum_width (enum_of c.source c.scope type)
declared_width c (FieldDesc.Reserved width) = width
declared_width c (FieldDesc.Array id width type modifier size) = 0
declared_width c (FieldDesc.Scalar id width) = width
declared_width c (FieldDesc.Flag id) = 1
declared_width c (FieldDesc.Typedef id type) = enum_width (enum_of c.source c.scope type)

-- of a field
abbrev pub width_of : Setting → Field → ℕ
width_of c f = declared_width c f.desc

-- the bits of a group
abbrev pub bits_in : Setting → List Field → ℕ
bits_in c [] = 0
bits_in c (f ∷ g) = width_of c f + bits_in c g

-- ---- the checked runs: the groups that stand behind one size check (document 01, 'Lowering')

-- groups that are closed are a run, ahead of the later ones; where none is closed there is no run
abbrev pub end_run : {A : Type 0} → List A → List (List A) → List (List A)
end_run [] later = later
end_run (g ∷ closed) later = (g ∷ closed) ∷ later

-- the runs of fields, each the list of its groups, where some fields are gathered and some groups are closed already: "Its chunks are those that the
-- target's fields closed since the flush before, or since the start". "Before other fields and at the end, pending lines are flushed behind one size
-- check": there a run ends. A field of another kind leaves the gathered ones as they are: "the chunk goes on" (where groups are closed too, 10 refuses
-- it). What is gathered at the end is no group
unfoldable pub gather : Setting → List Field → List (List Field) → List Field → List (List (List Field))
gather c gathered closed [] = end_run closed []
gather c gathered closed (f ∷ later) = elim (is_bit c f) [
  | true ↦ elim (eqb (bits_in c (gathered ++ (f ∷ [])) % 8) 0) [
    | true ↦ gather c [] (closed ++ ((gathered ++ (f ∷ [])) ∷ [])) later
    | false ↦ gather c (gathered ++ (f ∷ [])) closed later
  ]
  | false ↦ end_run closed (gather c gathered [] later)
]

-- of a target
abbrev pub runs : Setting → List (List (List Field))
runs c = gather c [] [] c.fields
