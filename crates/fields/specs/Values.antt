-- `parse_other`, `parse_optional_field` and `parse_unchecked` of the definitions on an octet boundary, with their names as parts of the record:
-- `others-agree`, `optionals-agree` and `unchecked-agree` (proofs/Agree) say that they come to the same.
-- Assumes nothing.
use Rattle.std.specs.Prelude.{List, ℕ, Option, Some, None}
use Rattle.definitions.specs.Bytes.{Text, pick}
use Rattle.definitions.specs.Sizes.{Row, Annotated, enum_of, has_payload_size}
use Rattle.definitions.specs.FieldParser.{get_trailing_size}
use Rattle.definitions.specs.declared.EnumKind.{EnumKind}
use Rattle.definitions.specs.declared.EndiannessValue.{EndiannessValue}
use Rattle.definitions.specs.declared.Field.{Field}
use Rattle.definitions.specs.declared.FieldDesc.{FieldDesc}
use Rattle.definitions.specs.declared.Modifier.{Modifier}
use Rattle.definitions.specs.declared.Options.{Options}
use Rattle.definitions.specs.declared.Trailing.{Trailing}
use Rattle.definitions.specs.declared.Part.{Part}
use Rattle.definitions.specs.declared.Refusal.{Refusal}
use Rattle.emits.specs.declared.BlockAt.{BlockAt}
use Rattle.emits.specs.declared.EmitAt.{EmitAt}
use Rattle.trailing.specs.Values.{typedef_at, payload_at}
use Rattle.array_fields.specs.Arrays.{array_at}
use Rattle.fields.specs.declared.Other.{Other}

-- ---- an optional field

abbrev pub optional_type : Part → ℕ → Part → Part → Option EnumKind → EmitAt
optional_type cond value id type (Some kind) =
    EmitAt.Appends (pick kind.is_open (BlockAt.OptionalOpen cond value kind.width id type) (BlockAt.OptionalClosed cond value kind.width id type))
optional_type cond value id type None = EmitAt.Appends (BlockAt.OptionalNested cond value id type)

-- 13
abbrev pub unsupported : EmitAt
unsupported = EmitAt.Refuses Refusal.UnsupportedOptional

abbrev pub optional_at : Text → List Row → Part → ℕ → FieldDesc → EmitAt
optional_at s rows cond value (FieldDesc.Checksum of) = unsupported
optional_at s rows cond value (FieldDesc.Padding size) = unsupported
optional_at s rows cond value (FieldDesc.Size of width) = unsupported
optional_at s rows cond value (FieldDesc.Count of width) = unsupported
optional_at s rows cond value (FieldDesc.ElementSize of width) = unsupported
optional_at s rows cond value FieldDesc.Body = unsupported
optional_at s rows cond value (FieldDesc.Payload modifier) = unsupported
optional_at s rows cond value (FieldDesc.FixedScalar width fixed) = unsupported
optional_at s rows cond value (FieldDesc.FixedEnum type tag) = unsupported
optional_at s rows cond value (FieldDesc.Reserved width) = unsupported
optional_at s rows cond value (FieldDesc.Array id width type modifier size) = unsupported
optional_at s rows cond value (FieldDesc.Scalar id width) = EmitAt.Appends (BlockAt.OptionalScalar cond value width id)
optional_at s rows cond value (FieldDesc.Flag id) = unsupported
optional_at s rows cond value (FieldDesc.Typedef id type) = optional_type cond value id type (enum_of s rows type)

-- ---- the arms for a field without a condition

abbrev pub other_of : EndiannessValue → FieldDesc → Other
other_of order (FieldDesc.Checksum of) = Other.Silent
other_of order (FieldDesc.Padding size) = Other.Silent
other_of order (FieldDesc.Size of width) = Other.Silent
other_of order (FieldDesc.Count of width) = Other.Silent
other_of order (FieldDesc.ElementSize of width) = Other.Silent
other_of order FieldDesc.Body = Other.Payload Modifier.None
other_of order (FieldDesc.Payload modifier) = Other.Payload modifier
other_of order (FieldDesc.FixedScalar width value) = Other.Silent
other_of order (FieldDesc.FixedEnum type tag) = Other.Silent
other_of order (FieldDesc.Reserved width) = Other.Silent
other_of order (FieldDesc.Array id width type modifier size) =
    Other.Array (record { id = id; width = width; type_id = type; size_modifier = modifier; size = size; endianness = order })
other_of order (FieldDesc.Scalar id width) = Other.Silent
other_of order (FieldDesc.Flag id) = Other.Silent
other_of order (FieldDesc.Typedef id type) = Other.Typedef (record { id = id; type_id = type })

-- `here` is the field with its sizes, `later` are the fields behind it
abbrev pub other_at : Text → List Row → List Field → Trailing → Annotated → List Annotated → Other → EmitAt
other_at s rows fs m here later Other.Silent = EmitAt.Silent
other_at s rows fs m here later (Other.Payload modifier) = payload_at modifier (has_payload_size s fs) (get_trailing_size m later)
other_at s rows fs m here later (Other.Array array) = EmitAt.Appends (array_at s rows fs here.padded_size array)
other_at s rows fs m here later (Other.Typedef typedef) = typedef_at typedef.id typedef.type_id (get_trailing_size m later) here.field_size

-- ---- a field that is no bit field, by its condition

abbrev pub unchecked_at : Text → List Row → List Field → Options → Annotated → List Annotated → EmitAt
unchecked_at s rows fs o here later = elim here.field.cond [
  | None ↦ other_at s rows fs o.trailing here later (other_of o.endianness here.field.desc)
  | Some cond ↦ optional_at s rows cond.id cond.value here.field.desc
]
