-- `kind_of` of the definitions with its names as parts of the record, by the `if` names of the fields: `kinds-agree` (proofs/Agree) says that it is
-- the same kind.
-- Assumes nothing.
use Rattle.std.specs.Prelude.{◌||◌, List, Option, Some, None}
use Rattle.definitions.specs.Bytes.{Text, pick}
use Rattle.definitions.specs.Sizes.{Row, enum_of}
use Rattle.definitions.specs.declared.EnumKind.{EnumKind}
use Rattle.definitions.specs.declared.Part.{Part}
use Rattle.definitions.specs.declared.FieldDesc.{FieldDesc}
use Rattle.names.specs.Written.{field_name}
use Rattle.names.specs.declared.WrittenName.{WrittenName}
use Rattle.bit_fields.specs.declared.KindAt.{KindAt}
use Rattle.bit_fields.specs.declared.End.{End}
use Rattle.conditions.specs.IfNames.{is_cond_in}

-- `{prefix}{id}_`
abbrev pub member_kind : Part → KindAt
member_kind id = KindAt.Number (WrittenName.Part id) End.Member

unfoldable pub scalar_kind : Text → List Part → Part → KindAt
scalar_kind s names id = pick (is_cond_in s names id) (KindAt.Condition id) (member_kind id)

unfoldable pub enum_kind : Part → Part → Option EnumKind → KindAt
enum_kind id type (Some kind) = pick (kind.is_open || kind.is_complete) (KindAt.OpenEnum id type) (KindAt.ClosedEnum id type)
enum_kind id type None = member_kind id

unfoldable pub kind_at : Text → List Row → List Part → FieldDesc → KindAt
kind_at s rows names (FieldDesc.Checksum of) = KindAt.Reserved
kind_at s rows names (FieldDesc.Padding size) = KindAt.Reserved
kind_at s rows names (FieldDesc.Size of width) = KindAt.Number (field_name s of) End.Size
kind_at s rows names (FieldDesc.Count of width) = KindAt.Number (WrittenName.Part of) End.Count
kind_at s rows names (FieldDesc.ElementSize of width) = KindAt.Number (field_name s of) End.ElementSize
kind_at s rows names FieldDesc.Body = KindAt.Reserved
kind_at s rows names (FieldDesc.Payload modifier) = KindAt.Reserved
kind_at s rows names (FieldDesc.FixedScalar width value) = KindAt.FixedScalar value
kind_at s rows names (FieldDesc.FixedEnum type tag) = KindAt.FixedEnum type tag
kind_at s rows names (FieldDesc.Reserved width) = KindAt.Reserved
kind_at s rows names (FieldDesc.Array id width type modifier size) = KindAt.Reserved
kind_at s rows names (FieldDesc.Scalar id width) = scalar_kind s names id
kind_at s rows names (FieldDesc.Flag id) = KindAt.Condition id
kind_at s rows names (FieldDesc.Typedef id type) = enum_kind id type (enum_of s rows type)
