-- `parse_array_field` of the definitions with its names as parts of the record: `arrays-agree` (proofs/Agree) says that it is the same block.
-- Assumes nothing.
use Rattle.std.specs.Prelude.{Option, Some, None, List, ◌/◌}
use Prim.Native.Nat.{ℕ}
use Rattle.definitions.specs.declared.Part.{Part}
use Rattle.definitions.specs.Bytes.{Text, pick}
use Rattle.definitions.specs.Sizes.{Row, enum_of, element_size, array_size}
use Rattle.definitions.specs.declared.EnumKind.{EnumKind}
use Rattle.definitions.specs.declared.EndiannessValue.{EndiannessValue}
use Rattle.definitions.specs.declared.Field.{Field}
use Rattle.elements.specs.declared.Element.{Element}
use Rattle.emits.specs.declared.BlockAt.{BlockAt}
use Rattle.array_fields.specs.declared.ArrayField.{ArrayField}

-- `typed_elem`
abbrev pub typed_element : EndiannessValue → Option EnumKind → Element
typed_element order (Some kind) = pick kind.is_open (Element.OpenEnum order kind.width) (Element.ClosedEnum order kind.width)
typed_element order None = Element.Parsed

-- `elem_of`
abbrev pub element_at : Text → List Row → EndiannessValue → Option ℕ → Option Part → Element
element_at s rows order (Some width) type = Element.Scalar order width
element_at s rows order None (Some type) = typed_element order (enum_of s rows type)
element_at s rows order None None = Element.Parsed

-- a padded size is in bits, the padding of a block in bytes
abbrev pub bytes_of : Option ℕ → Option ℕ
bytes_of None = None
bytes_of (Some bits) = Some (bits / 8)

-- `padding` is its padded size
unfoldable pub array_at : Text → List Row → List Field → Option ℕ → ArrayField → BlockAt
array_at s rows fs padding a =
    BlockAt.Array (bytes_of padding) a.id a.type_id (element_at s rows a.endianness a.width a.type_id) a.size_modifier
    (element_size s rows fs a.id a.width a.type_id) (array_size s fs a.id a.size)
