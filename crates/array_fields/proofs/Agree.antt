-- The block with its names as parts of the record is the definitions' block.
-- Assumes nothing.
use Rattle.std.specs.Prelude.{Option, Some, None}
use Prim.Native.Nat.{ℕ}
use mathlib.Core.Bool.{Bool, true, false}
use mathlib.Core.Path.{◌≡◌, refl}
use Rattle.definitions.specs.Bytes.{Text, pick, part}
use Rattle.definitions.specs.Sizes.{enum_of}
use Rattle.definitions.specs.Blocks.{Block, Elem}
use Rattle.definitions.specs.FieldParser.{Setting, appends, typed_elem, elem_of, size_backing, parse_array_field}
use Rattle.definitions.specs.declared.EnumKind.{EnumKind}
use Rattle.definitions.specs.declared.EndiannessValue.{EndiannessValue}
use Rattle.definitions.specs.declared.Modifier.{Modifier}
use Rattle.definitions.specs.declared.Part.{Part}
use Rattle.elements.specs.declared.Element.{Element}
use Rattle.elements.specs.Elements.{element_of}
use Rattle.emits.specs.BlockOf.{type_text, block_of}
use Rattle.array_fields.specs.declared.ArrayField.{ArrayField}
use Rattle.array_fields.specs.Arrays.{typed_element, element_at, array_at}

typed-agree : (order : EndiannessValue) (type : Text) (e : Option EnumKind) → element_of type (typed_element order e) ≡ typed_elem order type e
typed-agree order type (Some kind) = by kind.is_open
  where
    by : (b : Bool) → element_of type (pick b (Element.OpenEnum order kind.width) (Element.ClosedEnum order kind.width))
        ≡ pick b (Elem.open_enum type order kind.width) (Elem.closed_enum type order kind.width)
    by true = refl
    by false = refl
typed-agree order type None = refl

element-agree : (c : Setting) (width : Option ℕ) (type : Option Part)
    → element_of (type_text c.source type) (element_at c.source c.scope c.options.endianness width type) ≡ elem_of c width type
element-agree c (Some width) type = refl
element-agree c None (Some type) = typed-agree c.options.endianness (part c.source type) (enum_of c.source c.scope type)
element-agree c None None = refl

module _ (c : Setting) (word : Text) (id : Part) (width : Option ℕ) (modifier : Modifier) (size : Option ℕ) where
  abbrev field : Option Part → ArrayField
  field type = record { id = id; width = width; type_id = type; size_modifier = modifier; size = size; endianness = c.options.endianness }

  abbrev block : Option ℕ → Option Part → Block
  block padding type =
      block_of c.source word c.options (λ id. size_backing c.source id c.fields)
      (array_at c.source c.scope c.fields padding (field type))

  pub arrays-agree : (padding : Option ℕ) (type : Option Part) → appends (block padding type) ≡ parse_array_field c padding id width type modifier size
  unfolding array_at parse_array_field block_of
  arrays-agree None None = rw (element-agree c width None)
  arrays-agree None (Some type) = rw (element-agree c width (Some type))
  arrays-agree (Some bits) None = rw (element-agree c width None)
  arrays-agree (Some bits) (Some type) = rw (element-agree c width (Some type))
