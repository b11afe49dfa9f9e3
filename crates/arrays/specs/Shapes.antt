-- The text of an array's lines with its size modifier by the definitions, at names that are bytes.
-- Assumes nothing.
use Rattle.std.specs.Prelude.{[], ◌++◌, ℕ}
use Rattle.definitions.specs.Bytes.{Text, text, decimal}
use Rattle.definitions.specs.Lines.{render}
use Rattle.definitions.specs.Blocks.{named, Array, modifier_lines, field_lines}
use Rattle.definitions.specs.declared.Arrays.{Arrays}
use Rattle.definitions.specs.declared.Options.{Options}
use Rattle.definitions.specs.declared.Modifier.{Modifier}
use Rattle.definitions.specs.declared.ElementSize.{ElementSize}
use Rattle.definitions.specs.declared.ArraySize.{ArraySize}
use Rattle.elements.specs.Elements.{element_of}
use Rattle.elements.specs.declared.Element.{Element}
pub use Rattle.array_lines.specs.Products.{product, ProductFits}

-- `x = x` and a modifier
abbrev pub modified_text : Text → Text → ℕ → Text
modified_text x sign n = x ++ (text " = " ++ (x ++ (sign ++ (decimal n ++ text ";\n"))))

-- the size modifier; how wide its variable is, is not written
unfoldable pub modifier_text : Arrays → Text → Modifier → Text
modifier_text m id modifier = render (modifier_lines modifier 64 (named m id (text "_size_")) [])

abbrev pub array_of : Options → Text → Text → Element → ElementSize → ArraySize → Array
array_of o id type element e n =
    record { mode = o.arrays; products = o.products; id = id; type = type; element_size = e; array_size = n; elem = element_of type element }

-- an array's lines with its modifier
unfoldable pub array_text : Options → Text → Text → Element → Modifier → ElementSize → ArraySize → Text
array_text o id type element modifier e n = render (field_lines modifier 64 (array_of o id type element e n) [])
