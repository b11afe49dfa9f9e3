-- The text of a shape of full mode by the definitions, at names that are bytes.
-- Assumes nothing.
use Rattle.std.specs.Prelude.{[]}
use Rattle.definitions.specs.Bytes.{Text}
use Rattle.definitions.specs.Blocks.{parse_array_field_full}
use Rattle.definitions.specs.declared.Products.{Products}
use Rattle.definitions.specs.declared.ElementSize.{ElementSize}
use Rattle.definitions.specs.declared.ArraySize.{ArraySize}
use Rattle.expressions.specs.Statements.{stmts_bytes}
use Rattle.elements.specs.Elements.{element_of}
use Rattle.elements.specs.declared.Element.{Element}

unfoldable pub full_text : Products → Text → Text → Element → ElementSize → ArraySize → Text
full_text o id type element e n = stmts_bytes (parse_array_field_full o id type (element_of type element) [] e n)
