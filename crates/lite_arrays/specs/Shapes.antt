-- The text of a shape of lite mode by the definitions, at names that are bytes; no element is read.
-- Assumes nothing.
use Rattle.std.specs.Prelude.{[]}
use Rattle.definitions.specs.Bytes.{Text}
use Rattle.definitions.specs.Blocks.{Elem, parse_array_field_lite}
use Rattle.definitions.specs.declared.Products.{Products}
use Rattle.definitions.specs.declared.ElementSize.{ElementSize}
use Rattle.definitions.specs.declared.ArraySize.{ArraySize}
use Rattle.expressions.specs.Statements.{stmts_bytes}

unfoldable pub lite_text : Products → Text → Text → ElementSize → ArraySize → Text
lite_text o id type e n = stmts_bytes (parse_array_field_lite o id type (Elem.parsed type) [] e n)
