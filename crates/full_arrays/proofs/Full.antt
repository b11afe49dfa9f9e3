-- `parse_array_field_full`: each shape from the statements that are put one after the other.
-- Assumes nothing.
use mathlib.Core.List.{List, [], ◌∷◌, ◌++◌}
use mathlib.Core.Path.{◌≡◌, refl}
use Rattle.definitions.specs.Bytes.{Text, text}
use Rattle.definitions.specs.Lines.{Stmt, Line, stmts_text}
use Rattle.definitions.specs.Blocks.{span}
use Rattle.definitions.specs.declared.Arrays.{Arrays}
use Rattle.definitions.specs.declared.Products.{Products}
use Rattle.definitions.specs.declared.ElementSize.{ElementSize}
use Rattle.definitions.specs.declared.ArraySize.{ArraySize}
use Rattle.text.specs.Wrote.{Wrote}
use Rattle.text.specs.declared.Writer.{Writer}
use Rattle.text.proofs.Wrotes.{alike}
use Rattle.expressions.specs.Statements.{stmt_bytes, stmts_bytes}
use Rattle.expressions.specs.declared.Term.{Term}
use Rattle.expressions.specs.declared.Amount.{Amount}
use Rattle.expressions.proofs.Follow.{first, follow}
use Rattle.stream.proofs.Texts.{stmts-leads}
use Rattle.elements.specs.declared.Element.{Element}
use Rattle.array_lines.specs.Statements.{check_stmt, skip_stmt}
use Rattle.full_arrays.specs.Statements.{counted_parts}
use Rattle.full_arrays.specs.Shapes.{full_text}

-- statements and one more
then_one : (xs : List Stmt) (s : Stmt) {u u₁ u₂ : Writer} → Wrote u u₁ (stmts_bytes xs) → Wrote u₁ u₂ (stmt_bytes s)
    → Wrote u u₂ (stmts_text xs (stmt_bytes s))
unfolding stmts_bytes
then_one xs s p t = follow (stmts-leads xs) p t

-- statements of parts, and one more behind them
module _ (o : Products) (id type : Text) (element : Element) where
  pub full-dynamic-sized : {u u₁ u₂ u₃ : Writer} → Wrote u u₁ (stmt_bytes (check_stmt Arrays.Full id (Amount.Of Term.Size)))
      → Wrote u₁ u₂ (stmts_bytes (counted_parts id type Term.Size))
      → Wrote u₂ u₃ (stmt_bytes (skip_stmt Arrays.Full id (Amount.Of Term.Size)))
      → Wrote u u₃ (full_text o id type element ElementSize.Dynamic ArraySize.DynamicSize)
  unfolding full_text stmt_bytes stmts_bytes
  full-dynamic-sized p q t =
      first (check_stmt Arrays.Full id (Amount.Of Term.Size)) (counted_parts id type Term.Size ++ (skip_stmt Arrays.Full id (Amount.Of Term.Size) ∷ [])) p
      (then_one (counted_parts id type Term.Size) (skip_stmt Arrays.Full id (Amount.Of Term.Size)) q t)

  pub full-dynamic-rest : {u u₁ u₂ : Writer} → Wrote u u₁ (stmts_bytes (counted_parts id type Term.Rest))
      → Wrote u₁ u₂ (text "span.clear();\n")
      → Wrote u u₂ (full_text o id type element ElementSize.Dynamic ArraySize.Unknown)
  unfolding full_text stmt_bytes stmts_bytes
  full-dynamic-rest p q = then_one (counted_parts id type Term.Rest) (Stmt.one (Line.clear span)) p q

-- elements of Unknown size: no product is checked
unknown-text : (o : Products) (id type : Text) (element : Element) (n : ArraySize)
    → full_text Products.Plain id type element ElementSize.Unknown n ≡ full_text o id type element ElementSize.Unknown n
unfolding full_text
unknown-text o id type element (ArraySize.StaticCount k) = refl
unknown-text o id type element ArraySize.DynamicCount = refl
unknown-text o id type element ArraySize.DynamicSize = refl
unknown-text o id type element ArraySize.Unknown = refl

pub by-unknown : (o : Products) (id type : Text) (element : Element) (e : ElementSize) (n : ArraySize) {u u₁ : Writer} → e ≡ ElementSize.Unknown
    → Wrote u u₁ (full_text Products.Plain id type element ElementSize.Unknown n)
    → Wrote u u₁ (full_text o id type element e n)
by-unknown o id type element e n h p = rw h (alike (unknown-text o id type element n) p)
