-- An array with its padding, from the pieces that are put one after the other.
-- Assumes nothing.
use mathlib.Core.List.{List, [], ◌∷◌, ◌++◌, append_assoc}
use mathlib.Core.Path.{◌≡◌, refl, sym, ap, ◌∙◌}
use Prim.Native.Nat.{ℕ}
use Rattle.definitions.specs.Bytes.{Text, text, decimal}
use Rattle.definitions.specs.Lines.{Expr, Line, Before, Stmt, line_text, stmt_text, stmts_text, render}
use Rattle.definitions.specs.Blocks.{span, start_name, field_lines, Block}
use Rattle.definitions.specs.declared.Options.{Options}
use Rattle.definitions.specs.declared.Modifier.{Modifier}
use Rattle.definitions.specs.declared.ElementSize.{ElementSize}
use Rattle.definitions.specs.declared.ArraySize.{ArraySize}
use Rattle.text.specs.Wrote.{Wrote}
use Rattle.text.specs.declared.Writer.{Writer}
use Rattle.text.proofs.Wrotes.{then, alike}
use Rattle.stream.specs.Stream.{block_text}
use Rattle.stream.proofs.Texts.{line-leads, stmts-leads}
use Rattle.stream.proofs.Pieces.{field-split, padding}
use Rattle.expressions.proofs.Follow.{follow}
use Rattle.elements.specs.declared.Element.{Element}
use Rattle.arrays.specs.Shapes.{array_of, array_text}
use Rattle.padding_lines.specs.Texts.{missing_text, padding_text}

pub missing-text : (before id : Text) (n : ℕ) (behind : Text) {u u₁ u₂ : Writer} → Wrote u u₁ (before ++ (decimal n ++ text " - ("))
    → Wrote u₁ u₂ (id ++ (text "_start_size - span.size())" ++ behind))
    → Wrote u u₂ (missing_text before id n behind)
unfolding missing_text
missing-text before id n behind a b = alike (simp append_assoc) (then a b)

pub padding-lines : (id : Text) (n : ℕ) {u u₁ u₂ u₃ u₄ : Writer} → Wrote u u₁ (text "if (" ++ (id ++ text "_start_size - span.size() < "))
    → Wrote u₁ u₂ (decimal n ++ text ") {\n")
    → Wrote u₂ u₃ (missing_text (text "    if (span.size() < ") id n (text ") return false;\n"))
    → Wrote u₃ u₄ (missing_text (text "    span.skip(") id n (text ");\n}\n"))
    → Wrote u u₄ (padding_text id n)
unfolding missing_text padding_text
padding-lines id n a b c d = alike (simp append_assoc) (then a (then b (then c d)))

stmts-one : (xs : List Stmt) (s : Stmt) → stmts_text xs (stmt_text s []) ≡ render (xs ++ (s ∷ []))
stmts-one [] s = refl
stmts-one (x ∷ xs) s = ap (stmt_text x) (stmts-one xs s)

start-line : (id : Text) {u u₁ : Writer} → Wrote u u₁ (text "size_t " ++ (id ++ text "_start_size = span.size();\n"))
    → Wrote u u₁ (line_text 0 (Line.set_to Before.size_t (start_name id) (Expr.size span)) [])
start-line id p = alike (simp append_assoc) p

pub padded-array : (w : ℕ) (k : Modifier) (o : Options) (id type : Text) (element : Element) (e : ElementSize) (n : ArraySize)
    {u u₁ u₂ u₃ : Writer}
    → Wrote u u₁ (text "size_t " ++ (id ++ text "_start_size = span.size();\n"))
    → Wrote u₁ u₂ (array_text o id type element k e n)
    → Wrote u₂ u₃ (padding_text id w)
    → Wrote u u₃ (block_text (Block.padded_array w k 64 (array_of o id type element e n)))
unfolding block_text array_text padding_text
padded-array w k o id type element e n a b c =
    let xs : List Stmt = field_lines k 64 (array_of o id type element e n) [] in
    follow (line-leads 0 (Line.set_to Before.size_t (start_name id) (Expr.size span))) (start-line id a)
    (alike (stmts-one xs (padding (start_name id) w) ∙ ap render (sym (field-split k 64 (array_of o id type element e n) (padding (start_name id) w ∷ []))))
    (follow (stmts-leads xs) b c))
