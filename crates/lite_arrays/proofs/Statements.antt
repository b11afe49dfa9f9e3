-- The statements of lite mode, from the pieces that are put one after the other.
-- Assumes nothing.
use mathlib.Core.List.{◌++◌, append_assoc}
use mathlib.Core.Path.{◌≡◌, refl, ap}
use Rattle.definitions.specs.Bytes.{Text, text, decimal, digits_in}
use Rattle.definitions.specs.Lines.{Line, Stmt, expr_text}
use Rattle.definitions.specs.Blocks.{span, named}
use Rattle.definitions.specs.declared.Arrays.{Arrays}
use Rattle.text.specs.Wrote.{Wrote}
use Rattle.text.specs.declared.Writer.{Writer}
use Rattle.text.proofs.Wrotes.{then, alike}
use Rattle.stream.proofs.Texts.{piece, ◌▸◌, expr-leads}
use Rattle.expressions.specs.Amounts.{amount_of}
use Rattle.expressions.specs.Statements.{stmt_bytes, stmts_bytes}
use Rattle.expressions.specs.declared.Amount.{Amount}
use Rattle.expressions.proofs.Follow.{follow}
use Rattle.array_lines.specs.Statements.{skip_stmt}
use Rattle.lite_arrays.specs.Statements.{zero_test, cut_stmts, whole_stmts, eaten_stmt}

-- `0` of a test
zero-text : text "0" ≡ decimal 0
unfolding digits_in
zero-text = refl

module _ (id : Text) where
  pub zero_test_lem : {u u₁ : Writer}
      → Wrote u u₁ (text "if (" ++ (named Arrays.Lite id (text "_element_size_") ++ text " == 0) {\n    return false;\n}\n"))
      → Wrote u u₁ (stmt_bytes (zero_test id))
  unfolding stmt_bytes
  zero_test_lem p =
      alike
      (ap (λ (z : Text). text "if (" ++ (named Arrays.Lite id (text "_element_size_") ++ (text " == " ++ (z ++ text ") {\n    return false;\n}\n")))) zero-text)
      p

  module _ (a : Amount) where
    pub cut-lines : {u u₁ u₂ u₃ : Writer} → Wrote u u₁ (named Arrays.Lite id (text "_"))
        → Wrote u₁ u₂ (text " = span.subrange(0, " ++ expr_text (amount_of Arrays.Lite id a) (text ");\n"))
        → Wrote u₂ u₃ (stmt_bytes (skip_stmt Arrays.Lite id a))
        → Wrote u u₃ (stmts_bytes (cut_stmts id a))
    unfolding stmt_bytes stmts_bytes
    cut-lines p q t = then p (follow (piece (text " = span.subrange(0, ") ▸ expr-leads (amount_of Arrays.Lite id a) ▸ piece (text ");\n")) q t)

  pub whole-lines : {u u₁ : Writer} → Wrote u u₁ (named Arrays.Lite id (text "_") ++ text " = span;\nspan.clear();\n")
      → Wrote u u₁ (stmts_bytes (whole_stmts id))
  unfolding stmts_bytes
  whole-lines p = p

  pub eaten-line : {u u₁ u₂ : Writer} → Wrote u u₁ (id ++ (text "_ = " ++ id))
      → Wrote u₁ u₂ (text "_.subrange(0, " ++ (id ++ text "_.size() - span.size());\n"))
      → Wrote u u₂ (stmt_bytes (eaten_stmt id))
  unfolding stmt_bytes
  eaten-line p q = alike (simp append_assoc) (then p q)

  pub kept_line : {u u₁ : Writer} → Wrote u u₁ (named Arrays.Lite id (text "_") ++ text " = span;\n")
      → Wrote u u₁ (stmt_bytes (Stmt.one (Line.keep (named Arrays.Lite id (text "_")) span)))
  unfolding stmt_bytes
  kept_line p = p
