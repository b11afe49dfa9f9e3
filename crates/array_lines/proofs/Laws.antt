-- The shared statements of arrays, from the pieces that are put one after the other.
-- Assumes nothing.
use mathlib.Core.List.{◌++◌}
use Rattle.definitions.specs.Bytes.{Text, text}
use Rattle.definitions.specs.Lines.{expr_text}
use Rattle.definitions.specs.declared.Arrays.{Arrays}
use Rattle.text.specs.Wrote.{Wrote}
use Rattle.text.specs.declared.Writer.{Writer}
use Rattle.stream.proofs.Texts.{piece, ◌▸◌, expr-leads}
use Rattle.expressions.specs.Amounts.{term_of, amount_of}
use Rattle.expressions.specs.Statements.{stmt_bytes}
use Rattle.expressions.specs.declared.Term.{Term}
use Rattle.expressions.specs.declared.Amount.{Amount}
use Rattle.expressions.proofs.Follow.{follow}
use Rattle.array_lines.specs.Statements.{ragged_test, ragged_or_zero_test, skip_stmt, divided_stmt}

module _ (m : Arrays) (id : Text) (s : Term) where
  pub ragged-test : (e : Term) {u u₁ : Writer}
      → Wrote u u₁ (text "if ((" ++ expr_text (amount_of m id (Amount.Remainder s e)) (text ") != 0) {\n    return false;\n}\n"))
      → Wrote u u₁ (stmt_bytes (ragged_test m id s e))
  unfolding stmt_bytes
  ragged-test e p = p

  pub ragged-or-zero : {u u₁ u₂ : Writer} → Wrote u u₁ (text "if (" ++ expr_text (term_of m id Term.ElementSize) (text " == 0 || ("))
      → Wrote u₁ u₂ (expr_text (amount_of m id (Amount.Remainder s Term.ElementSize)) (text ") != 0) {\n    return false;\n}\n"))
      → Wrote u u₂ (stmt_bytes (ragged_or_zero_test m id s))
  unfolding stmt_bytes
  ragged-or-zero a b = follow (piece (text "if (") ▸ expr-leads (term_of m id Term.ElementSize) ▸ piece (text " == 0 || (")) a b

module _ (m : Arrays) (id : Text) (e n : Term) where
  pub divided-test : {u u₁ u₂ u₃ : Writer} → Wrote u u₁ (text "if (" ++ expr_text (term_of m id e) (text " != 0 && "))
      → Wrote u₁ u₂ (expr_text (amount_of m id (Amount.Quotient Term.Rest e)) (text " < "))
      → Wrote u₂ u₃ (expr_text (term_of m id n) (text ") {\n    return false;\n}\n"))
      → Wrote u u₃ (stmt_bytes (divided_stmt m id e n))
  unfolding stmt_bytes
  divided-test a b c =
      follow (piece (text "if (") ▸ expr-leads (term_of m id e) ▸ piece (text " != 0 && ")) a
      (follow (expr-leads (amount_of m id (Amount.Quotient Term.Rest e)) ▸ piece (text " < ")) b c)

pub skipped : (m : Arrays) (id : Text) (a : Amount) {u u₁ : Writer} → Wrote u u₁ (text "span.skip(" ++ expr_text (amount_of m id a) (text ");\n"))
    → Wrote u u₁ (stmt_bytes (skip_stmt m id a))
unfolding stmt_bytes
skipped m id a p = p
