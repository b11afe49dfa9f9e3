-- The statements of full mode, from the pieces that are put one after the other.
-- Assumes nothing.
use mathlib.Core.List.{◌++◌}
use Rattle.definitions.specs.Bytes.{Text, text}
use Rattle.definitions.specs.Lines.{expr_text}
use Rattle.definitions.specs.Blocks.{bare}
use Rattle.definitions.specs.declared.Arrays.{Arrays}
use Rattle.text.specs.Wrote.{Wrote}
use Rattle.text.specs.declared.Writer.{Writer}
use Rattle.stream.proofs.Texts.{piece, ◌▸◌}
use Rattle.expressions.specs.Amounts.{term_of, amount_of}
use Rattle.expressions.specs.Statements.{stmt_bytes}
use Rattle.expressions.specs.declared.Term.{Term}
use Rattle.expressions.specs.declared.Amount.{Amount}
use Rattle.expressions.proofs.Follow.{follow}
use Rattle.full_arrays.specs.Statements.{own_count_stmt, own_span_stmt}

module _ (id : Text) where
  pub own-count : (s e : Term) {u u₁ u₂ : Writer} → Wrote u u₁ (text "auto " ++ (bare id (text "_count_") ++ text " = "))
      → Wrote u₁ u₂ (expr_text (amount_of Arrays.Full id (Amount.Quotient s e)) (text ";\n"))
      → Wrote u u₂ (stmt_bytes (own_count_stmt id s e))
  unfolding stmt_bytes
  own-count s e p q = follow (piece (text "auto ") ▸ piece (bare id (text "_count_")) ▸ piece (text " = ")) p q

  pub own-span : {u u₁ u₂ : Writer} → Wrote u u₁ (text "auto " ++ (bare id (text "_span") ++ text " = span.subrange(0, "))
      → Wrote u₁ u₂ (expr_text (term_of Arrays.Full id Term.Size) (text ");\n"))
      → Wrote u u₂ (stmt_bytes (own_span_stmt id))
  unfolding stmt_bytes
  own-span p q = follow (piece (text "auto ") ▸ piece (bare id (text "_span")) ▸ piece (text " = span.subrange(0, ")) p q
