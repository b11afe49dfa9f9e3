-- Payloads, from the pieces that are put one after the other.
-- Assumes nothing.
use mathlib.Core.List.{◌++◌, append_assoc}
use mathlib.Core.Path.{◌≡◌}
use Prim.Native.Nat.{ℕ}
use Rattle.definitions.specs.Bytes.{Text, text, decimal}
use Rattle.definitions.specs.Lines.{expr_text}
use Rattle.definitions.specs.Blocks.{actual_size, Block}
use Rattle.definitions.specs.declared.Modifier.{Modifier}
use Rattle.text.specs.Wrote.{Wrote}
use Rattle.text.specs.declared.Writer.{Writer}
use Rattle.text.proofs.Wrotes.{then, alike}
use Rattle.stream.specs.Stream.{block_text}
use Rattle.stream.proofs.Texts.{piece, ◌▸◌, expr-leads}
use Rattle.expressions.proofs.Follow.{follow}
use Rattle.payload_lines.specs.Texts.{changed_size}

pub changed-size : (before x sign : Text) (n : ℕ) (behind : Text) {u u₁ u₂ u₃ u₄ : Writer} → Wrote u u₁ before
    → Wrote u₁ u₂ (text "(" ++ (x ++ sign))
    → Wrote u₂ u₃ (decimal n ++ text ")")
    → Wrote u₃ u₄ behind
    → Wrote u u₄ (changed_size before x sign n behind)
unfolding changed_size
changed-size before x sign n behind a b c d = alike (simp append_assoc) (then a (then b (then c d)))

module _ (before behind x : Text) (m : Modifier) {u u₁ : Writer} where
  pub size-as-is : m ≡ Modifier.None → Wrote u u₁ (before ++ (x ++ behind)) → Wrote u u₁ (before ++ expr_text (actual_size m x) behind)
  size-as-is e p = rw e p

  pub size_less : (n : ℕ) → m ≡ Modifier.Plus n → Wrote u u₁ (changed_size before x (text " - ") n behind)
      → Wrote u u₁ (before ++ expr_text (actual_size m x) behind)
  unfolding changed_size
  size_less n e p = rw e p

  pub size-more : (n : ℕ) → m ≡ Modifier.Minus n → Wrote u u₁ (changed_size before x (text " + ") n behind)
      → Wrote u u₁ (before ++ expr_text (actual_size m x) behind)
  unfolding changed_size
  size-more n e p = rw e p

module _ (x s : Text) (m : Modifier) where
  pub sized-payload : {u u₁ u₂ u₃ u₄ : Writer}
      → Wrote u u₁ (text "if (span.size() < " ++ expr_text (actual_size m s) (text ") return false;\n"))
      → Wrote u₁ u₂ x
      → Wrote u₂ u₃ (text " = span.subrange(0, " ++ expr_text (actual_size m s) (text ");\n"))
      → Wrote u₃ u₄ (text "span.skip(" ++ expr_text (actual_size m s) (text ");\n"))
      → Wrote u u₄ (block_text (Block.sized_payload x s m))
  unfolding block_text
  sized-payload a b c d =
      follow (piece (text "if (span.size() < ") ▸ expr-leads (actual_size m s) ▸ piece (text ") return false;\n")) a
      (then b (follow (piece (text " = span.subrange(0, ") ▸ expr-leads (actual_size m s) ▸ piece (text ");\n")) c d))

module _ (x : Text) where
  pub payload-up-to : (n : ℕ) {u u₁ u₂ u₃ u₄ : Writer} → Wrote u u₁ (text "if (span.size() < " ++ (decimal n ++ text ") return false;\n"))
      → Wrote u₁ u₂ x
      → Wrote u₂ u₃ (text " = span.subrange(0, span.size() - " ++ (decimal n ++ text ");\n"))
      → Wrote u₃ u₄ (text "span.skip(span.size() - " ++ (decimal n ++ text ");\n"))
      → Wrote u u₄ (block_text (Block.payload_up_to x n))
  unfolding block_text
  payload-up-to n a b c d = alike (simp append_assoc) (then a (then b (then c d)))

  pub payload-to-end : {u u₁ : Writer} → Wrote u u₁ (x ++ text " = span;\nspan.clear();\n") → Wrote u u₁ (block_text (Block.payload_to_end x))
  unfolding block_text
  payload-to-end p = p
