-- Nested parsers, from the pieces that are put one after the other.
-- Assumes nothing.
use mathlib.Core.List.{[], ◌∷◌, ◌++◌, append_assoc}
use Prim.Native.Nat.{ℕ}
use Rattle.definitions.specs.Bytes.{Text, text, decimal}
use Rattle.definitions.specs.Lines.{Expr, Before, Line}
use Rattle.definitions.specs.Blocks.{named, bare, span, room_for, all_but, Block}
use Rattle.definitions.specs.declared.Arrays.{Arrays}
use Rattle.text.specs.Wrote.{Wrote}
use Rattle.text.specs.declared.Writer.{Writer}
use Rattle.text.proofs.Wrotes.{then, alike}
use Rattle.stream.specs.Stream.{block_text}
use Rattle.stream.proofs.Texts.{piece, ◌▸◌, lines-leads}
use Rattle.expressions.proofs.Follow.{follow}
use Rattle.nested_lines.specs.Texts.{span_text, parse_span_text}

pub nested-line : (type x : Text) {u u₁ u₂ : Writer} → Wrote u u₁ (text "if (!" ++ (type ++ text "::Parse(span, &"))
    → Wrote u₁ u₂ (x ++ text ")) return false;\n")
    → Wrote u u₂ (block_text (Block.nested type x))
unfolding block_text
nested-line type x a b = follow (piece (text "if (!") ▸ piece type ▸ piece (text "::Parse(span, &")) a b

module _ (id : Text) where
  pub span_lines : (n : ℕ) {u u₁ u₂ u₃ : Writer} → Wrote u u₁ (text "if (span.size() < " ++ (decimal n ++ text ") return false;\n"))
      → Wrote u₁ u₂ (text "pdl::packet::slice " ++ (id ++ text "_span = span.subrange(0, span.size() - "))
      → Wrote u₂ u₃ (decimal n ++ text ");\n")
      → Wrote u u₃ (span_text id n [])
  unfolding span_text
  span_lines n a b c = alike (simp append_assoc) (then a (then b c))

  module _ (m : Arrays) (type : Text) where
    pub parse-span-lines : {u u₁ u₂ u₃ u₄ : Writer} → Wrote u u₁ (text "if (!" ++ (type ++ text "::Parse("))
        → Wrote u₁ u₂ (id ++ text "_span, &")
        → Wrote u₂ u₃ (named m id (text "_") ++ text ")) return false;\nspan.skip(")
        → Wrote u₃ u₄ (id ++ text "_span.size());\n")
        → Wrote u u₄ (parse_span_text m id type)
    unfolding parse_span_text
    parse-span-lines a b c d = alike (simp append_assoc) (then a (then b (then c d)))

    pub nested-up-to : (n : ℕ) {u u₁ u₂ : Writer} → Wrote u u₁ (span_text id n []) → Wrote u₁ u₂ (parse_span_text m id type)
        → Wrote u u₂ (block_text (Block.nested_up_to id n type (named m id (text "_"))))
    unfolding block_text span_text parse_span_text
    nested-up-to n a b = follow (lines-leads 0 (room_for (Expr.lit n) ∷ Line.front Before.slice (bare id (text "_span")) span (all_but n) ∷ [])) a b
