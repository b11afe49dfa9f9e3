-- Optional fields, from the pieces that are put one after the other.
-- Assumes nothing.
use mathlib.Core.List.{[], ◌∷◌, ◌++◌}
use Prim.Native.Nat.{ℕ, ◌/◌}
use Rattle.definitions.specs.Bytes.{Text, text, decimal}
use Rattle.definitions.specs.Lines.{Expr, Test, Before, Line, src_text}
use Rattle.definitions.specs.Blocks.{span, raw, check_size, read_of, Block}
use Rattle.definitions.specs.declared.EndiannessValue.{EndiannessValue}
use Rattle.text.specs.Wrote.{Wrote}
use Rattle.text.specs.declared.Writer.{Writer}
use Rattle.text.proofs.Wrotes.{then}
use Rattle.stream.specs.Stream.{block_text}
use Rattle.stream.proofs.Texts.{Leads, piece, ◌▸◌, line-leads, lines-leads}
use Rattle.expressions.proofs.Follow.{follow}
use Rattle.optional_lines.specs.Texts.{when_text, room_text, raw_text}

module _ (c : Text) (v : ℕ) where
  pub when-line : {u u₁ u₂ : Writer} → Wrote u u₁ (text "if (" ++ (c ++ text " == ")) → Wrote u₁ u₂ (decimal v ++ text ") {\n")
      → Wrote u u₂ (when_text c v [])
  unfolding when_text
  when-line a b = follow (piece (text "if (") ▸ piece c ▸ piece (text " == ")) a b

  when-leads : Leads (when_text c v)
  unfolding when_text
  when-leads = piece (text "if (") ▸ piece c ▸ piece (text " == ") ▸ piece (decimal v) ▸ piece (text ") {\n")

  module _ (w : ℕ) where
    pub room-lines : {u u₁ u₂ : Writer} → Wrote u u₁ (when_text c v [])
        → Wrote u₁ u₂ (text "    if (span.size() < " ++ (decimal (w / 8) ++ text ") {\n        return false;\n    }\n"))
        → Wrote u u₂ (room_text c v w [])
    unfolding room_text
    room-lines a b = follow when-leads a b

    room-leads : Leads (room_text c v w)
    unfolding room_text
    room-leads = when-leads ▸ lines-leads 4 (check_size (Expr.lit (w / 8)) ∷ [])

    module _ (order : EndiannessValue) (x : Text) where
      pub optional-scalar : {u u₁ u₂ u₃ : Writer} → Wrote u u₁ (room_text c v w []) → Wrote u₁ u₂ (text "    " ++ (x ++ text " = "))
          → Wrote u₂ u₃ (src_text (read_of span order w) (text ";\n}\n"))
          → Wrote u u₃ (block_text (Block.optional_scalar c v order w x))
      unfolding block_text room_text when_text
      optional-scalar a b d = follow room-leads a (follow (piece (text "    ") ▸ piece x ▸ piece (text " = ")) b d)

      module _ (type : Text) where
        pub optional-open : {u u₁ u₂ u₃ u₄ : Writer} → Wrote u u₁ (room_text c v w []) → Wrote u₁ u₂ (text "    " ++ (x ++ text " = "))
            → Wrote u₂ u₃ type
            → Wrote u₃ u₄ (text "(" ++ src_text (read_of span order w) (text ");\n}\n"))
            → Wrote u u₄ (block_text (Block.optional_open c v order w x type))
        unfolding block_text room_text when_text
        optional-open a b d e = follow room-leads a (follow (piece (text "    ") ▸ piece x ▸ piece (text " = ")) b (then d e))

        pub optional-closed : {u u₁ u₂ u₃ : Writer} → Wrote u u₁ (raw_text c v order w type [])
            → Wrote u₁ u₂ (text "    " ++ (x ++ text " = "))
            → Wrote u₂ u₃ (type ++ text "(raw_value);\n}\n")
            → Wrote u u₃ (block_text (Block.optional_closed c v order w x type))
        unfolding block_text raw_text room_text when_text
        optional-closed a b d =
            follow
            (room-leads ▸ lines-leads 4 (Line.set Before.auto raw (read_of span order w) ∷ Line.check 3 (Test.not_valid type raw) ∷ []))
            a
            (follow (piece (text "    ") ▸ piece x ▸ piece (text " = ")) b d)

    pub raw-lines : (order : EndiannessValue) (type : Text) {u u₁ u₂ u₃ : Writer} → Wrote u u₁ (room_text c v w [])
        → Wrote u₁ u₂ (text "    auto raw_value = " ++ src_text (read_of span order w) (text ";\n"))
        → Wrote u₂ u₃ (text "    if (!IsValid" ++ (type ++ text "(raw_value)) {\n       return false;\n    }\n"))
        → Wrote u u₃ (raw_text c v order w type [])
    unfolding raw_text
    raw-lines order type a b d = follow room-leads a (follow (line-leads 4 (Line.set Before.auto raw (read_of span order w))) b d)

  pub optional-nested : (x type : Text) {u u₁ u₂ u₃ : Writer} → Wrote u u₁ (when_text c v [])
      → Wrote u₁ u₂ (text "    auto& opt_output = " ++ (x ++ text ".emplace();\n    if (!"))
      → Wrote u₂ u₃ (type ++ text "::Parse(span, &opt_output)) {\n        return false;\n    }\n}\n")
      → Wrote u u₃ (block_text (Block.optional_nested c v x type))
  unfolding block_text when_text
  optional-nested x type a b d =
      follow when-leads a (follow (piece (text "    auto& opt_output = ") ▸ piece x ▸ piece (text ".emplace();\n    if (!")) b d)
