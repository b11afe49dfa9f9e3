-- The lines of elements and loops, from the pieces that are put one after the other.
-- Assumes nothing.
use Rattle.std.proofs.Common.{◌≡◌, ℕ, List, [], ◌++◌, refl, ap, append_assoc}
use Rattle.definitions.specs.Bytes.{Text, text}
use Rattle.definitions.specs.Lines.{Line, Before, Out, src_text, out_text, dest_end, line_text, lines_text, body_text, stmt_text}
use Rattle.definitions.specs.Blocks.{span, raw, element_span, named, bare, read_of, parse_lines, parse_array_element, Elem}
use Rattle.definitions.specs.declared.Arrays.{Arrays}
use Rattle.definitions.specs.declared.EndiannessValue.{EndiannessValue}
use Rattle.text.specs.Wrote.{Wrote}
use Rattle.text.specs.declared.Writer.{Writer}
use Rattle.text.proofs.Wrotes.{then, alike}
use Rattle.stream.proofs.Texts.{Leads, piece, ◌▸◌, expr-leads, src-leads, line-leads, lines-leads}
use Rattle.expressions.specs.Amounts.{amount_of}
use Rattle.expressions.specs.Statements.{stmt_bytes}
use Rattle.expressions.proofs.Follow.{follow}
use Rattle.elements.specs.Elements.{out_of, place_of, place_start, place_end, raw_value, loop_head, loop_of, in_part, element_span_line}
use Rattle.elements.specs.declared.Place.{Place}
use Rattle.elements.specs.declared.Loop.{Loop}
use Rattle.elements.specs.declared.Stored.{Stored}

-- ---- lines

pub parse-lines : (type s : Text) {u u₁ u₂ u₃ : Writer} → Wrote u u₁ (text "    " ++ (type ++ text " out;\n    if (!"))
    → Wrote u₁ u₂ (type ++ text "::Parse(")
    → Wrote u₂ u₃ (s ++ text ", &out)) {\n        return false;\n    }\n")
    → Wrote u u₃ (lines_text 4 (parse_lines type s) [])
parse-lines type s p q t = alike (simp append_assoc) (then p (then q t))

pub raw-lines : (type : Text) (order : EndiannessValue) (w : ℕ) {u u₁ u₂ : Writer}
    → Wrote u u₁ (text "    auto raw_value = " ++ src_text (read_of span order w) (text ";\n"))
    → Wrote u₁ u₂ (text "    if (!IsValid" ++ (type ++ text "(raw_value)) {\n        return false;\n    }\n"))
    → Wrote u u₂ (lines_text 4 (raw_value type order w) [])
raw-lines type order w a b = follow (line-leads 4 (Line.set Before.auto raw (read_of span order w))) a b

-- ---- places

start-leads : (id : Text) (p : Place) → Leads (place_start id p)
unfolding place_start
start-leads id Place.Slot = piece (text "    ") ▸ piece (named Arrays.Full id (text "_")) ▸ piece (text "[n] = ")
start-leads id Place.Push = piece (text "    ") ▸ piece (named Arrays.Full id (text "_")) ▸ piece (text ".push_back(")

place_end_lem : (id : Text) (p : Place) → place_end p ≡ dest_end (place_of id p) []
place_end_lem id Place.Slot = refl
place_end_lem id Place.Push = refl

module _ (id : Text) (p : Place) where
  -- any value at its place
  placed : (f : Text → Text) {u u₁ u₂ : Writer} → Wrote u u₁ (place_start id p []) → Wrote u₁ u₂ (f (place_end p))
      → Wrote u u₂ (place_start id p (f (dest_end (place_of id p) [])))
  placed f a b = follow (start-leads id p) a (alike (ap f (place_end_lem id p)) b)

  module _ (order : EndiannessValue) (w : ℕ) where
    pub scalar-line : {u u₁ u₂ u₃ : Writer} → Wrote u u₁ (place_start id p []) → Wrote u₁ u₂ (src_text (read_of span order w) [])
        → Wrote u₂ u₃ (place_end p)
        → Wrote u u₃ (lines_text 4 (parse_array_element span (Elem.scalar order w) (place_of id p) Out.out) [])
    unfolding place_start
    scalar-line a b c = placed (src_text (read_of span order w)) a (follow (src-leads (read_of span order w)) b c)

    module _ (type : Text) where
      pub open-line : {u u₁ u₂ u₃ u₄ : Writer} → Wrote u u₁ (place_start id p []) → Wrote u₁ u₂ type
          → Wrote u₂ u₃ (text "(" ++ src_text (read_of span order w) [])
          → Wrote u₃ u₄ (text ")" ++ place_end p)
          → Wrote u u₄ (lines_text 4 (parse_array_element span (Elem.open_enum type order w) (place_of id p) Out.out) [])
      unfolding place_start
      open-line a b c d =
          placed (λ t. type ++ (text "(" ++ src_text (read_of span order w) (text ")" ++ t))) a
          (then b (follow (piece (text "(") ▸ src-leads (read_of span order w)) c d))

      pub closed-lines : {u u₁ u₂ u₃ u₄ : Writer} → Wrote u u₁ (lines_text 4 (raw_value type order w) [])
          → Wrote u₁ u₂ (place_start id p [])
          → Wrote u₂ u₃ type
          → Wrote u₃ u₄ (text "(raw_value)" ++ place_end p)
          → Wrote u u₄ (lines_text 4 (parse_array_element span (Elem.closed_enum type order w) (place_of id p) Out.out) [])
      unfolding place_start
      closed-lines a b c d = follow (lines-leads 4 (raw_value type order w)) a (placed (λ t. type ++ (text "(raw_value)" ++ t)) b (then c d))

  module _ (type s : Text) {u u₁ u₂ u₃ : Writer} (a : Wrote u u₁ (lines_text 4 (parse_lines type s) []))
      (b : Wrote u₁ u₂ (place_start id p [])) where
    pub parsed-lines : (o : Stored) → Wrote u₂ u₃ (out_text (out_of o) (place_end p))
        → Wrote u u₃ (lines_text 4 (parse_array_element s (Elem.parsed type) (place_of id p) (out_of o)) [])
    unfolding place_start
    parsed-lines o c = follow (lines-leads 4 (parse_lines type s)) a (placed (out_text (out_of o)) b c)

-- ---- loops

loop-leads : (m : Arrays) (id : Text) (h : Loop) → Leads (loop_head m id h)
loop-leads m id (Loop.Times a) = piece (text "for (size_t n = 0; n < ") ▸ expr-leads (amount_of m id a) ▸ piece (text "; n++) {\n")
loop-leads m id Loop.WhileRest = piece (text "while (span.size() > 0) {\n")
loop-leads m id Loop.WhileOwn = piece (text "while (") ▸ piece (bare id (text "_span")) ▸ piece (text ".size() > 0) {\n")

loop-text : (m : Arrays) (id : Text) (h : Loop) (xs : List Line) → loop_head m id h (body_text xs []) ≡ stmt_text (loop_of m id h xs) []
loop-text m id (Loop.Times a) xs = refl
loop-text m id Loop.WhileRest xs = refl
loop-text m id Loop.WhileOwn xs = refl

pub looped : (m : Arrays) (id : Text) (h : Loop) (xs : List Line) {u u₁ u₂ u₃ : Writer} → Wrote u u₁ (loop_head m id h [])
    → Wrote u₁ u₂ (lines_text 4 xs [])
    → Wrote u₂ u₃ (text "}\n")
    → Wrote u u₃ (stmt_bytes (loop_of m id h xs))
unfolding stmt_bytes
looped m id h xs a b c = alike (loop-text m id h xs) (follow (loop-leads m id h) a (follow (lines-leads 4 xs) b c))

module _ (id : Text) where
  pub element-span : {u u₁ u₂ : Writer}
      → Wrote u u₁ (text "    auto element_span = span.subrange(n * " ++ (named Arrays.Full id (text "_element_size_") ++ text ", "))
      → Wrote u₁ u₂ (named Arrays.Full id (text "_element_size_") ++ text ");\n")
      → Wrote u u₂ (line_text 4 (element_span_line id) [])
  element-span a b =
      follow
      (piece (text "    auto element_span = span.subrange(n * ") ▸ piece (named Arrays.Full id (text "_element_size_")) ▸ piece (text ", "))
      a b

  pub in_parts : (type : Text) (h : Loop) {u u₁ u₂ u₃ u₄ : Writer} → Wrote u u₁ (loop_head Arrays.Full id h [])
      → Wrote u₁ u₂ (line_text 4 (element_span_line id) [])
      → Wrote u₂ u₃ (lines_text 4 (parse_array_element element_span (Elem.parsed type) (place_of id Place.Slot) Out.out) [])
      → Wrote u₃ u₄ (text "}\n")
      → Wrote u u₄ (stmt_bytes (loop_of Arrays.Full id h (in_part id type)))
  in_parts type h a b c d = looped Arrays.Full id h (in_part id type) a (follow (line-leads 4 (element_span_line id)) b c) d
