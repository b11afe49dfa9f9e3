-- The definitions' elements, places and loops that the by-value ones stand for.
-- Assumes nothing.
use Rattle.std.specs.Prelude.{ℕ, List, [], ◌∷◌, ◌++◌}
use Rattle.definitions.specs.Bytes.{Text, text}
use Rattle.definitions.specs.Lines.{Expr, Test, Before, Dest, Out, Line, Stmt, expr_text, dest_text, indent}
use Rattle.definitions.specs.Blocks.{span, raw, element_span, read_of, named, bare, parse_array_element, Elem}
use Rattle.definitions.specs.declared.Arrays.{Arrays}
use Rattle.definitions.specs.declared.EndiannessValue.{EndiannessValue}
use Rattle.expressions.specs.Amounts.{amount_of}
use Rattle.elements.specs.declared.Element.{Element}
use Rattle.elements.specs.declared.Source.{Source}
use Rattle.elements.specs.declared.Place.{Place}
use Rattle.elements.specs.declared.Loop.{Loop}
use Rattle.elements.specs.declared.Stored.{Stored}

abbrev pub element_of : Text → Element → Elem
element_of type (Element.Scalar order w) = Elem.scalar order w
element_of type (Element.OpenEnum order w) = Elem.open_enum type order w
element_of type (Element.ClosedEnum order w) = Elem.closed_enum type order w
element_of type Element.Parsed = Elem.parsed type

abbrev pub source_of : Text → Source → Text
source_of id Source.Span = span
source_of id Source.ElementSpan = element_span
source_of id Source.OwnSpan = bare id (text "_span")

abbrev pub place_of : Text → Place → Dest
place_of id Place.Slot = Dest.slot (named Arrays.Full id (text "_"))
place_of id Place.Push = Dest.push (named Arrays.Full id (text "_"))

abbrev pub out_of : Stored → Out
out_of Stored.Plain = Out.out
out_of Stored.Moved = Out.moved

-- what stands before the element in its line, and behind it
unfoldable pub place_start : Text → Place → Text → Text
place_start id place t = indent 4 (dest_text (place_of id place) t)

abbrev pub place_end : Place → Text
place_end Place.Slot = text ";\n"
place_end Place.Push = text ");\n"

-- the value of a closed enum, and its test
abbrev pub raw_value : Text → EndiannessValue → ℕ → List Line
raw_value type order w = Line.set Before.auto raw (read_of span order w) ∷ Line.check 4 (Test.not_valid type raw) ∷ []

-- a loop's first line
abbrev pub loop_head : Arrays → Text → Loop → Text → Text
loop_head m id (Loop.Times a) t = text "for (size_t n = 0; n < " ++ expr_text (amount_of m id a) (text "; n++) {\n" ++ t)
loop_head m id Loop.WhileRest t = text "while (span.size() > 0) {\n" ++ t
loop_head m id Loop.WhileOwn t = text "while (" ++ (bare id (text "_span") ++ (text ".size() > 0) {\n" ++ t))

abbrev pub loop_of : Arrays → Text → Loop → List Line → Stmt
loop_of m id (Loop.Times a) body = Stmt.count (amount_of m id a) body
loop_of m id Loop.WhileRest body = Stmt.while (Test.more span) body
loop_of m id Loop.WhileOwn body = Stmt.while (Test.more (bare id (text "_span"))) body

-- `auto element_span = span.subrange(n * e, e);`
abbrev pub element_span_line : Text → Line
element_span_line id =
    Line.part Before.auto element_span span
    (Expr.mul Expr.turn (Expr.var (named Arrays.Full id (text "_element_size_"))))
    (Expr.var (named Arrays.Full id (text "_element_size_")))

-- the lines of an element of Dynamic size
abbrev pub in_part : Text → Text → List Line
in_part id type =
    element_span_line id ∷ parse_array_element element_span (Elem.parsed type) (Dest.slot (named Arrays.Full id (text "_"))) Out.out
