-- Parts of the text of a nested parser, before what follows them.
-- Assumes nothing.
use Rattle.std.specs.Prelude.{[], ◌∷◌, ℕ}
use Rattle.definitions.specs.Bytes.{Text, text}
use Rattle.definitions.specs.Lines.{Expr, Test, Before, Line, lines_text}
use Rattle.definitions.specs.Blocks.{span, named, bare, room_for, all_but}
use Rattle.definitions.specs.declared.Arrays.{Arrays}

-- `if (span.size() < N) return false;`, `pdl::packet::slice {id}_span = span.subrange(0, span.size() - N);`
unfoldable pub span_text : Text → ℕ → Text → Text
span_text id n t = lines_text 0 (room_for (Expr.lit n) ∷ Line.front Before.slice (bare id (text "_span")) span (all_but n) ∷ []) t

-- `if (!T::Parse({id}_span, &{prefix}{id}_)) return false;`, `span.skip({id}_span.size());`
unfoldable pub parse_span_text : Arrays → Text → Text → Text
parse_span_text m id type =
    lines_text 0
    (Line.must (Test.not_parsed type (bare id (text "_span")) (named m id (text "_")))
    ∷ Line.skip span (Expr.size (bare id (text "_span")))
    ∷ [])
    []
