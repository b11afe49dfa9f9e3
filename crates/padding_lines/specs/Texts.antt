-- Parts of the text of a padding.
-- Assumes nothing.
use Rattle.std.specs.Prelude.{[], ◌∷◌, ◌++◌, ℕ}
use Rattle.definitions.specs.Bytes.{Text}
use Rattle.definitions.specs.Lines.{Expr, Test, Line, Stmt, expr_text, stmt_text}
use Rattle.definitions.specs.Blocks.{span, room_for, start_name, gone, missing}

-- `P - ({id}_start_size - span.size())` between two pieces
unfoldable pub missing_text : Text → Text → ℕ → Text → Text
missing_text before id n behind = before ++ expr_text (missing (start_name id) n) behind

-- the padding after an array
unfoldable pub padding_text : Text → ℕ → Text
padding_text id n =
    stmt_text
    (Stmt.when (Test.less (gone (start_name id)) (Expr.lit n))
    (room_for (missing (start_name id) n) ∷ Line.skip span (missing (start_name id) n) ∷ []))
    []
