-- Parts of the text of an optional field, before what follows them.
-- Assumes nothing.
use Rattle.std.specs.Prelude.{[], ◌∷◌, ◌++◌, ℕ, ◌/◌}
use Rattle.definitions.specs.Bytes.{Text, text}
use Rattle.definitions.specs.Lines.{Expr, Test, Before, Line, test_text, lines_text}
use Rattle.definitions.specs.Blocks.{span, raw, check_size, read_of}
use Rattle.definitions.specs.declared.EndiannessValue.{EndiannessValue}

-- `if (c == v) {`
unfoldable pub when_text : Text → ℕ → Text → Text
when_text c v t = text "if (" ++ test_text (Test.equal (Expr.var c) (Expr.lit v)) (text ") {\n" ++ t)

-- the same, and the check of so many bits
unfoldable pub room_text : Text → ℕ → ℕ → Text → Text
room_text c v w t = when_text c v (lines_text 4 (check_size (Expr.lit (w / 8)) ∷ []) t)

-- the same, the value and its test
unfoldable pub raw_text : Text → ℕ → EndiannessValue → ℕ → Text → Text → Text
raw_text c v order w type t =
    room_text c v w (lines_text 4 (Line.set Before.auto raw (read_of span order w) ∷ Line.check 3 (Test.not_valid type raw) ∷ []) t)
