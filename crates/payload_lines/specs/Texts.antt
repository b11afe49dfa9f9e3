-- A payload's size with its modifier, between two pieces.
-- Assumes nothing.
use Rattle.std.specs.Prelude.{◌++◌, ℕ}
use Rattle.definitions.specs.Bytes.{Text, text, decimal}

-- `(x - 5)`, `(x + 5)`
unfoldable pub changed_size : Text → Text → Text → ℕ → Text → Text
changed_size before x sign n behind = before ++ (text "(" ++ (x ++ (sign ++ (decimal n ++ (text ")" ++ behind)))))
