-- The bytes of one statement, and of several.
-- Assumes nothing.
use Rattle.std.specs.Prelude.{List, []}
use Rattle.definitions.specs.Bytes.{Text}
use Rattle.definitions.specs.Lines.{Stmt, stmt_text, render}

unfoldable pub stmt_bytes : Stmt → Text
stmt_bytes s = stmt_text s []

unfoldable pub stmts_bytes : List Stmt → Text
stmts_bytes l = render l
