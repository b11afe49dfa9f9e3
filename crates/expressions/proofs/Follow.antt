-- A text of Lines that was put, and then what follows it, are the text before what follows.
-- Assumes nothing.
use mathlib.Core.List.{List, [], ◌∷◌}
use mathlib.Core.Path.{sym}
use Rattle.definitions.specs.Bytes.{Text}
use Rattle.definitions.specs.Lines.{Stmt}
use Rattle.text.specs.Wrote.{Wrote}
use Rattle.text.specs.declared.Writer.{Writer}
use Rattle.text.proofs.Wrotes.{then, alike}
use Rattle.stream.proofs.Texts.{Leads, stmt-leads}
use Rattle.expressions.specs.Statements.{stmt_bytes, stmts_bytes}

pub follow : {f : Text → Text} {u u₁ u₂ : Writer} {t : Text} → Leads f → Wrote u u₁ (f []) → Wrote u₁ u₂ t → Wrote u u₂ (f t)
follow {t = t} h p q = alike (sym (h.split [] t)) (then p q)

-- one statement, and one before others
pub only : (s : Stmt) {u u₁ : Writer} → Wrote u u₁ (stmt_bytes s) → Wrote u u₁ (stmts_bytes (s ∷ []))
unfolding stmt_bytes stmts_bytes
only s p = p

pub first : (s : Stmt) (xs : List Stmt) {u u₁ u₂ : Writer} → Wrote u u₁ (stmt_bytes s) → Wrote u₁ u₂ (stmts_bytes xs)
    → Wrote u u₂ (stmts_bytes (s ∷ xs))
unfolding stmt_bytes stmts_bytes
first s xs p t = follow (stmt-leads s) p t
