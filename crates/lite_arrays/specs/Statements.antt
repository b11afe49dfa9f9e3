-- The statements that shapes of lite mode share, over the by-value terms and amounts.
-- Assumes nothing.
use Rattle.std.specs.Prelude.{List, [], ◌∷◌}
use Rattle.definitions.specs.Bytes.{Text, text}
use Rattle.definitions.specs.Lines.{Expr, Test, Before, Line, Stmt}
use Rattle.definitions.specs.Blocks.{span, named, parse_lines}
use Rattle.definitions.specs.declared.Arrays.{Arrays}
use Rattle.definitions.specs.declared.Products.{Products}
use Rattle.expressions.specs.Amounts.{term_of, amount_of}
use Rattle.expressions.specs.declared.Term.{Term}
use Rattle.expressions.specs.declared.Amount.{Amount}
use Rattle.elements.specs.Elements.{loop_of}
use Rattle.elements.specs.declared.Loop.{Loop}
use Rattle.array_lines.specs.Statements.{skip_stmt, check_stmt, product_stmt}

-- `if ({id}_element_size_ == 0) {` ..
abbrev pub zero_test : Text → Stmt
zero_test id = Stmt.one (Line.check 4 (Test.equal (term_of Arrays.Lite id Term.ElementSize) (Expr.lit 0)))

-- `{id}_ = span.subrange(0, e);`, `span.skip(e);`
abbrev pub cut_stmts : Text → Amount → List Stmt
cut_stmts id a =
    Stmt.one (Line.front Before.old (named Arrays.Lite id (text "_")) span (amount_of Arrays.Lite id a))
    ∷ skip_stmt Arrays.Lite id a
    ∷ []

-- the same behind the check of so many bytes
abbrev pub taken_stmts : Text → Amount → List Stmt
taken_stmts id a = check_stmt Arrays.Lite id a ∷ cut_stmts id a

-- and behind the check of e * n bytes
abbrev pub product_stmts : Products → Text → Term → Term → List Stmt
product_stmts o id e n = product_stmt o Arrays.Lite id e n ∷ cut_stmts id (Amount.Product e n)

-- `{id}_ = span;`, `span.clear();`
abbrev pub whole_stmts : Text → List Stmt
whole_stmts id = Stmt.one (Line.keep (named Arrays.Lite id (text "_")) span) ∷ Stmt.one (Line.clear span) ∷ []

-- `{id}_ = {id}_.subrange(0, {id}_.size() - span.size());`
abbrev pub eaten_stmt : Text → Stmt
eaten_stmt id =
    Stmt.one
    (Line.front Before.old (named Arrays.Lite id (text "_")) (named Arrays.Lite id (text "_"))
    (Expr.sub (Expr.size (named Arrays.Lite id (text "_"))) (Expr.size span)))

-- `{id}_ = span;`, a loop of parsers, and what they ate
abbrev pub parsed_span : Text → Text → Loop → List Stmt
parsed_span id type h =
    Stmt.one (Line.keep (named Arrays.Lite id (text "_")) span)
    ∷ loop_of Arrays.Lite id h (parse_lines type span)
    ∷ eaten_stmt id
    ∷ []
