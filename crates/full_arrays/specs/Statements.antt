-- The statements that shapes of full mode share, over the by-value terms and amounts.
-- Assumes nothing.
use Rattle.std.specs.Prelude.{List, [], ◌∷◌, ℕ}
use Rattle.definitions.specs.Bytes.{Text, text}
use Rattle.definitions.specs.Lines.{Expr, Before, Dest, Out, Line, Stmt}
use Rattle.definitions.specs.Blocks.{span, named, bare, parse_array_element}
use Rattle.definitions.specs.declared.Arrays.{Arrays}
use Rattle.definitions.specs.declared.Products.{Products}
use Rattle.expressions.specs.Amounts.{term_of}
use Rattle.expressions.specs.declared.Term.{Term}
use Rattle.expressions.specs.declared.Amount.{Amount}
use Rattle.elements.specs.Elements.{element_of, loop_of, in_part}
use Rattle.elements.specs.declared.Element.{Element}
use Rattle.elements.specs.declared.Loop.{Loop}
use Rattle.array_lines.specs.Statements.{ragged_test, ragged_or_zero_test, skip_stmt, product_stmt}

-- `auto {id}_count_ = s / e;`
abbrev pub own_count_stmt : Text → Term → Term → Stmt
own_count_stmt id s e =
    Stmt.one (Line.set_to Before.auto (bare id (text "_count_")) (Expr.div (term_of Arrays.Full id s) (term_of Arrays.Full id e)))

-- `auto {id}_span = span.subrange(0, output->{id}_size_);`
abbrev pub own_span_stmt : Text → Stmt
own_span_stmt id = Stmt.one (Line.front Before.auto (bare id (text "_span")) span (term_of Arrays.Full id Term.Size))

-- the test of a size, the count that it gives, and as many elements of Static size
abbrev pub counted_stmts : Text → Text → Term → ℕ → Element → List Stmt
counted_stmts id type s es element =
    ragged_test Arrays.Full id s (Term.Literal es)
    ∷ own_count_stmt id s (Term.Literal es)
    ∷ loop_of Arrays.Full id (Loop.Times (Amount.Of Term.OwnCount))
    (parse_array_element span (element_of type element) (Dest.push (named Arrays.Full id (text "_"))) Out.out)
    ∷ []

-- the check of e * n bytes, n parts, and the skip behind them
abbrev pub product_parts : Products → Text → Text → Term → List Stmt
product_parts o id type n =
    product_stmt o Arrays.Full id Term.ElementSize n
    ∷ loop_of Arrays.Full id (Loop.Times (Amount.Of n)) (in_part id type)
    ∷ skip_stmt Arrays.Full id (Amount.Product Term.ElementSize n)
    ∷ []

-- the test of a size, the count that it gives, and as many parts
abbrev pub counted_parts : Text → Text → Term → List Stmt
counted_parts id type s =
    ragged_or_zero_test Arrays.Full id s
    ∷ own_count_stmt id s Term.ElementSize
    ∷ loop_of Arrays.Full id (Loop.Times (Amount.Of Term.OwnCount)) (in_part id type)
    ∷ []
