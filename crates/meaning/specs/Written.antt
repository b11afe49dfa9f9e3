-- That the text of the lines can be read in one way only where the type of lines says more than the text: brackets in expressions, and the loop that is
-- met again. Proved of every answer's lines (proofs/Demands: `written-so`).
-- Assumes nothing.
use Rattle.std.specs.Prelude.{Bool, true, false, ◌&&◌, List, ℕ, leb}
use Rattle.definitions.specs.Bytes.{all}
use Rattle.definitions.specs.Lines.{Expr, Test, Line, Stmt}

-- how loosely an expression is bound by its outermost operation, as in C++: not at all; by `*`, `/`, `%`; by `+`, `-`
abbrev pub looseness : Expr → ℕ
looseness (Expr.lit n) = 0
looseness (Expr.var x) = 0
looseness (Expr.size s) = 0
looseness Expr.turn = 0
looseness (Expr.bracket a) = 0
looseness (Expr.mul a b) = 1
looseness (Expr.div a b) = 1
looseness (Expr.rem a b) = 1
looseness (Expr.add a b) = 2
looseness (Expr.sub a b) = 2

-- Every operand is in brackets where C++ would read the text otherwise: `expr_text` prints none but those of `bracket`. Operations of one kind are read from
-- the left, so the left operand may be as loose as the whole, the right one may not.
abbrev pub bracketed : Expr → Bool
bracketed (Expr.lit n) = true
bracketed (Expr.var x) = true
bracketed (Expr.size s) = true
bracketed Expr.turn = true
bracketed (Expr.bracket a) = bracketed a
bracketed (Expr.mul a b) = leb (looseness a) 1 && leb (looseness b) 0 && bracketed a && bracketed b
bracketed (Expr.div a b) = leb (looseness a) 1 && leb (looseness b) 0 && bracketed a && bracketed b
bracketed (Expr.rem a b) = leb (looseness a) 1 && leb (looseness b) 0 && bracketed a && bracketed b
bracketed (Expr.add a b) = leb (looseness b) 1 && bracketed a && bracketed b
bracketed (Expr.sub a b) = leb (looseness b) 1 && bracketed a && bracketed b

abbrev pub written_test : Test → Bool
written_test (Test.less a b) = bracketed a && bracketed b
written_test (Test.ragged a b) = bracketed (Expr.rem a b)
written_test (Test.equal a b) = bracketed a && bracketed b
written_test (Test.ragged_or_zero a b) = bracketed b && bracketed (Expr.rem a b)
written_test (Test.divided a b c) = bracketed (Expr.div a b) && bracketed c
written_test (Test.more s) = true
written_test (Test.not_parsed type s x) = true
written_test (Test.not_valid type x) = true
written_test (Test.not_fixed v n) = true
written_test (Test.not_tag type v tag) = true

abbrev pub written_line : Line → Bool
written_line Line.fail = true
written_line (Line.must c) = written_test c
written_line (Line.check n c) = written_test c
written_line (Line.set b x v) = true
written_line (Line.set_cast x type v) = true
written_line (Line.set_to b x e) = bracketed e
written_line (Line.minus w x n) = true
written_line (Line.plus w x n) = true
written_line (Line.keep x s) = true
written_line (Line.front b x s n) = bracketed n
written_line (Line.part b x s a n) = bracketed a && bracketed n
written_line (Line.skip s e) = bracketed e
written_line (Line.reserved s n) = true
written_line (Line.clear s) = true
written_line (Line.store to v) = true
written_line (Line.store_cast to type v) = true
written_line (Line.place to o) = true
written_line (Line.declare type) = true
written_line (Line.emplace x) = true

-- no listing has a loop that is met again
abbrev pub written_stmt : Stmt → Bool
written_stmt (Stmt.one x) = written_line x
written_stmt (Stmt.when c b) = written_test c && all written_line b
written_stmt (Stmt.count e b) = bracketed e && all written_line b
written_stmt (Stmt.recount e b) = false
written_stmt (Stmt.while c b) = written_test c && all written_line b

-- all the lines
abbrev pub written : List Stmt → Bool
written l = all written_stmt l
