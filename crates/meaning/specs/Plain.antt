-- What the lines that are lowered never ask of the machine: a number below zero anywhere but on the right of a `<`, a division by zero, and, where the
-- span has fewer than 2^31 bytes, a product past 2^31 − 1 anywhere but on the right of a `<`. Said of a state and the line that is run next, in document
-- 01's run.
-- Assumes nothing.
use Rattle.std.specs.Prelude.{◌≡◌, List, [], ◌∷◌, zero, suc, ◌+◌, ◌^◌, ◌<◌, length, pos, negsuc}
use Rattle.definitions.specs.Lines.{Expr, Test, Line, Stmt}
use Rattle.definitions.specs.Blocks.{span}
use Rattle.meaning.specs.Machine.{Cause, State, put_turns, Num, num, over, eval, excusing}

-- not below zero
abbrev pub Natural : Num → Type 0
Natural (num (pos n)) = Unit {0}
Natural (num (negsuc n)) = ⊥
Natural (over why) = Unit {0}

-- above zero
abbrev pub Positive : Num → Type 0
Positive (num (pos zero)) = ⊥
Positive (num (pos (suc n))) = Unit {0}
Positive (num (negsuc n)) = ⊥
Positive (over why) = Unit {0}

-- no operand of an operation in an expression is below zero, and no divisor is zero
abbrev pub Operands : State → Expr → Type 0
Operands σ (Expr.lit n) = Unit {0}
Operands σ (Expr.var x) = Unit {0}
Operands σ (Expr.size s) = Unit {0}
Operands σ Expr.turn = Unit {0}
Operands σ (Expr.bracket a) = Operands σ a
Operands σ (Expr.add a b) = Operands σ a × Operands σ b × Natural (eval excusing σ a) × Natural (eval excusing σ b)
Operands σ (Expr.mul a b) = Operands σ a × Operands σ b × Natural (eval excusing σ a) × Natural (eval excusing σ b)
Operands σ (Expr.sub a b) = Operands σ a × Operands σ b × Natural (eval excusing σ a) × Natural (eval excusing σ b)
Operands σ (Expr.div a b) = Operands σ a × Operands σ b × Natural (eval excusing σ a) × Positive (eval excusing σ b)
Operands σ (Expr.rem a b) = Operands σ a × Operands σ b × Natural (eval excusing σ a) × Positive (eval excusing σ b)

-- a product past 2^31 − 1 only where the span is as long
abbrev pub Covered : State → Num → Type 0
Covered σ (num x) = Unit {0}
Covered σ (over Cause.by_sum) = Unit {0}
Covered σ (over Cause.by_product) = length (σ.spans span) < 2 ^ 31 → ⊥
Covered σ (over Cause.by_parser) = Unit {0}

-- and the whole is not below zero, and covered
abbrev pub PlainExpr : State → Expr → Type 0
PlainExpr σ e = Operands σ e × Natural (eval excusing σ e) × Covered σ (eval excusing σ e)

-- what is asked only where a number is there, since else the run is excused
abbrev pub Then : Num → Type 0 → Type 0
Then (num x) A = A
Then (over why) A = Unit {0}

-- only the right of a `<` may be below zero, or a product past 2^31 − 1
abbrev pub PlainTest : State → Test → Type 0
PlainTest σ (Test.less a b) = PlainExpr σ a × Then (eval excusing σ a) (Operands σ b)
PlainTest σ (Test.ragged a b) = PlainExpr σ (Expr.rem a b)
PlainTest σ (Test.equal a b) = PlainExpr σ a × Then (eval excusing σ a) (PlainExpr σ b)
-- behind `||` only where b is not zero
PlainTest σ (Test.ragged_or_zero a b) =
    PlainExpr σ b × Then (eval excusing σ b) ((eval excusing σ b ≡ num (pos 0) → ⊥) → PlainExpr σ (Expr.rem a b))
-- behind `&&` likewise; the right of this `<` is plain too
PlainTest σ (Test.divided a b c) =
    PlainExpr σ b
    × Then (eval excusing σ b)
    ((eval excusing σ b ≡ num (pos 0) → ⊥)
    → PlainExpr σ (Expr.div a b) × Then (eval excusing σ (Expr.div a b)) (PlainExpr σ c))
PlainTest σ (Test.more s) = Unit {0}
PlainTest σ (Test.not_parsed type s x) = Unit {0}
PlainTest σ (Test.not_valid type x) = Unit {0}
PlainTest σ (Test.not_fixed v n) = Unit {0}
PlainTest σ (Test.not_tag type v tag) = Unit {0}

abbrev pub PlainLine : State → Line → Type 0
PlainLine σ Line.fail = Unit {0}
PlainLine σ (Line.must c) = PlainTest σ c
PlainLine σ (Line.check d c) = PlainTest σ c
PlainLine σ (Line.set b x v) = Unit {0}
PlainLine σ (Line.set_cast x type v) = Unit {0}
PlainLine σ (Line.set_to b x e) = PlainExpr σ e
PlainLine σ (Line.minus w x n) = Unit {0}
PlainLine σ (Line.plus w x n) = Unit {0}
PlainLine σ (Line.keep x s) = Unit {0}
PlainLine σ (Line.front b x s n) = PlainExpr σ n
PlainLine σ (Line.part b x s a n) = PlainExpr σ a × Then (eval excusing σ a) (PlainExpr σ n)
PlainLine σ (Line.skip s e) = PlainExpr σ e
PlainLine σ (Line.reserved s n) = Unit {0}
PlainLine σ (Line.clear s) = Unit {0}
PlainLine σ (Line.store to v) = Unit {0}
PlainLine σ (Line.store_cast to type v) = Unit {0}
PlainLine σ (Line.place to o) = Unit {0}
PlainLine σ (Line.declare type) = Unit {0}
PlainLine σ (Line.emplace x) = Unit {0}

-- of a loop its head: its body's lines are steps of their own
abbrev pub PlainStmt : State → Stmt → Type 0
PlainStmt σ (Stmt.one x) = PlainLine σ x
PlainStmt σ (Stmt.when c b) = PlainTest σ c
PlainStmt σ (Stmt.count e b) = PlainExpr (put_turns σ 0) e
PlainStmt σ (Stmt.recount e b) = PlainExpr (put_turns σ (σ.turns + 1)) e
PlainStmt σ (Stmt.while c b) = PlainTest σ c

-- of the line that is run next, where there is one
abbrev pub PlainNext : State → List Stmt → Type 0
PlainNext σ [] = Unit {0}
PlainNext σ (s ∷ l) = PlainStmt σ s
