-- The size checks of arrays by a division (document 02, Card 8): two listings that differ in these checks alone, and a listing in which no check asks
-- for a product.
-- Assumes nothing.
use Rattle.std.specs.Prelude.{List, [], ◌∷◌, ℕ}
use Rattle.definitions.specs.Bytes.{Text}
use Rattle.definitions.specs.Lines.{Expr, Test, Line, Stmt}
use Rattle.definitions.specs.Blocks.{span}

-- "A the element size and B a count variable or a fixed count behind a variable A"
pub data Factors : Expr → Expr → Type 0 where
  counted : (size : ℕ) (count : Text) → Factors (Expr.lit size) (Expr.var count)
  sized : (size : Text) (count : ℕ) → Factors (Expr.var size) (Expr.lit count)
  both : (size count : Text) → Factors (Expr.var size) (Expr.var count)

-- `if (span.size() < a * b) {`
abbrev pub by_product : Expr → Expr → Stmt
by_product a b = Stmt.one (Line.check 4 (Test.less (Expr.size span) (Expr.mul a b)))

-- `if (a != 0 && span.size() / a < b) {`
abbrev pub by_division : Expr → Expr → Stmt
by_division a b = Stmt.one (Line.check 4 (Test.divided (Expr.size span) a b))

-- the second listing has, for some checks of the first by a division, those by the product; "The other lines stay."
pub data Checks : List Stmt → List Stmt → Type 0 where
  end : Checks [] []
  same : (s : Stmt) {l m : List Stmt} → Checks l m → Checks (s ∷ l) (s ∷ m)
  divided : {a b : Expr} → Factors a b → {l m : List Stmt} → Checks l m → Checks (by_division a b ∷ l) (by_product a b ∷ m)

-- ---- no product on the right of a `<`

abbrev pub NoProduct : Expr → Type 0
NoProduct (Expr.lit n) = Unit {0}
NoProduct (Expr.var x) = Unit {0}
NoProduct (Expr.size s) = Unit {0}
NoProduct Expr.turn = Unit {0}
NoProduct (Expr.bracket a) = NoProduct a
NoProduct (Expr.add a b) = NoProduct a × NoProduct b
NoProduct (Expr.mul a b) = ⊥
NoProduct (Expr.sub a b) = NoProduct a × NoProduct b
NoProduct (Expr.div a b) = NoProduct a × NoProduct b
NoProduct (Expr.rem a b) = NoProduct a × NoProduct b

abbrev pub TestsNoProduct : Test → Type 0
TestsNoProduct (Test.less a b) = NoProduct b
TestsNoProduct (Test.ragged a b) = Unit {0}
TestsNoProduct (Test.equal a b) = Unit {0}
TestsNoProduct (Test.ragged_or_zero a b) = Unit {0}
TestsNoProduct (Test.divided a b c) = NoProduct c
TestsNoProduct (Test.more s) = Unit {0}
TestsNoProduct (Test.not_parsed type s x) = Unit {0}
TestsNoProduct (Test.not_valid type x) = Unit {0}
TestsNoProduct (Test.not_fixed v n) = Unit {0}
TestsNoProduct (Test.not_tag type v tag) = Unit {0}

abbrev pub LineTests : Line → Type 0
LineTests Line.fail = Unit {0}
LineTests (Line.must c) = TestsNoProduct c
LineTests (Line.check d c) = TestsNoProduct c
LineTests (Line.set b x v) = Unit {0}
LineTests (Line.set_cast x type v) = Unit {0}
LineTests (Line.set_to b x e) = Unit {0}
LineTests (Line.minus w x n) = Unit {0}
LineTests (Line.plus w x n) = Unit {0}
LineTests (Line.keep x s) = Unit {0}
LineTests (Line.front b x s n) = Unit {0}
LineTests (Line.part b x s a n) = Unit {0}
LineTests (Line.skip s e) = Unit {0}
LineTests (Line.reserved s n) = Unit {0}
LineTests (Line.clear s) = Unit {0}
LineTests (Line.store to v) = Unit {0}
LineTests (Line.store_cast to type v) = Unit {0}
LineTests (Line.place to o) = Unit {0}
LineTests (Line.declare type) = Unit {0}
LineTests (Line.emplace x) = Unit {0}

abbrev pub LinesTest : List Line → Type 0
LinesTest [] = Unit {0}
LinesTest (x ∷ b) = LineTests x × LinesTest b

abbrev pub StmtTests : Stmt → Type 0
StmtTests (Stmt.one x) = LineTests x
StmtTests (Stmt.when c b) = TestsNoProduct c × LinesTest b
StmtTests (Stmt.count e b) = LinesTest b
StmtTests (Stmt.recount e b) = LinesTest b
StmtTests (Stmt.while c b) = TestsNoProduct c × LinesTest b

-- in all the lines
abbrev pub NoProductTested : List Stmt → Type 0
NoProductTested [] = Unit {0}
NoProductTested (s ∷ l) = StmtTests s × NoProductTested l
