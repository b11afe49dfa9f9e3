-- The texts that the lines print where C++ reads an identifier: variables, spans, types and tags, each as it is written, a member with its `output->`.
-- Left out are the words of C++ and its library that every listing shares, such as `auto`, `size_t` and `subrange`. Proved of every answer's lines: none
-- is a keyword, with or without `output->` (proofs/Identifiers).
-- Assumes nothing.
use Rattle.std.specs.Prelude.{List, [], ◌∷◌, ◌++◌, eqb}
use Rattle.definitions.specs.Bytes.{Text, text, pick, any}
use Rattle.definitions.specs.Lines.{Expr, Src, Test, Dest, Out, Line, Stmt}
use Rattle.definitions.specs.Blocks.{raw}

-- the `n` of a loop
abbrev pub turn : Text
turn = text "n"

abbrev pub expr_ids : Expr → List Text
expr_ids (Expr.lit n) = []
expr_ids (Expr.var x) = x ∷ []
expr_ids (Expr.size s) = s ∷ []
expr_ids Expr.turn = turn ∷ []
expr_ids (Expr.bracket a) = expr_ids a
expr_ids (Expr.add a b) = expr_ids a ++ expr_ids b
expr_ids (Expr.mul a b) = expr_ids a ++ expr_ids b
expr_ids (Expr.sub a b) = expr_ids a ++ expr_ids b
expr_ids (Expr.div a b) = expr_ids a ++ expr_ids b
expr_ids (Expr.rem a b) = expr_ids a ++ expr_ids b

abbrev pub src_ids : Src → List Text
src_ids (Src.read s order w n) = s ∷ []
src_ids (Src.bits x shift mask) = x ∷ []
src_ids (Src.held x) = x ∷ []

abbrev pub test_ids : Test → List Text
test_ids (Test.less a b) = expr_ids a ++ expr_ids b
test_ids (Test.ragged a b) = expr_ids a ++ expr_ids b
test_ids (Test.equal a b) = expr_ids a ++ expr_ids b
test_ids (Test.ragged_or_zero a b) = expr_ids a ++ expr_ids b
test_ids (Test.divided a b c) = expr_ids a ++ (expr_ids b ++ expr_ids c)
test_ids (Test.more s) = s ∷ []
test_ids (Test.not_parsed type s x) = type ∷ s ∷ x ∷ []
-- the type stands behind `IsValid`
test_ids (Test.not_valid type x) = type ∷ x ∷ []
test_ids (Test.not_fixed v n) = src_ids v
test_ids (Test.not_tag type v tag) = type ∷ tag ∷ src_ids v

abbrev pub dest_ids : Dest → List Text
dest_ids (Dest.slot x) = x ∷ turn ∷ []
dest_ids (Dest.push x) = x ∷ []

abbrev pub out_ids : Out → List Text
out_ids (Out.raw_as type) = type ∷ raw ∷ []
out_ids Out.out = text "out" ∷ []
out_ids Out.moved = text "out" ∷ []

abbrev pub line_ids : Line → List Text
line_ids Line.fail = []
line_ids (Line.must c) = test_ids c
line_ids (Line.check d c) = test_ids c
line_ids (Line.set b x v) = x ∷ src_ids v
line_ids (Line.set_cast x type v) = x ∷ type ∷ src_ids v
line_ids (Line.set_to b x e) = x ∷ expr_ids e
line_ids (Line.minus w x n) = x ∷ []
line_ids (Line.plus w x n) = x ∷ []
line_ids (Line.keep x s) = x ∷ s ∷ []
line_ids (Line.front b x s n) = x ∷ s ∷ expr_ids n
line_ids (Line.part b x s a n) = x ∷ s ∷ (expr_ids a ++ expr_ids n)
line_ids (Line.skip s e) = s ∷ expr_ids e
line_ids (Line.reserved s n) = s ∷ []
line_ids (Line.clear s) = s ∷ []
line_ids (Line.store to v) = dest_ids to ++ src_ids v
line_ids (Line.store_cast to type v) = dest_ids to ++ (type ∷ src_ids v)
line_ids (Line.place to o) = dest_ids to ++ out_ids o
line_ids (Line.declare type) = type ∷ text "out" ∷ []
line_ids (Line.emplace x) = text "opt_output" ∷ x ∷ []

abbrev pub lines_ids : List Line → List Text
lines_ids [] = []
lines_ids (x ∷ xs) = line_ids x ++ lines_ids xs

abbrev pub stmt_ids : Stmt → List Text
stmt_ids (Stmt.one x) = line_ids x
stmt_ids (Stmt.when c b) = test_ids c ++ lines_ids b
stmt_ids (Stmt.count e b) = turn ∷ (expr_ids e ++ lines_ids b)
stmt_ids (Stmt.recount e b) = turn ∷ (expr_ids e ++ lines_ids b)
stmt_ids (Stmt.while c b) = test_ids c ++ lines_ids b

-- of all the lines
abbrev pub identifiers : List Stmt → List Text
identifiers [] = []
identifiers (s ∷ l) = stmt_ids s ++ identifiers l

-- ---- a member's own name

-- what stands behind the last `>`; all of it where there is none
abbrev pub behind_arrow : Text → Text
behind_arrow [] = []
behind_arrow (x ∷ t) = pick (any (eqb 62) t) (behind_arrow t) (pick (eqb 62 x) t (x ∷ t))
