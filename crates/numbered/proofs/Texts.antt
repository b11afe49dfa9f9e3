-- The bytes of two listings that are alike: those of the second are those of the first with numbers behind `raw_value` left out (`blocks-out`).
-- Assumes nothing.
use mathlib.Core.List.{List, [], ◌∷◌, ◌++◌}
use Prim.Native.Nat.{ℕ, ◌+◌, ◌≤◌}
use native.Mathlib.Omega.{arith}
use lib.ListN.{length, replicate, length-append}
use Rattle.definitions.specs.Bytes.{Text, text, decimal}
use Rattle.definitions.specs.Lines.{Expr, Src, Test, Before, Dest, Out, Line, Stmt, expr_text, src_text, test_text, before_text, dest_text, dest_end, out_text, line_text, lines_text, body_text, stmt_text, render}
use Rattle.definitions.specs.Blocks.{raw, Block, program}
use Rattle.numbered.specs.Digits.{DigitsOut}
use Rattle.numbered.specs.Plainly.{forget}
use Rattle.numbered.proofs.Listings.{RawNames, Link, read_texts, LineAs, Lines, StmtReads, Alike, HasNames, AllOf, BlocksRead, program-alike}

-- ---- a text before both

front : (a : Text) {t u : Text} → DigitsOut t u → DigitsOut (a ++ t) (a ++ u)
front [] h = h
front (b ∷ a) h = DigitsOut.byte b (front a h)

raw-front : {r q : Text} → RawNames r q → {t u : Text} → DigitsOut t u → DigitsOut (r ++ t) (q ++ u)
raw-front RawNames.plain h = front raw h
raw-front (RawNames.numbered k) h = DigitsOut.number k h

ruleset bytes = (DigitsOut.byte, front)

expr-out : (e : Expr) {t u : Text} → DigitsOut t u → DigitsOut (expr_text e t) (expr_text e u)
expr-out (Expr.lit n) h = front (decimal n) h
expr-out (Expr.var x) h = front x h
expr-out (Expr.size s) h = front s (front (text ".size()") h)
expr-out Expr.turn h = front (text "n") h
expr-out (Expr.bracket a) h = front (text "(") (expr-out a (front (text ")") h))
expr-out (Expr.add a b) h = expr-out a (front (text " + ") (expr-out b h))
expr-out (Expr.mul a b) h = expr-out a (front (text " * ") (expr-out b h))
expr-out (Expr.sub a b) h = expr-out a (front (text " - ") (expr-out b h))
expr-out (Expr.div a b) h = expr-out a (front (text " / ") (expr-out b h))
expr-out (Expr.rem a b) h = expr-out a (front (text " % ") (expr-out b h))

src-out : (v : Src) {t u : Text} → DigitsOut t u → DigitsOut (src_text v t) (src_text v u)
src-out (Src.read s order w n) h = search bytes depth 60
src-out (Src.bits x shift mask) h = search bytes depth 60
src-out (Src.held x) h = front x h

test-out : (c : Test) {t u : Text} → DigitsOut t u → DigitsOut (test_text c t) (test_text c u)
test-out (Test.less a b) h = search (bytes, expr-out) depth 60
test-out (Test.ragged a b) h = search (bytes, expr-out) depth 60
test-out (Test.equal a b) h = search (bytes, expr-out) depth 60
test-out (Test.ragged_or_zero a b) h = search (bytes, expr-out) depth 60
test-out (Test.divided a b c) h = search (bytes, expr-out) depth 60
test-out (Test.more s) h = search bytes depth 60
test-out (Test.not_parsed type s x) h = search bytes depth 60
test-out (Test.not_valid type x) h = search bytes depth 60
test-out (Test.not_fixed v n) h = search (bytes, src-out) depth 60
test-out (Test.not_tag type v tag) h = search (bytes, src-out) depth 60

before-out : (b : Before) {t u : Text} → DigitsOut t u → DigitsOut (before_text b t) (before_text b u)
before-out Before.old h = h
before-out Before.auto h = search bytes depth 60
before-out Before.size_t h = search bytes depth 60
before-out Before.slice h = search bytes depth 60
before-out Before.condition h = search bytes depth 60
before-out (Before.chunk w) h = search bytes depth 60

dest-out : (d : Dest) {t u : Text} → DigitsOut t u → DigitsOut (dest_text d t) (dest_text d u)
dest-out (Dest.slot x) h = search bytes depth 60
dest-out (Dest.push x) h = search bytes depth 60

end-out : (d : Dest) {t u : Text} → DigitsOut t u → DigitsOut (dest_end d t) (dest_end d u)
end-out (Dest.slot x) h = search bytes depth 60
end-out (Dest.push x) h = search bytes depth 60

out-out : (o : Out) {t u : Text} → DigitsOut t u → DigitsOut (out_text o t) (out_text o u)
out-out (Out.raw_as type) h = search bytes depth 60
out-out Out.out h = search bytes depth 60
out-out Out.moved h = search bytes depth 60

ruleset parts = (bytes, expr-out, src-out, test-out, before-out, dest-out, end-out, out-out)

same_out : (d : ℕ) (x : Line) {t u : Text} → DigitsOut t u → DigitsOut (line_text d x t) (line_text d x u)
same_out d Line.fail h = search parts depth 80
same_out d (Line.must c) h = search parts depth 80
same_out d (Line.check n c) h = search parts depth 80
same_out d (Line.set b x v) h = search parts depth 80
same_out d (Line.set_cast x type v) h = search parts depth 80
same_out d (Line.set_to b x e) h = search parts depth 80
same_out d (Line.minus w x n) h = search parts depth 80
same_out d (Line.plus w x n) h = search parts depth 80
same_out d (Line.keep x s) h = search parts depth 80
same_out d (Line.front b x s n) h = search parts depth 80
same_out d (Line.part b x s a n) h = search parts depth 80
same_out d (Line.skip s e) h = search parts depth 80
same_out d (Line.reserved s n) h = search parts depth 80
same_out d (Line.clear s) h = search parts depth 80
same_out d (Line.store to v) h = search parts depth 80
same_out d (Line.store_cast to type v) h = search parts depth 80
same_out d (Line.place to o) h = search parts depth 80
same_out d (Line.declare type) h = search parts depth 80
same_out d (Line.emplace x) h = search parts depth 80

-- ---- lines that are alike

module _ (P : Text → Type 0) where
  line-out : (d : ℕ) {j k : Link} {x y : Line} → LineAs P j x y k → {t u : Text} → DigitsOut t u → DigitsOut (line_text d x t) (line_text d y u)
  line-out d (LineAs.same x r) h = same_out d x h
  line-out d (LineAs.sets v raws r) h =
      front (replicate d 32) (front (text "auto ") (raw-front raws (front (text " = ") (src-out v (front (text ";\n") h)))))
  line-out d (LineAs.tests n type raws) h =
      front (replicate d 32)
      (front (text "if (!IsValid")
      (front type
      (front (text "(")
      (raw-front raws
      (front (text ")) {\n")
      (front (replicate (d + n) 32) (front (text "return false;\n") (front (replicate d 32) (front (text "}\n") h)))))))))
  line-out d LineAs.fails h = same_out d Line.fail h
  line-out d (LineAs.casts x type raws) h =
      front (replicate d 32) (front x (front (text " = ") (front type (front (text "(") (raw-front raws (front (text ");\n") h))))))

  lines-out : (d : ℕ) {j : Link} {xs ys : List Line} → Lines P j xs ys → {t u : Text} → DigitsOut t u → DigitsOut (lines_text d xs t) (lines_text d ys u)
  lines-out d Lines.done h = h
  lines-out d (Lines.next x k) h = line-out d x (lines-out d k h)

  body-out : {b : List Line} {t u : Text} → Lines P Link.free b b → DigitsOut t u → DigitsOut (body_text b t) (body_text b u)
  body-out k h = lines-out 4 k (front (text "}\n") h)

  stmt-out : (s : Stmt) {t u : Text} → StmtReads P s → DigitsOut t u → DigitsOut (stmt_text s t) (stmt_text s u)
  stmt-out (Stmt.one x) r h = same_out 0 x h
  stmt-out (Stmt.when c b) r h = front (text "if (") (test-out c (front (text ") {\n") (body-out r.1 h)))
  stmt-out (Stmt.count e b) r h = front (text "for (size_t n = 0; n < ") (expr-out e (front (text "; n++) {\n") (body-out r.1 h)))
  stmt-out (Stmt.recount e b) r h = front (text "for (; n < ") (expr-out e (front (text "; n++) {\n") (body-out r.1 h)))
  stmt-out (Stmt.while c b) r h = front (text "while (") (test-out c (front (text ") {\n") (body-out r.1 h)))

  listings-out : {j : Link} {l m : List Stmt} → Alike P j l m → DigitsOut (render l) (render m)
  listings-out Alike.done = DigitsOut.end
  listings-out (Alike.line x k) = line-out 0 x (listings-out k)
  listings-out (Alike.same s r k) = stmt-out s r (listings-out k)

-- ---- blocks, whatever their names

abbrev Any : Text → Type 0
Any x = Unit {0}

any_of : (xs : List Text) → AllOf Any xs
any_of [] = tt
any_of (x ∷ xs) = (tt, any_of xs)

any-reads : (bs : List Block) → BlocksRead Any bs
any-reads [] = tt
any-reads (b ∷ bs) = (any_of (read_texts b), any-reads bs)

any-names : HasNames Any
any-names = record { chunk = λ nr. tt; size = λ m id. tt; count = λ m id. tt; element = λ m id. tt; own = λ id. tt; begin = λ id. tt }

pub blocks-out : (bs : List Block) → DigitsOut (render (program bs)) (render (program (forget bs)))
blocks-out bs = listings-out Any (program-alike Any any-names bs (any-reads bs))

-- the second is no longer
pub no_longer : {t u : Text} → DigitsOut t u → length u ≤ length t
no_longer DigitsOut.end = omega arith
no_longer (DigitsOut.byte b h) = omega (arith, no_longer h)
no_longer (DigitsOut.number k {t} h) = omega (arith, no_longer h, length-append (decimal k) t)
