-- Each text of Lines stands before the text that follows it: it is its own bytes and then those. One law for each text function; its proof has the
-- shape of the text.
-- Assumes nothing.
use Rattle.std.proofs.Common.{◌≡◌, ℕ, ◌+◌, List, [], ◌∷◌, ◌++◌, replicate, sym, refl, ap, ◌∙◌, append_assoc}
use Rattle.definitions.specs.Bytes.{Text, text, decimal, hexadecimal}
use Rattle.definitions.specs.Lines.{Expr, Src, Test, Before, Dest, Out, Line, Stmt, expr_text, order_text, type_text, src_text, cast_text, test_text, before_text, dest_text, dest_end, out_text, indent, line_text, lines_text, body_text, stmt_text, stmts_text}

-- f gives bytes of its own, and then the text behind them
pub record Leads (f : Text → Text) : Type 0 where
  pub split : (a t : Text) → f (a ++ t) ≡ f a ++ t

-- nothing, and a piece
pub none : Leads (λ t. t)
none = record { split = λ a t. refl }

pub piece : (p : Text) → Leads (λ t. p ++ t)
piece p = record { split = λ a t. sym (append_assoc p a t) }

-- one and then another
pub ◌▸◌ : {f g : Text → Text} → Leads f → Leads g → Leads (λ t. f (g t))
◌▸◌ {f} {g} l m = record { split = λ a t. ap f (m.split a t) ∙ l.split (g a) t }

infixr 20 ◌▸◌
pub expr-leads : (e : Expr) → Leads (expr_text e)
expr-leads (Expr.lit n) = piece (decimal n)
expr-leads (Expr.var x) = piece x
expr-leads (Expr.size s) = piece s ▸ piece (text ".size()")
expr-leads Expr.turn = piece (text "n")
expr-leads (Expr.bracket e) = piece (text "(") ▸ expr-leads e ▸ piece (text ")")
expr-leads (Expr.add d e) = expr-leads d ▸ piece (text " + ") ▸ expr-leads e
expr-leads (Expr.mul d e) = expr-leads d ▸ piece (text " * ") ▸ expr-leads e
expr-leads (Expr.sub d e) = expr-leads d ▸ piece (text " - ") ▸ expr-leads e
expr-leads (Expr.div d e) = expr-leads d ▸ piece (text " / ") ▸ expr-leads e
expr-leads (Expr.rem d e) = expr-leads d ▸ piece (text " % ") ▸ expr-leads e

type-leads : (w : ℕ) → Leads (type_text w)
type-leads w = piece (text "uint") ▸ piece (decimal w) ▸ piece (text "_t")

pub src-leads : (v : Src) → Leads (src_text v)
src-leads (Src.read s order w n) =
    piece s ▸ piece (text ".read_") ▸ piece (order_text order) ▸ piece (text "<") ▸ type-leads w ▸ piece (text ", ") ▸ piece (decimal n)
    ▸ piece (text ">()")
src-leads (Src.bits x shift mask) =
    piece (text "(") ▸ piece x ▸ piece (text " >> ") ▸ piece (decimal shift) ▸ piece (text ") & ") ▸ piece (hexadecimal mask)
src-leads (Src.held x) = piece x

cast-leads : (type : Text) (v : Src) → Leads (cast_text type v)
cast-leads type v = piece type ▸ piece (text "(") ▸ src-leads v ▸ piece (text ")")

pub test-leads : (c : Test) → Leads (test_text c)
test-leads (Test.less a b) = expr-leads a ▸ piece (text " < ") ▸ expr-leads b
test-leads (Test.ragged a b) = piece (text "(") ▸ expr-leads (Expr.rem a b) ▸ piece (text ") != 0")
test-leads (Test.equal a b) = expr-leads a ▸ piece (text " == ") ▸ expr-leads b
test-leads (Test.ragged_or_zero a b) =
    expr-leads b ▸ piece (text " == 0 || (") ▸ expr-leads (Expr.rem a b) ▸ piece (text ") != 0")
test-leads (Test.divided a b c) =
    expr-leads b ▸ piece (text " != 0 && ") ▸ expr-leads (Expr.div a b) ▸ piece (text " < ") ▸ expr-leads c
test-leads (Test.more s) = piece s ▸ piece (text ".size() > 0")
test-leads (Test.not_parsed type s x) =
    piece (text "!") ▸ piece type ▸ piece (text "::Parse(") ▸ piece s ▸ piece (text ", &") ▸ piece x ▸ piece (text ")")
test-leads (Test.not_valid type x) = piece (text "!IsValid") ▸ piece type ▸ piece (text "(") ▸ piece x ▸ piece (text ")")
test-leads (Test.not_fixed v n) =
    piece (text "static_cast<uint64_t>(") ▸ src-leads v ▸ piece (text ") != ") ▸ piece (hexadecimal n)
test-leads (Test.not_tag type v tag) = cast-leads type v ▸ piece (text " != ") ▸ piece type ▸ piece (text "::") ▸ piece tag

before-leads : (b : Before) → Leads (before_text b)
before-leads Before.old = none
before-leads Before.auto = piece (text "auto ")
before-leads Before.size_t = piece (text "size_t ")
before-leads Before.slice = piece (text "pdl::packet::slice ")
before-leads Before.condition = piece (text "uint8_t ")
before-leads (Before.chunk w) = type-leads w ▸ piece (text " ")

dest-leads : (to : Dest) → Leads (dest_text to)
dest-leads (Dest.slot x) = piece x ▸ piece (text "[n] = ")
dest-leads (Dest.push x) = piece x ▸ piece (text ".push_back(")

end-leads : (to : Dest) → Leads (dest_end to)
end-leads (Dest.slot x) = piece (text ";\n")
end-leads (Dest.push x) = piece (text ");\n")

out-leads : (o : Out) → Leads (out_text o)
out-leads (Out.raw_as type) = piece type ▸ piece (text "(raw_value)")
out-leads Out.out = piece (text "out")
out-leads Out.moved = piece (text "std::move(out)")

indent-leads : (d : ℕ) → Leads (indent d)
indent-leads d = piece (replicate d 32)

pub line-leads : (d : ℕ) (x : Line) → Leads (line_text d x)
line-leads d Line.fail = indent-leads d ▸ piece (text "return false;\n")
line-leads d (Line.must c) = indent-leads d ▸ piece (text "if (") ▸ test-leads c ▸ piece (text ") return false;\n")
line-leads d (Line.check n c) =
    indent-leads d ▸ piece (text "if (") ▸ test-leads c ▸ piece (text ") {\n") ▸ indent-leads (d + n) ▸ piece (text "return false;\n")
    ▸ indent-leads d
    ▸ piece (text "}\n")
line-leads d (Line.set b x v) = indent-leads d ▸ before-leads b ▸ piece x ▸ piece (text " = ") ▸ src-leads v ▸ piece (text ";\n")
line-leads d (Line.set_cast x type v) = indent-leads d ▸ piece x ▸ piece (text " = ") ▸ cast-leads type v ▸ piece (text ";\n")
line-leads d (Line.set_to b x e) = indent-leads d ▸ before-leads b ▸ piece x ▸ piece (text " = ") ▸ expr-leads e ▸ piece (text ";\n")
line-leads d (Line.minus w x n) =
    indent-leads d ▸ piece x ▸ piece (text " = ") ▸ piece x ▸ piece (text " - +") ▸ piece (decimal n) ▸ piece (text ";\n")
line-leads d (Line.plus w x n) =
    indent-leads d ▸ piece x ▸ piece (text " = ") ▸ piece x ▸ piece (text " - -") ▸ piece (decimal n) ▸ piece (text ";\n")
line-leads d (Line.keep x s) = indent-leads d ▸ piece x ▸ piece (text " = ") ▸ piece s ▸ piece (text ";\n")
line-leads d (Line.front b x s n) =
    indent-leads d ▸ before-leads b ▸ piece x ▸ piece (text " = ") ▸ piece s ▸ piece (text ".subrange(0, ") ▸ expr-leads n
    ▸ piece (text ");\n")
line-leads d (Line.part b x s a n) =
    indent-leads d ▸ before-leads b ▸ piece x ▸ piece (text " = ") ▸ piece s ▸ piece (text ".subrange(") ▸ expr-leads a
    ▸ piece (text ", ")
    ▸ expr-leads n
    ▸ piece (text ");\n")
line-leads d (Line.skip s e) = indent-leads d ▸ piece s ▸ piece (text ".skip(") ▸ expr-leads e ▸ piece (text ");\n")
line-leads d (Line.reserved s n) =
    indent-leads d ▸ piece s ▸ piece (text ".skip(") ▸ piece (decimal n) ▸ piece (text "); // skip reserved fields\n")
line-leads d (Line.clear s) = indent-leads d ▸ piece s ▸ piece (text ".clear();\n")
line-leads d (Line.store to v) = indent-leads d ▸ dest-leads to ▸ src-leads v ▸ end-leads to
line-leads d (Line.store_cast to type v) = indent-leads d ▸ dest-leads to ▸ cast-leads type v ▸ end-leads to
line-leads d (Line.place to o) = indent-leads d ▸ dest-leads to ▸ out-leads o ▸ end-leads to
line-leads d (Line.declare type) = indent-leads d ▸ piece type ▸ piece (text " out;\n")
line-leads d (Line.emplace x) = indent-leads d ▸ piece (text "auto& opt_output = ") ▸ piece x ▸ piece (text ".emplace();\n")

pub lines-leads : (d : ℕ) (xs : List Line) → Leads (lines_text d xs)
lines-leads d [] = none
lines-leads d (x ∷ xs) = line-leads d x ▸ lines-leads d xs

body-leads : (xs : List Line) → Leads (body_text xs)
body-leads xs = lines-leads 4 xs ▸ piece (text "}\n")

pub stmt-leads : (s : Stmt) → Leads (stmt_text s)
stmt-leads (Stmt.one x) = line-leads 0 x
stmt-leads (Stmt.when c xs) = piece (text "if (") ▸ test-leads c ▸ piece (text ") {\n") ▸ body-leads xs
stmt-leads (Stmt.count e xs) = piece (text "for (size_t n = 0; n < ") ▸ expr-leads e ▸ piece (text "; n++) {\n") ▸ body-leads xs
stmt-leads (Stmt.recount e xs) = piece (text "for (; n < ") ▸ expr-leads e ▸ piece (text "; n++) {\n") ▸ body-leads xs
stmt-leads (Stmt.while c xs) = piece (text "while (") ▸ test-leads c ▸ piece (text ") {\n") ▸ body-leads xs

pub stmts-leads : (l : List Stmt) → Leads (stmts_text l)
stmts-leads [] = none
stmts-leads (s ∷ l) = stmt-leads s ▸ stmts-leads l
