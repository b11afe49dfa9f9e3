-- The C++ lines that a lowering emits, as a type, and their bytes. A variable and a span are known by their written text. There are two levels
-- and no recursion: a line, and a line with a body of lines in braces.
-- Assumes nothing.
use Rattle.std.specs.Prelude.{ℕ, ◌+◌, List, [], ◌∷◌, ◌++◌, replicate}
use Rattle.definitions.specs.Bytes.{Text, text, decimal, hexadecimal}
use Rattle.definitions.specs.declared.EndiannessValue.{EndiannessValue}

-- what stands in a size: number, variable, `s.size()`, the `n` of the loop around, `(e)`, and the five operations
pub data Expr : Type 0 where
  lit : ℕ → Expr
  var : Text → Expr
  size : Text → Expr
  turn : Expr
  bracket : Expr → Expr
  add mul sub div rem : Expr → Expr → Expr

-- where an assigned number comes from: `s.read_le<uintW_t, N>()`, `(x >> shift) & mask`, a variable
pub data Src : Type 0 where
  read : Text → EndiannessValue → ℕ → ℕ → Src
  bits : Text → ℕ → ℕ → Src
  held : Text → Src

-- what an `if` or a `while` asks
pub data Test : Type 0 where
  -- `a < b`
  less : Expr → Expr → Test
  -- `(a % b) != 0`
  ragged : Expr → Expr → Test
  -- `a == b`
  equal : Expr → Expr → Test
  -- `b == 0 || (a % b) != 0`
  ragged_or_zero : Expr → Expr → Test
  -- `b != 0 && a / b < c` (document 02, Card 8)
  divided : Expr → Expr → Expr → Test
  -- `s.size() > 0`
  more : Text → Test
  -- `!T::Parse(s, &x)`
  not_parsed : Text → Text → Text → Test
  -- `!IsValidT(x)`
  not_valid : Text → Text → Test
  -- `static_cast<uint64_t>(v) != 0x1f`
  not_fixed : Src → ℕ → Test
  -- `T(v) != T::TAG`
  not_tag : Text → Src → Text → Test

-- what stands before the name that is set: nothing, `auto `, `size_t `, `pdl::packet::slice `,
-- `uintW_t ` of a chunk, `uint8_t ` of a condition, which is kept in 8 bits
pub data Before : Type 0 where
  old auto size_t slice condition : Before
  chunk : ℕ → Before

-- where an element goes: `x[n] = V;`, `x.push_back(V);`
pub data Dest : Type 0 where
  slot push : Text → Dest

-- what goes there: `T(raw_value)`, `out`, `std::move(out)`
pub data Out : Type 0 where
  raw_as : Text → Out
  out moved : Out

pub data Line : Type 0 where
  -- `return false;`
  fail : Line
  -- `if (t) return false;`
  must : Test → Line
  -- `if (t) {`, `return false;` so many spaces deeper, `}`
  check : ℕ → Test → Line
  -- `B x = v;`
  set : Before → Text → Src → Line
  -- `x = T(v);`
  set_cast : Text → Text → Src → Line
  -- `B x = e;`
  set_to : Before → Text → Expr → Line
  -- `x = x - +5;`, `x = x - -5;` of a variable so many bits wide
  minus plus : ℕ → Text → ℕ → Line
  -- `x = s;`
  keep : Text → Text → Line
  -- `B x = s.subrange(0, n);`
  front : Before → Text → Text → Expr → Line
  -- `B x = s.subrange(a, n);`
  part : Before → Text → Text → Expr → Expr → Line
  -- `s.skip(e);`
  skip : Text → Expr → Line
  -- `s.skip(n); // skip reserved fields`
  reserved : Text → ℕ → Line
  -- `s.clear();`
  clear : Text → Line
  -- an element that is read where it is stored: `x[n] = v;`, and `x[n] = T(v);`
  store : Dest → Src → Line
  store_cast : Dest → Text → Src → Line
  -- the rest neither read nor change a span or a number. An element that was read before: `x[n] = out;`
  place : Dest → Out → Line
  -- `T out;`
  declare : Text → Line
  -- `auto& opt_output = x.emplace();`
  emplace : Text → Line

pub data Stmt : Type 0 where
  one : Line → Stmt
  -- `if (t) {` .. `}`
  when : Test → List Line → Stmt
  -- `for (size_t n = 0; n < e; n++) {` .. `}`
  count : Expr → List Line → Stmt
  -- the same loop, met again: n goes up first. Only a run of the lines makes it; `for (; n < e; n++) {` .. `}`, a text that no listing has
  recount : Expr → List Line → Stmt
  -- `while (t) {` .. `}`
  while : Test → List Line → Stmt

-- ---- bytes: each text stands before the text `t` that follows it

abbrev pub expr_text : Expr → Text → Text
expr_text (Expr.lit n) t = decimal n ++ t
expr_text (Expr.var x) t = x ++ t
expr_text (Expr.size s) t = s ++ (text ".size()" ++ t)
expr_text Expr.turn t = text "n" ++ t
expr_text (Expr.bracket a) t = text "(" ++ expr_text a (text ")" ++ t)
expr_text (Expr.add a b) t = expr_text a (text " + " ++ expr_text b t)
expr_text (Expr.mul a b) t = expr_text a (text " * " ++ expr_text b t)
expr_text (Expr.sub a b) t = expr_text a (text " - " ++ expr_text b t)
expr_text (Expr.div a b) t = expr_text a (text " / " ++ expr_text b t)
expr_text (Expr.rem a b) t = expr_text a (text " % " ++ expr_text b t)

abbrev pub order_text : EndiannessValue → Text
order_text EndiannessValue.LittleEndian = text "le"
order_text EndiannessValue.BigEndian = text "be"

-- `uintW_t`
abbrev pub type_text : ℕ → Text → Text
type_text w t = text "uint" ++ (decimal w ++ (text "_t" ++ t))

abbrev pub src_text : Src → Text → Text
src_text (Src.read s order w n) t =
    s ++ (text ".read_" ++ (order_text order ++ (text "<" ++ type_text w (text ", " ++ (decimal n ++ (text ">()" ++ t))))))
src_text (Src.bits x shift mask) t =
    text "(" ++ (x ++ (text " >> " ++ (decimal shift ++ (text ") & " ++ (hexadecimal mask ++ t)))))
src_text (Src.held x) t = x ++ t

-- `T(v)`
abbrev pub cast_text : Text → Src → Text → Text
cast_text type v t = type ++ (text "(" ++ src_text v (text ")" ++ t))

abbrev pub test_text : Test → Text → Text
test_text (Test.less a b) t = expr_text a (text " < " ++ expr_text b t)
test_text (Test.ragged a b) t = text "(" ++ expr_text (Expr.rem a b) (text ") != 0" ++ t)
test_text (Test.equal a b) t = expr_text a (text " == " ++ expr_text b t)
test_text (Test.ragged_or_zero a b) t = expr_text b (text " == 0 || (" ++ expr_text (Expr.rem a b) (text ") != 0" ++ t))
test_text (Test.divided a b c) t = expr_text b (text " != 0 && " ++ expr_text (Expr.div a b) (text " < " ++ expr_text c t))
test_text (Test.more s) t = s ++ (text ".size() > 0" ++ t)
test_text (Test.not_parsed type s x) t = text "!" ++ (type ++ (text "::Parse(" ++ (s ++ (text ", &" ++ (x ++ (text ")" ++ t))))))
test_text (Test.not_valid type x) t = text "!IsValid" ++ (type ++ (text "(" ++ (x ++ (text ")" ++ t))))
test_text (Test.not_fixed v n) t = text "static_cast<uint64_t>(" ++ src_text v (text ") != " ++ (hexadecimal n ++ t))
test_text (Test.not_tag type v tag) t = cast_text type v (text " != " ++ (type ++ (text "::" ++ (tag ++ t))))

abbrev pub before_text : Before → Text → Text
before_text Before.old t = t
before_text Before.auto t = text "auto " ++ t
before_text Before.size_t t = text "size_t " ++ t
before_text Before.slice t = text "pdl::packet::slice " ++ t
before_text Before.condition t = text "uint8_t " ++ t
before_text (Before.chunk w) t = type_text w (text " " ++ t)

-- what stands before the element, and behind it
abbrev pub dest_text : Dest → Text → Text
dest_text (Dest.slot x) t = x ++ (text "[n] = " ++ t)
dest_text (Dest.push x) t = x ++ (text ".push_back(" ++ t)

abbrev pub dest_end : Dest → Text → Text
dest_end (Dest.slot x) t = text ";\n" ++ t
dest_end (Dest.push x) t = text ");\n" ++ t

abbrev pub out_text : Out → Text → Text
out_text (Out.raw_as type) t = type ++ (text "(raw_value)" ++ t)
out_text Out.out t = text "out" ++ t
out_text Out.moved t = text "std::move(out)" ++ t

-- so many spaces
abbrev pub indent : ℕ → Text → Text
indent d t = replicate d 32 ++ t

-- a line at an indent, with its newline
abbrev pub line_text : ℕ → Line → Text → Text
line_text d Line.fail t = indent d (text "return false;\n" ++ t)
line_text d (Line.must c) t = indent d (text "if (" ++ test_text c (text ") return false;\n" ++ t))
line_text d (Line.check n c) t =
    indent d (text "if (" ++ test_text c (text ") {\n" ++ indent (d + n) (text "return false;\n" ++ indent d (text "}\n" ++ t))))
line_text d (Line.set b x v) t = indent d (before_text b (x ++ (text " = " ++ src_text v (text ";\n" ++ t))))
line_text d (Line.set_cast x type v) t = indent d (x ++ (text " = " ++ cast_text type v (text ";\n" ++ t)))
line_text d (Line.set_to b x e) t = indent d (before_text b (x ++ (text " = " ++ expr_text e (text ";\n" ++ t))))
line_text d (Line.minus w x n) t = indent d (x ++ (text " = " ++ (x ++ (text " - +" ++ (decimal n ++ (text ";\n" ++ t))))))
line_text d (Line.plus w x n) t = indent d (x ++ (text " = " ++ (x ++ (text " - -" ++ (decimal n ++ (text ";\n" ++ t))))))
line_text d (Line.keep x s) t = indent d (x ++ (text " = " ++ (s ++ (text ";\n" ++ t))))
line_text d (Line.front b x s n) t =
    indent d (before_text b (x ++ (text " = " ++ (s ++ (text ".subrange(0, " ++ expr_text n (text ");\n" ++ t))))))
line_text d (Line.part b x s a n) t =
    indent d (before_text b (x ++ (text " = " ++ (s ++ (text ".subrange(" ++ expr_text a (text ", " ++ expr_text n (text ");\n" ++ t)))))))
line_text d (Line.skip s e) t = indent d (s ++ (text ".skip(" ++ expr_text e (text ");\n" ++ t)))
line_text d (Line.reserved s n) t = indent d (s ++ (text ".skip(" ++ (decimal n ++ (text "); // skip reserved fields\n" ++ t))))
line_text d (Line.clear s) t = indent d (s ++ (text ".clear();\n" ++ t))
line_text d (Line.store to v) t = indent d (dest_text to (src_text v (dest_end to t)))
line_text d (Line.store_cast to type v) t = indent d (dest_text to (cast_text type v (dest_end to t)))
line_text d (Line.place to o) t = indent d (dest_text to (out_text o (dest_end to t)))
line_text d (Line.declare type) t = indent d (type ++ (text " out;\n" ++ t))
line_text d (Line.emplace x) t = indent d (text "auto& opt_output = " ++ (x ++ (text ".emplace();\n" ++ t)))

abbrev pub lines_text : ℕ → List Line → Text → Text
lines_text d [] t = t
lines_text d (x ∷ xs) t = line_text d x (lines_text d xs t)

-- the body of a loop or of an `if`, and its brace
abbrev pub body_text : List Line → Text → Text
body_text body t = lines_text 4 body (text "}\n" ++ t)

abbrev pub stmt_text : Stmt → Text → Text
stmt_text (Stmt.one x) t = line_text 0 x t
stmt_text (Stmt.when c body) t = text "if (" ++ test_text c (text ") {\n" ++ body_text body t)
stmt_text (Stmt.count e body) t = text "for (size_t n = 0; n < " ++ expr_text e (text "; n++) {\n" ++ body_text body t)
stmt_text (Stmt.recount e body) t = text "for (; n < " ++ expr_text e (text "; n++) {\n" ++ body_text body t)
stmt_text (Stmt.while c body) t = text "while (" ++ test_text c (text ") {\n" ++ body_text body t)

abbrev pub stmts_text : List Stmt → Text → Text
stmts_text [] t = t
stmts_text (s ∷ l) t = stmt_text s (stmts_text l t)

-- all the lines
abbrev pub render : List Stmt → Text
render l = stmts_text l []
