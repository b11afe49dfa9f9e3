-- Two listings line by line: the same lines, but that a tested enum's bits may be held under two names (`Alike`). The variables that equal lines read
-- are as P says. The lines of blocks, and of the blocks without their numbers, are such (`program-alike`).
-- Assumes nothing.
use mathlib.Core.Bool.{Bool, true, false}
use mathlib.Core.List.{List, [], ◌∷◌, ◌++◌}
use Prim.Native.Nat.{ℕ, ◌/◌}
use Rattle.definitions.specs.Bytes.{Text, text, pick, decimal}
use Rattle.definitions.specs.Lines.{Expr, Src, Test, Before, Dest, Out, Line, Stmt}
use Rattle.definitions.specs.Blocks.{raw, span, element_span, body, check_size, check_product, Kind, Bit, Chunk, widths, read_of, mask, raw_name, next_raw, kind_lines, should_skip_value, chunk_name, bits_lines, read_lines, chunk_lines, chunks_lines, Elem, Array, named, bare, parse_lines, parse_array_element, parse_array_field_lite, parse_array_field_full, by_mode, array_lines, field_lines, Block, start_name, gone, missing, when_is, room_for, block_lines, program}
use Rattle.definitions.specs.declared.Raw.{Raw}
use Rattle.definitions.specs.declared.Products.{Products}
use Rattle.definitions.specs.declared.Options.{Options}
use Rattle.definitions.specs.declared.Arrays.{Arrays}
use Rattle.definitions.specs.declared.Modifier.{Modifier}
use Rattle.definitions.specs.declared.ElementSize.{ElementSize}
use Rattle.definitions.specs.declared.ArraySize.{ArraySize}
use Rattle.numbered.specs.Plainly.{plainly, forget_block, forget}

-- ---- what a tested enum's bits are held in: in the one listing and in the other

pub data RawNames : Text → Text → Type 0 where
  plain : RawNames raw raw
  numbered : (k : ℕ) → RawNames (raw ++ decimal k) raw

-- between two lines: nothing, or two variables that hold the same bits
pub data Link : Type 0 where
  free : Link
  linked : Text → Text → Link

-- the texts of a block that its lines read as variables: a condition, a payload's size
abbrev pub read_texts : Block → List Text
read_texts (Block.checked o n cs) = []
read_texts (Block.sized_payload x s m) = s ∷ []
read_texts (Block.payload_up_to x n) = []
read_texts (Block.payload_to_end x) = []
read_texts (Block.array m w a) = []
read_texts (Block.padded_array p m w a) = []
read_texts (Block.optional_scalar c v order w x) = c ∷ []
read_texts (Block.optional_open c v order w x type) = c ∷ []
read_texts (Block.optional_closed c v order w x type) = c ∷ []
read_texts (Block.optional_nested c v x type) = c ∷ []
read_texts (Block.nested type x) = []
read_texts (Block.nested_up_to id n type x) = []

module _ (P : Text → Type 0) where
  -- ---- the variables that a line reads

  abbrev pub ExprReads : Expr → Type 0
  ExprReads (Expr.lit n) = Unit {0}
  ExprReads (Expr.var x) = P x
  ExprReads (Expr.size s) = Unit {0}
  ExprReads Expr.turn = Unit {0}
  ExprReads (Expr.bracket a) = ExprReads a
  ExprReads (Expr.add a b) = ExprReads a × ExprReads b
  ExprReads (Expr.mul a b) = ExprReads a × ExprReads b
  ExprReads (Expr.sub a b) = ExprReads a × ExprReads b
  ExprReads (Expr.div a b) = ExprReads a × ExprReads b
  ExprReads (Expr.rem a b) = ExprReads a × ExprReads b

  abbrev pub SrcReads : Src → Type 0
  SrcReads (Src.read s order w n) = Unit {0}
  SrcReads (Src.bits x shift mask) = P x
  SrcReads (Src.held x) = P x

  -- `IsValid` answers anything: what it is given does not matter
  abbrev pub TestReads : Test → Type 0
  TestReads (Test.less a b) = ExprReads a × ExprReads b
  TestReads (Test.ragged a b) = ExprReads a × ExprReads b
  TestReads (Test.equal a b) = ExprReads a × ExprReads b
  TestReads (Test.ragged_or_zero a b) = ExprReads a × ExprReads b
  TestReads (Test.divided a b c) = (ExprReads a × ExprReads b) × ExprReads c
  TestReads (Test.more s) = Unit {0}
  TestReads (Test.not_parsed type s x) = Unit {0}
  TestReads (Test.not_valid type x) = Unit {0}
  TestReads (Test.not_fixed v n) = SrcReads v
  TestReads (Test.not_tag type v tag) = SrcReads v

  abbrev pub LineReads : Line → Type 0
  LineReads Line.fail = Unit {0}
  LineReads (Line.must c) = TestReads c
  LineReads (Line.check d c) = TestReads c
  LineReads (Line.set b x v) = SrcReads v
  LineReads (Line.set_cast x type v) = SrcReads v
  LineReads (Line.set_to b x e) = ExprReads e
  LineReads (Line.minus w x n) = P x
  LineReads (Line.plus w x n) = P x
  LineReads (Line.keep x s) = Unit {0}
  LineReads (Line.front b x s n) = ExprReads n
  LineReads (Line.part b x s a n) = ExprReads a × ExprReads n
  LineReads (Line.skip s e) = ExprReads e
  LineReads (Line.reserved s n) = Unit {0}
  LineReads (Line.clear s) = Unit {0}
  LineReads (Line.store to v) = SrcReads v
  LineReads (Line.store_cast to type v) = SrcReads v
  LineReads (Line.place to o) = Unit {0}
  LineReads (Line.declare type) = Unit {0}
  LineReads (Line.emplace x) = Unit {0}

  -- ---- two lines, with what is linked before and behind them

  pub data LineAs : Link → Line → Line → Link → Type 0 where
    same : {j : Link} (x : Line) → LineReads x → LineAs j x x Link.free
    sets : {r q : Text} (v : Src) → RawNames r q → SrcReads v
        → LineAs Link.free (Line.set Before.auto r v) (Line.set Before.auto q v) (Link.linked r q)
    tests : {r q : Text} (d : ℕ) (type : Text) → RawNames r q
        → LineAs (Link.linked r q) (Line.check d (Test.not_valid type r)) (Line.check d (Test.not_valid type q)) (Link.linked r q)
    -- the `return false;` of a test that holds
    fails : {j : Link} → LineAs j Line.fail Line.fail j
    casts : {r q : Text} (x type : Text) → RawNames r q
        → LineAs (Link.linked r q) (Line.set_cast x type (Src.held r)) (Line.set_cast x type (Src.held q)) Link.free

  pub data Lines : Link → List Line → List Line → Type 0 where
    done : Lines Link.free [] []
    next : {j k : Link} {x y : Line} {xs ys : List Line} → LineAs j x y k → Lines k xs ys → Lines j (x ∷ xs) (y ∷ ys)

  abbrev pub StmtReads : Stmt → Type 0
  StmtReads (Stmt.one x) = LineReads x
  StmtReads (Stmt.when c b) = TestReads c × Lines Link.free b b
  StmtReads (Stmt.count e b) = ExprReads e × Lines Link.free b b
  StmtReads (Stmt.recount e b) = ExprReads e × Lines Link.free b b
  StmtReads (Stmt.while c b) = TestReads c × Lines Link.free b b

  pub data Alike : Link → List Stmt → List Stmt → Type 0 where
    done : Alike Link.free [] []
    line : {j k : Link} {x y : Line} {l m : List Stmt} → LineAs j x y k → Alike k l m → Alike j (Stmt.one x ∷ l) (Stmt.one y ∷ m)
    same : (s : Stmt) {l m : List Stmt} → StmtReads s → Alike Link.free l m → Alike Link.free (s ∷ l) (s ∷ m)

  lines-append : {j : Link} {a b c d : List Line} → Lines j a c → Lines Link.free b d → Lines j (a ++ b) (c ++ d)
  lines-append Lines.done k = k
  lines-append (Lines.next x h) k = Lines.next x (lines-append h k)

  pub body_alike : {j : Link} {b c : List Line} {l m : List Stmt} → Lines j b c → Alike Link.free l m → Alike j (body b l) (body c m)
  body_alike Lines.done k = k
  body_alike (Lines.next x h) k = Alike.line x (body_alike h k)

  -- ---- checked runs

  raw-names : (m : Raw) (k : ℕ) → RawNames (raw_name m k) raw
  raw-names Raw.Plain k = RawNames.plain
  raw-names Raw.Numbered k = RawNames.numbered k

  one_line : (x : Line) → LineReads x → Lines Link.free (x ∷ []) (x ∷ [])
  one_line x h = Lines.next (LineAs.same x h) Lines.done

  kind-lines : (r : Text) → RawNames r raw → (v : Src) → SrcReads v → (k : Kind) → Lines Link.free (kind_lines r v k) (kind_lines raw v k)
  kind-lines r n v h (Kind.number x) = one_line (Line.set Before.old x v) h
  kind-lines r n v h (Kind.condition x) = one_line (Line.set Before.condition x v) h
  kind-lines r n v h (Kind.open_enum x type) = one_line (Line.set_cast x type v) h
  kind-lines r n v h (Kind.closed_enum x type) =
      Lines.next (LineAs.sets v n h) (Lines.next (LineAs.tests 3 type n) (Lines.next (LineAs.casts x type n) Lines.done))
  kind-lines r n v h (Kind.fixed_scalar k) = one_line (Line.check 4 (Test.not_fixed v k)) h
  kind-lines r n v h (Kind.fixed_enum type tag) = one_line (Line.check 4 (Test.not_tag type v tag)) h
  kind-lines r n v h Kind.reserved = Lines.done

  bits-lines : (m : Raw) (x : Text) → P x → (k : ℕ) (bs : List Bit) → Lines Link.free (bits_lines m x k bs) (bits_lines Raw.Plain x k bs)
  bits-lines m x h k [] = Lines.done
  bits-lines m x h k (b ∷ bs) =
      lines-append (kind-lines (raw_name m k) (raw-names m k) (Src.bits x b.shift (mask b.width)) h b.kind)
      (bits-lines m x h (next_raw k b.kind) bs)

  module _ (chunk : (nr : ℕ) → P (chunk_name nr)) (o : Options) where
    read-lines : (nr k w : ℕ) (bs : List Bit) → Lines Link.free (read_lines o nr k w bs) (read_lines (plainly o) nr k w bs)
    read-lines nr k w [] = Lines.done
    read-lines nr k w (b ∷ []) = kind-lines (raw_name o.raw k) (raw-names o.raw k) (read_of span o.endianness w) tt b.kind
    read-lines nr k w (b ∷ d ∷ bs) = Lines.next (LineAs.same _ tt) (bits-lines o.raw (chunk_name nr) (chunk nr) k (b ∷ d ∷ bs))

    chunk-lines : (c : Chunk) → Lines Link.free (chunk_lines o c) (chunk_lines (plainly o) c)
    chunk-lines c = by (should_skip_value c.fields)
      where
        at : Options → Bool → List Line
        at p skips = pick skips (Line.reserved span (widths c.fields / 8) ∷ []) (read_lines p c.nr c.raw_nr (widths c.fields) c.fields)

        by : (skips : Bool) → Lines Link.free (at o skips) (at (plainly o) skips)
        by true = one_line _ tt
        by false = read-lines c.nr c.raw_nr (widths c.fields) c.fields

    chunks-lines : (cs : List Chunk) → Lines Link.free (chunks_lines o cs) (chunks_lines (plainly o) cs)
    chunks-lines [] = Lines.done
    chunks-lines (c ∷ cs) = lines-append (chunk-lines c) (chunks-lines cs)

  -- ---- the other blocks: the same lines

  -- what their lines read, by their names
  pub record HasNames : Type 0 where
    pub chunk : (nr : ℕ) → P (chunk_name nr)
    pub size : (m : Arrays) (id : Text) → P (named m id (text "_size_"))
    pub count : (m : Arrays) (id : Text) → P (named m id (text "_count_"))
    pub element : (m : Arrays) (id : Text) → P (named m id (text "_element_size_"))
    pub own : (id : Text) → P (bare id (text "_count_"))
    pub begin : (id : Text) → P (start_name id)

  -- and by a text of the block
  abbrev pub AllOf : List Text → Type 0
  AllOf [] = Unit {0}
  AllOf (x ∷ xs) = P x × AllOf xs

  abbrev pub BlocksRead : List Block → Type 0
  BlocksRead [] = Unit {0}
  BlocksRead (b ∷ bs) = AllOf (read_texts b) × BlocksRead bs

  element-lines : (s : Text) (e : Elem) (d : Dest) (o : Out) → Lines Link.free (parse_array_element s e d o) (parse_array_element s e d o)
  element-lines s (Elem.scalar order w) d o = one_line _ tt
  element-lines s (Elem.open_enum type order w) d o = one_line _ tt
  element-lines s (Elem.closed_enum type order w) d o =
      Lines.next (LineAs.sets _ RawNames.plain tt) (Lines.next (LineAs.tests 4 type RawNames.plain) (Lines.next (LineAs.same _ tt) Lines.done))
  element-lines s (Elem.parsed type) d o = Lines.next (LineAs.same _ tt) (Lines.next (LineAs.same _ tt) (one_line _ tt))

  parse-lines : (type s : Text) → Lines Link.free (parse_lines type s) (parse_lines type s)
  parse-lines type s = Lines.next (LineAs.same _ tt) (one_line _ tt)

  room-line : (n : ℕ) {b c : List Line} → Lines Link.free b c → Lines Link.free (check_size (Expr.lit n) ∷ b) (check_size (Expr.lit n) ∷ c)
  room-line n k = Lines.next (LineAs.same (check_size (Expr.lit n)) (tt, tt)) k

  product-reads : (o : Products) (a b : Expr) → ExprReads a → ExprReads b → LineReads (check_product o a b)
  product-reads Products.Plain a b h k = (tt, (h, k))
  product-reads Products.Divide a b h k = ((tt, h), k)

  -- behind a padded array
  abbrev padding_lines : Text → ℕ → List Line
  padding_lines z p = room_for (missing z p) ∷ Line.skip span (missing z p) ∷ []

  padding-lines : (z : Text) (p : ℕ) → P z → Lines Link.free (padding_lines z p) (padding_lines z p)
  padding-lines z p h =
      Lines.next (LineAs.same (room_for (missing z p)) (tt, (tt, (h, tt)))) (one_line (Line.skip span (missing z p)) (tt, (h, tt)))

  module _ (has : HasNames) where
    module _ (o : Products) (id type : Text) (elem : Elem) {l m : List Stmt} (behind : Alike Link.free l m) where
      -- the variables of this array
      size_of : (a : Arrays) → P (named a id (text "_size_"))
      size_of a = has.size a id

      count_of : (a : Arrays) → P (named a id (text "_count_"))
      count_of a = has.count a id

      element-of : (a : Arrays) → P (named a id (text "_element_size_"))
      element-of a = has.element a id

      own_of : P (bare id (text "_count_"))
      own_of = has.own id

      -- the part of an element
      abbrev cut-part : Line
      cut-part =
          let e : Expr = Expr.var (named Arrays.Full id (text "_element_size_")) in
          Line.part Before.auto element_span span (Expr.mul Expr.turn e) e

      in-part : (d : Dest) (x : Out)
          → Lines Link.free (cut-part ∷ parse_array_element element_span (Elem.parsed type) d x) (cut-part ∷ parse_array_element element_span (Elem.parsed type) d x)
      in-part d x = Lines.next (LineAs.same cut-part ((tt, element-of Arrays.Full), element-of Arrays.Full)) (element-lines element_span (Elem.parsed type) d x)

      ruleset steps = (size_of, count_of, element-of, own_of, Alike.same, product-reads, parse-lines, element-lines)

      lite-alike : (w : ElementSize) (n : ArraySize) → Alike Link.free (parse_array_field_lite o id type elem l w n) (parse_array_field_lite o id type elem m w n)
      lite-alike (ElementSize.Static es) (ArraySize.StaticCount n) = search steps depth 20
      lite-alike (ElementSize.Static es) ArraySize.DynamicCount = search steps depth 20
      lite-alike (ElementSize.Static es) ArraySize.DynamicSize = search steps depth 20
      lite-alike (ElementSize.Static es) ArraySize.Unknown = search steps depth 20
      lite-alike ElementSize.Dynamic (ArraySize.StaticCount n) = search steps depth 20
      lite-alike ElementSize.Dynamic ArraySize.DynamicCount = search steps depth 20
      lite-alike ElementSize.Dynamic ArraySize.DynamicSize = search steps depth 20
      lite-alike ElementSize.Dynamic ArraySize.Unknown = search steps depth 20
      lite-alike ElementSize.Unknown (ArraySize.StaticCount n) = search steps depth 20
      lite-alike ElementSize.Unknown ArraySize.DynamicCount = search steps depth 20
      lite-alike ElementSize.Unknown ArraySize.DynamicSize = search steps depth 20
      lite-alike ElementSize.Unknown ArraySize.Unknown = search steps depth 20

      full-alike : (w : ElementSize) (n : ArraySize) → Alike Link.free (parse_array_field_full o id type elem l w n) (parse_array_field_full o id type elem m w n)
      full-alike (ElementSize.Static es) (ArraySize.StaticCount n) = search steps depth 20
      full-alike (ElementSize.Static es) ArraySize.DynamicCount = search steps depth 20
      full-alike (ElementSize.Static es) ArraySize.DynamicSize = search steps depth 20
      full-alike (ElementSize.Static es) ArraySize.Unknown = search steps depth 20
      full-alike ElementSize.Dynamic (ArraySize.StaticCount n) = search (steps, in-part) depth 20
      full-alike ElementSize.Dynamic ArraySize.DynamicCount = search (steps, in-part) depth 20
      full-alike ElementSize.Dynamic ArraySize.DynamicSize = search (steps, in-part) depth 20
      full-alike ElementSize.Dynamic ArraySize.Unknown = search (steps, in-part) depth 20
      full-alike ElementSize.Unknown (ArraySize.StaticCount n) = search steps depth 20
      full-alike ElementSize.Unknown ArraySize.DynamicCount = search steps depth 20
      full-alike ElementSize.Unknown ArraySize.DynamicSize = search steps depth 20
      full-alike ElementSize.Unknown ArraySize.Unknown = search steps depth 20

    array-alike : (a : Array) {l m : List Stmt} → Alike Link.free l m → Alike Link.free (array_lines a l) (array_lines a m)
    array-alike a {l} {m} k = by a.mode
      where
        by : (x : Arrays)
            → Alike Link.free (by_mode x a.products a.id a.type a.elem l a.element_size a.array_size)
            (by_mode x a.products a.id a.type a.elem m a.element_size a.array_size)
        by Arrays.Lite = lite-alike a.products a.id a.type a.elem k a.element_size a.array_size
        by Arrays.Full = full-alike a.products a.id a.type a.elem k a.element_size a.array_size

    field_alike : (x : Modifier) (w : ℕ) (a : Array) {l m : List Stmt} → Alike Link.free l m → Alike Link.free (field_lines x w a l) (field_lines x w a m)
    field_alike Modifier.None w a k = array-alike a k
    field_alike (Modifier.Plus n) w a k = Alike.same _ (has.size a.mode a.id) (array-alike a k)
    field_alike (Modifier.Minus n) w a k = Alike.same _ (has.size a.mode a.id) (array-alike a k)

    -- the lines of an optional field
    when-alike : (c : Text) (v : ℕ) (b : List Line) {l m : List Stmt} → P c → Lines Link.free b b → Alike Link.free l m
        → Alike Link.free (when_is c v b ∷ l) (when_is c v b ∷ m)
    when-alike c v b h k rest = Alike.same (when_is c v b) ((h, tt), k) rest

    block-alike : (b : Block) {l m : List Stmt} → AllOf (read_texts b) → Alike Link.free l m → Alike Link.free (block_lines b l) (block_lines (forget_block b) m)
    block-alike (Block.checked o n cs) h k = Alike.same (Stmt.one (check_size (Expr.lit n))) (tt, tt) (body_alike (chunks-lines has.chunk o cs) k)
    block-alike (Block.sized_payload x s Modifier.None) h k = search Alike.same depth 20
    block-alike (Block.sized_payload x s (Modifier.Plus n)) h k = search Alike.same depth 20
    block-alike (Block.sized_payload x s (Modifier.Minus n)) h k = search Alike.same depth 20
    block-alike (Block.payload_up_to x n) h k = search Alike.same depth 20
    block-alike (Block.payload_to_end x) h k = search Alike.same depth 20
    block-alike (Block.array x w a) h k = field_alike x w a k
    block-alike (Block.padded_array p x w a) _ k =
        let z : Text = start_name a.id in
        let h : P z = has.begin a.id in
        Alike.same _ tt
        (field_alike x w a
        (Alike.same (Stmt.when (Test.less (gone z) (Expr.lit p)) (padding_lines z p)) (((h, tt), tt), padding-lines z p h) k))
    block-alike (Block.optional_scalar c v order w x) h k = when-alike c v _ h.0 (room-line (w / 8) (one_line _ tt)) k
    block-alike (Block.optional_open c v order w x type) h k = when-alike c v _ h.0 (room-line (w / 8) (one_line _ tt)) k
    block-alike (Block.optional_closed c v order w x type) h k =
        when-alike c v _ h.0 (room-line (w / 8) (kind-lines raw RawNames.plain (read_of span order w) tt (Kind.closed_enum x type))) k
    block-alike (Block.optional_nested c v x type) h k = when-alike c v _ h.0 (Lines.next (LineAs.same _ tt) (one_line _ tt)) k
    block-alike (Block.nested type x) h k = search Alike.same depth 20
    block-alike (Block.nested_up_to id n type x) h k = search Alike.same depth 20

    pub program-alike : (bs : List Block) → BlocksRead bs → Alike Link.free (program bs) (program (forget bs))
    program-alike [] h = Alike.done
    program-alike (b ∷ bs) h = block-alike b h.0 (program-alike bs h.1)
