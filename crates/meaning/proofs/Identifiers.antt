-- No identifier that the lines of an accepted record print is a keyword of C++17 (document 02, Card 6). Read `names-free`, `identifiers-free` and
-- `members-free` at the end first.
-- Assumes nothing.
use mathlib.Core.Bool.{Bool, true, false, ◌||◌}
use mathlib.Core.List.{List, [], ◌∷◌, ◌++◌}
use mathlib.Core.Path.{◌≡◌, refl, ap, ◌∙◌}
use Prim.Native.Nat.{ℕ, ◌/◌}
use Rattle.definitions.specs.Bytes.{Text, text, pick, any}
use Rattle.definitions.specs.Keywords.{keywords, is_keyword}
use Rattle.definitions.specs.Record.{Declaration, record_is, read_record}
use Rattle.definitions.specs.Refusals.{record_names, any_keyword}
use Rattle.definitions.specs.Lines.{Src, Dest, Out, Line, Stmt}
use Rattle.definitions.specs.Blocks.{span, element_span, Kind, Bit, Chunk, mask, read_of, raw_name, next_raw, kind_lines, bits_lines, read_lines, should_skip_value, widths, chunk_name, chunk_lines, chunks_lines, body, named, bare, Elem, parse_array_element, parse_array_field_lite, parse_array_field_full, by_mode, Array, array_lines, field_lines, Block, block_lines, program}
use Rattle.definitions.specs.FieldParser.{accepted}
use Rattle.definitions.specs.Answer.{answer}
use Rattle.definitions.specs.declared.Raw.{Raw}
use Rattle.definitions.specs.declared.Options.{Options}
use Rattle.definitions.specs.declared.Arrays.{Arrays}
use Rattle.definitions.specs.declared.Modifier.{Modifier}
use Rattle.definitions.specs.declared.ElementSize.{ElementSize}
use Rattle.definitions.specs.declared.ArraySize.{ArraySize}
use Rattle.definitions.specs.declared.Products.{Products}
use Rattle.definitions.specs.declared.Head.{Head}
use Rattle.meaning.specs.Identifiers.{turn, expr_ids, src_ids, test_ids, dest_ids, out_ids, line_ids, lines_ids, stmt_ids, identifiers, behind_arrow}
use Rattle.meaning.proofs.Keywords.{NotKeyword, span-end, start-end, bare-free, named-free, chunk-free, raw-free, tested-free}
use Rattle.meaning.proofs.Entries.{no-keyword}
use Rattle.meaning.proofs.Unreserved.{KindNames, BitsNames, ChunksNames, ElemNames, ArrayNames, BlockNames, BlocksNames, blocks-names}

-- none of these texts is a keyword
abbrev Free : List Text → Type 0
Free [] = Unit {0}
Free (x ∷ xs) = NotKeyword x × Free xs

-- ---- the words that are fixed

span-free : NotKeyword span
unfolding keywords is_keyword
span-free = record { whole = refl; behind = refl }

part_free : NotKeyword element_span
unfolding keywords is_keyword
part_free = record { whole = refl; behind = refl }

turn-free : NotKeyword turn
unfolding keywords is_keyword
turn-free = record { whole = refl; behind = refl }

out-free : NotKeyword (text "out")
unfolding keywords is_keyword
out-free = record { whole = refl; behind = refl }

optional-free : NotKeyword (text "opt_output")
unfolding keywords is_keyword
optional-free = record { whole = refl; behind = refl }

ruleset fixed = (span-free, raw-free, part_free, turn-free, out-free, optional-free)

-- ---- lines in a row

abbrev LinesFree : List Line → Type 0
LinesFree [] = Unit {0}
LinesFree (x ∷ xs) = Free (line_ids x) × LinesFree xs

abbrev StmtFree : Stmt → Type 0
StmtFree (Stmt.one x) = Free (line_ids x)
StmtFree (Stmt.when c b) = Free (test_ids c) × LinesFree b
StmtFree (Stmt.count e b) = Free (expr_ids e) × LinesFree b
StmtFree (Stmt.recount e b) = Free (expr_ids e) × LinesFree b
StmtFree (Stmt.while c b) = Free (test_ids c) × LinesFree b

abbrev StmtsFree : List Stmt → Type 0
StmtsFree [] = Unit {0}
StmtsFree (s ∷ l) = StmtFree s × StmtsFree l

both-free : (a b : List Text) → Free a → Free b → Free (a ++ b)
both-free [] b h k = k
both-free (x ∷ a) b h k = (h.0, both-free a b h.1 k)

append-free : (a b : List Line) → LinesFree a → LinesFree b → LinesFree (a ++ b)
append-free [] b h k = k
append-free (x ∷ a) b h k = (h.0, append-free a b h.1 k)

body-free : (b : List Line) (l : List Stmt) → LinesFree b → StmtsFree l → StmtsFree (body b l)
body-free [] l h k = k
body-free (x ∷ b) l h k = (h.0, body-free b l h.1 k)

-- ---- checked runs

kind-free : (r : Text) (v : Src) (k : Kind) → NotKeyword r → Free (src_ids v) → KindNames NotKeyword k → LinesFree (kind_lines r v k)
kind-free r v (Kind.number x) f h k = ((k, h), tt)
kind-free r v (Kind.condition x) f h k = ((k, h), tt)
kind-free r v (Kind.open_enum x type) f h k = ((k.0, (k.1, h)), tt)
kind-free r v (Kind.closed_enum x type) f h k = ((f, h), ((k.1, (f, tt)), ((k.0, (k.1, (f, tt))), tt)))
kind-free r v (Kind.fixed_scalar n) f h k = (h, tt)
kind-free r v (Kind.fixed_enum type tag) f h k = ((k.0, (k.1, h)), tt)
kind-free r v Kind.reserved f h k = tt

bits-free : (m : Raw) (x : Text) (n : ℕ) (bs : List Bit) → NotKeyword x → BitsNames NotKeyword bs → LinesFree (bits_lines m x n bs)
bits-free m x n [] h k = tt
bits-free m x n (b ∷ bs) h k =
    let v : Src = Src.bits x b.shift (mask b.width) in
    append-free (kind_lines (raw_name m n) v b.kind) (bits_lines m x (next_raw n b.kind) bs)
    (kind-free (raw_name m n) v b.kind (tested-free m n) (h, tt) k.0)
    (bits-free m x (next_raw n b.kind) bs h k.1)

read-free : (o : Options) (nr n w : ℕ) (bs : List Bit) → BitsNames NotKeyword bs → LinesFree (read_lines o nr n w bs)
read-free o nr n w [] k = tt
read-free o nr n w (b ∷ []) k =
    kind-free (raw_name o.raw n) (read_of span o.endianness w) b.kind (tested-free o.raw n) (span-free, tt) k.0
read-free o nr n w (b ∷ d ∷ bs) k =
    ((chunk-free nr, (span-free, tt)), bits-free o.raw (chunk_name nr) n (b ∷ d ∷ bs) (chunk-free nr) k)

chunks-free : (o : Options) (cs : List Chunk) → ChunksNames NotKeyword cs → LinesFree (chunks_lines o cs)
chunks-free o [] k = tt
chunks-free o (c ∷ cs) k = append-free (chunk_lines o c) (chunks_lines o cs) (by (should_skip_value c.fields)) (chunks-free o cs k.1)
  where
    by : (skips : Bool)
        → LinesFree (pick skips (Line.reserved span (widths c.fields / 8) ∷ []) (read_lines o c.nr c.raw_nr (widths c.fields) c.fields))
    by true = search fixed
    by false = read-free o c.nr c.raw_nr (widths c.fields) c.fields k.0

-- ---- arrays

element-free : (s : Text) (e : Elem) (d : Dest) (o : Out) → NotKeyword s → ElemNames NotKeyword e → Free (dest_ids d) → Free (out_ids o)
    → LinesFree (parse_array_element s e d o)
element-free s (Elem.scalar order w) d o h k i j = (both-free (dest_ids d) (s ∷ []) i (h, tt), tt)
element-free s (Elem.open_enum type order w) d o h k i j = (both-free (dest_ids d) (type ∷ s ∷ []) i (k, (h, tt)), tt)
element-free s (Elem.closed_enum type order w) d o h k i j = search (fixed, both-free)
element-free s (Elem.parsed type) d o h k i j = search (fixed, both-free)

-- an array; its variables are its name with an end
module _ (id type : Text) (e : Elem) (typed : NotKeyword type) (elem : ElemNames NotKeyword e) (l : List Stmt) (behind : StmtsFree l) where
  array-free : (m : Arrays) → NotKeyword (named m id (text "_"))
  array-free m = named-free m id []

  size-free : (m : Arrays) → NotKeyword (named m id (text "_size_"))
  size-free m = named-free m id (text "_size")

  count-free : (m : Arrays) → NotKeyword (named m id (text "_count_"))
  count-free m = named-free m id (text "_count")

  one_free : (m : Arrays) → NotKeyword (named m id (text "_element_size_"))
  one_free m = named-free m id (text "_element_size")

  own-free : NotKeyword (bare id (text "_count_"))
  own-free = bare-free id (text "_count")

  ruleset variables = (fixed, array-free, size-free, count-free, one_free, own-free)

  lite-free : (o : Products) (w : ElementSize) (n : ArraySize) → StmtsFree (parse_array_field_lite o id type e l w n)
  lite-free o (ElementSize.Static es) (ArraySize.StaticCount n) = search variables depth 20
  lite-free Products.Plain (ElementSize.Static es) ArraySize.DynamicCount = search variables depth 20
  lite-free Products.Divide (ElementSize.Static es) ArraySize.DynamicCount = search variables depth 20
  lite-free o (ElementSize.Static es) ArraySize.DynamicSize = search variables depth 20
  lite-free o (ElementSize.Static es) ArraySize.Unknown = search variables depth 20
  lite-free Products.Plain ElementSize.Dynamic (ArraySize.StaticCount n) = search variables depth 20
  lite-free Products.Divide ElementSize.Dynamic (ArraySize.StaticCount n) = search variables depth 20
  lite-free Products.Plain ElementSize.Dynamic ArraySize.DynamicCount = search variables depth 20
  lite-free Products.Divide ElementSize.Dynamic ArraySize.DynamicCount = search variables depth 20
  lite-free o ElementSize.Dynamic ArraySize.DynamicSize = search variables depth 20
  lite-free o ElementSize.Dynamic ArraySize.Unknown = search variables depth 20
  lite-free o ElementSize.Unknown (ArraySize.StaticCount n) = search variables depth 20
  lite-free o ElementSize.Unknown ArraySize.DynamicCount = search variables depth 20
  lite-free o ElementSize.Unknown ArraySize.DynamicSize = search variables depth 20
  lite-free o ElementSize.Unknown ArraySize.Unknown = search variables depth 20

  -- an element that is stored so
  loop-free : (d : Dest) → Free (dest_ids d) → LinesFree (parse_array_element span e d Out.out)
  loop-free d h = element-free span e d Out.out span-free elem h (out-free, tt)

  full-free : (o : Products) (w : ElementSize) (n : ArraySize) → StmtsFree (parse_array_field_full o id type e l w n)
  full-free o (ElementSize.Static es) (ArraySize.StaticCount n) = search (variables, loop-free) depth 20
  full-free Products.Plain (ElementSize.Static es) ArraySize.DynamicCount = search (variables, loop-free) depth 20
  full-free Products.Divide (ElementSize.Static es) ArraySize.DynamicCount = search (variables, loop-free) depth 20
  full-free o (ElementSize.Static es) ArraySize.DynamicSize = search (variables, loop-free) depth 20
  full-free o (ElementSize.Static es) ArraySize.Unknown = search (variables, loop-free) depth 20
  full-free Products.Plain ElementSize.Dynamic (ArraySize.StaticCount n) = search variables depth 20
  full-free Products.Divide ElementSize.Dynamic (ArraySize.StaticCount n) = search variables depth 20
  full-free Products.Plain ElementSize.Dynamic ArraySize.DynamicCount = search variables depth 20
  full-free Products.Divide ElementSize.Dynamic ArraySize.DynamicCount = search variables depth 20
  full-free o ElementSize.Dynamic ArraySize.DynamicSize = search variables depth 20
  full-free o ElementSize.Dynamic ArraySize.Unknown = search variables depth 20
  full-free o ElementSize.Unknown (ArraySize.StaticCount n) = search variables depth 20
  full-free o ElementSize.Unknown ArraySize.DynamicCount = search variables depth 20
  full-free o ElementSize.Unknown ArraySize.DynamicSize = search (variables, span-end) depth 20
  full-free o ElementSize.Unknown ArraySize.Unknown = search variables depth 20

array-lines : (a : Array) (l : List Stmt) → ArrayNames NotKeyword a → StmtsFree l → StmtsFree (array_lines a l)
array-lines a l h k = by a.mode
  where
    by : (m : Arrays) → StmtsFree (by_mode m a.products a.id a.type a.elem l a.element_size a.array_size)
    by Arrays.Lite = lite-free a.id a.type a.elem h.0 h.1 l k a.products a.element_size a.array_size
    by Arrays.Full = full-free a.id a.type a.elem h.0 h.1 l k a.products a.element_size a.array_size

field-free : (m : Modifier) (w : ℕ) (a : Array) (l : List Stmt) → ArrayNames NotKeyword a → StmtsFree l → StmtsFree (field_lines m w a l)
field-free Modifier.None w a l h k = array-lines a l h k
field-free (Modifier.Plus n) w a l h k = ((named-free a.mode a.id (text "_size"), tt), array-lines a l h k)
field-free (Modifier.Minus n) w a l h k = ((named-free a.mode a.id (text "_size"), tt), array-lines a l h k)

-- ---- blocks

block-free : (b : Block) (l : List Stmt) → BlockNames NotKeyword b → StmtsFree l → StmtsFree (block_lines b l)
block-free (Block.checked o n cs) l h k = ((span-free, tt), body-free (chunks_lines o cs) l (chunks-free o cs h) k)
block-free (Block.sized_payload x s Modifier.None) l h k = search fixed depth 20
block-free (Block.sized_payload x s (Modifier.Plus n)) l h k = search fixed depth 20
block-free (Block.sized_payload x s (Modifier.Minus n)) l h k = search fixed depth 20
block-free (Block.payload_up_to x n) l h k = search fixed depth 20
block-free (Block.payload_to_end x) l h k = search fixed depth 20
block-free (Block.array m w a) l h k = field-free m w a l h k
block-free (Block.padded_array p m w a) l h k =
    ((start-end a.id, (span-free, tt)), field-free m w a _ h (search (fixed, start-end) depth 20))
block-free (Block.optional_scalar c v order w x) l h k = search fixed depth 20
block-free (Block.optional_open c v order w x type) l h k = search fixed depth 20
block-free (Block.optional_closed c v order w x type) l h k = search fixed depth 20
block-free (Block.optional_nested c v x type) l h k = search fixed depth 20
block-free (Block.nested type x) l h k = search fixed depth 20
block-free (Block.nested_up_to id n type x) l h k = search (fixed, span-end) depth 20

program-free : (bs : List Block) → BlocksNames NotKeyword bs → StmtsFree (program bs)
program-free [] h = tt
program-free (b ∷ bs) h = block-free b (program bs) h.0 (program-free bs h.1)

-- ---- the list

lines-free : (b : List Line) → LinesFree b → Free (lines_ids b)
lines-free [] h = tt
lines-free (x ∷ b) h = both-free (line_ids x) (lines_ids b) h.0 (lines-free b h.1)

stmt-free : (s : Stmt) → StmtFree s → Free (stmt_ids s)
stmt-free (Stmt.one x) h = h
stmt-free (Stmt.when c b) h = both-free (test_ids c) (lines_ids b) h.0 (lines-free b h.1)
stmt-free (Stmt.count e b) h = (turn-free, both-free (expr_ids e) (lines_ids b) h.0 (lines-free b h.1))
stmt-free (Stmt.recount e b) h = (turn-free, both-free (expr_ids e) (lines_ids b) h.0 (lines-free b h.1))
stmt-free (Stmt.while c b) h = both-free (test_ids c) (lines_ids b) h.0 (lines-free b h.1)

stmts-free : (l : List Stmt) → StmtsFree l → Free (identifiers l)
stmts-free [] h = tt
stmts-free (s ∷ l) h = both-free (stmt_ids s) (identifiers l) (stmt-free s h.0) (stmts-free l h.1)

none-whole : (ts : List Text) → Free ts → any is_keyword ts ≡ false
none-whole [] h = refl
none-whole (x ∷ ts) h = ap (λ (b : Bool). b || any is_keyword ts) h.0.whole ∙ none-whole ts h.1

abbrev keyword_behind : Text → Bool
keyword_behind t = is_keyword (behind_arrow t)

none-behind : (ts : List Text) → Free ts → any keyword_behind ts ≡ false
none-behind [] h = refl
none-behind (x ∷ ts) h = ap (λ (b : Bool). b || any keyword_behind ts) h.0.behind ∙ none-behind ts h.1

-- ---- for example: a nested parser in full mode

nested-ids : identifiers (program (Block.nested (text "T") (text "output->x_") ∷ [])) ≡ text "T" ∷ text "span" ∷ text "output->x_" ∷ []
nested-ids = refl

nested-own : behind_arrow (text "output->x_") ≡ text "x_"
nested-own = refl

-- ---- the statements

-- no name of an accepted record is a keyword
pub names-free : (s : Text) (bs : List Block) → answer s ≡ accepted bs
    → (h : Head) (ds : List Declaration) → read_record s ≡ record_is h ds → any_keyword s (record_names h ds) ≡ false
names-free s bs e h ds r = no-keyword s bs e h ds r

all-free : (s : Text) (bs : List Block) → answer s ≡ accepted bs → Free (identifiers (program bs))
all-free s bs e = stmts-free (program bs) (program-free bs (blocks-names s bs e))

-- no identifier in the lines of an accepted record is a keyword
pub identifiers-free : (s : Text) (bs : List Block) → answer s ≡ accepted bs → any is_keyword (identifiers (program bs)) ≡ false
identifiers-free s bs e = none-whole (identifiers (program bs)) (all-free s bs e)

-- nor is one without its `output->`
pub members-free : (s : Text) (bs : List Block) → answer s ≡ accepted bs
    → any (λ (t : Text). is_keyword (behind_arrow t)) (identifiers (program bs)) ≡ false
members-free s bs e = none-behind (identifiers (program bs)) (all-free s bs e)
