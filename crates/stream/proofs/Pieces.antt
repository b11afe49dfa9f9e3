-- The lines of a block before others are the block's own and then those; so the bytes of a program are those of its blocks, one after the other.
-- Assumes nothing.
use Rattle.std.proofs.Common.{◌≡◌, ℕ, false, List, [], ◌∷◌, ◌++◌, sym, refl, ap, ◌∙◌, append_assoc, append-nil}
use Rattle.definitions.specs.Bytes.{Text}
use Rattle.definitions.specs.Lines.{Line, Stmt, Before, Expr, Test, line_text, lines_text, stmt_text, stmts_text, render}
use Rattle.definitions.specs.Blocks.{body, check_size, Chunk, chunk_lines, chunks_lines, Elem, Array, parse_array_field_lite, parse_array_field_full, by_mode, size_name, field_lines, Block, start_name, gone, missing, room_for, span, block_lines, program}
use Rattle.definitions.specs.declared.Options.{Options}
use Rattle.definitions.specs.declared.Arrays.{Arrays}
use Rattle.definitions.specs.declared.Products.{Products}
use Rattle.definitions.specs.declared.Modifier.{Modifier}
use Rattle.definitions.specs.declared.ElementSize.{ElementSize}
use Rattle.definitions.specs.declared.ArraySize.{ArraySize}
use Rattle.stream.specs.Stream.{block_text, check_text, chunk_text}
use Rattle.stream.proofs.Texts.{line-leads, lines-leads, stmts-leads}

-- ---- lists of lines

stmts-append : (l m : List Stmt) (t : Text) → stmts_text (l ++ m) t ≡ stmts_text l (stmts_text m t)
stmts-append [] m t = refl
stmts-append (s ∷ l) m t = ap (stmt_text s) (stmts-append l m t)

render-append : (l m : List Stmt) → render (l ++ m) ≡ render l ++ render m
render-append l m = stmts-append l m [] ∙ (stmts-leads l).split [] (render m)

lines_join : (d : ℕ) (l m : List Line) (t : Text) → lines_text d (l ++ m) t ≡ lines_text d l (lines_text d m t)
lines_join d [] m t = refl
lines_join d (x ∷ l) m t = ap (line_text d x) (lines_join d l m t)

pub lines-append : (d : ℕ) (l m : List Line) → lines_text d (l ++ m) [] ≡ lines_text d l [] ++ lines_text d m []
lines-append d l m = lines_join d l m [] ∙ (lines-leads d l).split [] (lines_text d m [])

body-split : (l : List Line) (m : List Stmt) → body l m ≡ body l [] ++ m
body-split [] m = refl
body-split (x ∷ l) m = ap (λ (t : List Stmt). Stmt.one x ∷ t) (body-split l m)

pub body-text : (l : List Line) → render (body l []) ≡ lines_text 0 l []
body-text [] = refl
body-text (x ∷ l) = ap (line_text 0 x) (body-text l)

-- ---- each block

module _ (o : Products) (id type : Text) (elem : Elem) (l : List Stmt) where
  lite-split : (e : ElementSize) (n : ArraySize) → parse_array_field_lite o id type elem l e n ≡ parse_array_field_lite o id type elem [] e n ++ l
  lite-split (ElementSize.Static es) (ArraySize.StaticCount n) = refl
  lite-split (ElementSize.Static es) ArraySize.DynamicCount = refl
  lite-split (ElementSize.Static es) ArraySize.DynamicSize = refl
  lite-split (ElementSize.Static es) ArraySize.Unknown = refl
  lite-split ElementSize.Dynamic (ArraySize.StaticCount n) = refl
  lite-split ElementSize.Dynamic ArraySize.DynamicCount = refl
  lite-split ElementSize.Dynamic ArraySize.DynamicSize = refl
  lite-split ElementSize.Dynamic ArraySize.Unknown = refl
  lite-split ElementSize.Unknown (ArraySize.StaticCount n) = refl
  lite-split ElementSize.Unknown ArraySize.DynamicCount = refl
  lite-split ElementSize.Unknown ArraySize.DynamicSize = refl
  lite-split ElementSize.Unknown ArraySize.Unknown = refl

  full-split : (e : ElementSize) (n : ArraySize) → parse_array_field_full o id type elem l e n ≡ parse_array_field_full o id type elem [] e n ++ l
  full-split (ElementSize.Static es) (ArraySize.StaticCount n) = refl
  full-split (ElementSize.Static es) ArraySize.DynamicCount = refl
  full-split (ElementSize.Static es) ArraySize.DynamicSize = refl
  full-split (ElementSize.Static es) ArraySize.Unknown = refl
  full-split ElementSize.Dynamic (ArraySize.StaticCount n) = refl
  full-split ElementSize.Dynamic ArraySize.DynamicCount = refl
  full-split ElementSize.Dynamic ArraySize.DynamicSize = refl
  full-split ElementSize.Dynamic ArraySize.Unknown = refl
  full-split ElementSize.Unknown (ArraySize.StaticCount n) = refl
  full-split ElementSize.Unknown ArraySize.DynamicCount = refl
  full-split ElementSize.Unknown ArraySize.DynamicSize = refl
  full-split ElementSize.Unknown ArraySize.Unknown = refl

  mode-split : (m : Arrays) (e : ElementSize) (n : ArraySize) → by_mode m o id type elem l e n ≡ by_mode m o id type elem [] e n ++ l
  mode-split Arrays.Lite e n = lite-split e n
  mode-split Arrays.Full e n = full-split e n

pub field-split : (m : Modifier) (w : ℕ) (a : Array) (l : List Stmt) → field_lines m w a l ≡ field_lines m w a [] ++ l
field-split Modifier.None w a l = mode-split a.products a.id a.type a.elem l a.mode a.element_size a.array_size
field-split (Modifier.Plus n) w a l =
    ap (λ (t : List Stmt). Stmt.one (Line.minus w (size_name a) n) ∷ t)
    (mode-split a.products a.id a.type a.elem l a.mode a.element_size a.array_size)
field-split (Modifier.Minus n) w a l =
    ap (λ (t : List Stmt). Stmt.one (Line.plus w (size_name a) n) ∷ t)
    (mode-split a.products a.id a.type a.elem l a.mode a.element_size a.array_size)

-- what the padding after an array adds
abbrev pub padding : Text → ℕ → Stmt
padding z p = Stmt.when (Test.less (gone z) (Expr.lit p)) (room_for (missing z p) ∷ Line.skip span (missing z p) ∷ [])

padded-split : (p : ℕ) (m : Modifier) (w : ℕ) (a : Array) (l : List Stmt) → block_lines (Block.padded_array p m w a) l ≡ block_lines (Block.padded_array p m w a) [] ++ l
padded-split p m w a l =
    ap (λ (t : List Stmt). Stmt.one (Line.set_to Before.size_t (start_name a.id) (Expr.size span)) ∷ t)
    (field-split m w a (padding (start_name a.id) p ∷ l)
    ∙ sym (append_assoc (field_lines m w a []) (padding (start_name a.id) p ∷ []) l)
    ∙ ap (λ (t : List Stmt). t ++ l) (sym (field-split m w a (padding (start_name a.id) p ∷ []))))

pub block-split : (b : Block) (l : List Stmt) → block_lines b l ≡ block_lines b [] ++ l
block-split (Block.checked o n cs) l = body-split (check_size (Expr.lit n) ∷ chunks_lines o cs) l
block-split (Block.sized_payload x s m) l = refl
block-split (Block.payload_up_to x n) l = refl
block-split (Block.payload_to_end x) l = refl
block-split (Block.array m w a) l = field-split m w a l
block-split (Block.padded_array p m w a) l = padded-split p m w a l
block-split (Block.optional_scalar c v order w x) l = refl
block-split (Block.optional_open c v order w x type) l = refl
block-split (Block.optional_closed c v order w x type) l = refl
block-split (Block.optional_nested c v x type) l = refl
block-split (Block.nested type x) l = refl
block-split (Block.nested_up_to id n type x) l = refl

block-then : (b : Block) (l : List Stmt) → render (block_lines b l) ≡ block_text b ++ render l
unfolding block_text
block-then b l = ap render (block-split b l) ∙ render-append (block_lines b []) l

-- one block more
pub program-more : (bs : List Block) (b : Block) → render (program (bs ++ (b ∷ []))) ≡ render (program bs) ++ block_text b
program-more [] b = block-then b [] ∙ append-nil (block_text b)
program-more (d ∷ bs) b =
    block-then d (program (bs ++ (b ∷ [])))
    ∙ ap (λ (t : Text). block_text d ++ t) (program-more bs b)
    ∙ sym (append_assoc (block_text d) (render (program bs)) (block_text b))
    ∙ ap (λ (t : Text). t ++ block_text b) (sym (block-then d (program bs)))

-- ---- checked runs

module _ (o : Options) (n : ℕ) where
  run-text : (cs : List Chunk) → block_text (Block.checked o n cs) ≡ check_text false n ++ lines_text 0 (chunks_lines o cs) []
  unfolding block_text check_text
  run-text cs =
      body-text (check_size (Expr.lit n) ∷ chunks_lines o cs)
      ∙ (line-leads 0 (check_size (Expr.lit n))).split [] (lines_text 0 (chunks_lines o cs) [])

  chunks-more : (cs : List Chunk) (d : Chunk)
      → lines_text 0 (chunks_lines o (cs ++ (d ∷ []))) [] ≡ lines_text 0 (chunks_lines o cs) [] ++ chunk_text o d
  unfolding chunk_text
  chunks-more [] d = ap (λ (l : List Line). lines_text 0 l []) (append-nil (chunk_lines o d))
  chunks-more (e ∷ cs) d =
      lines-append 0 (chunk_lines o e) (chunks_lines o (cs ++ (d ∷ [])))
      ∙ ap (λ (t : Text). chunk_text o e ++ t) (chunks-more cs d)
      ∙ sym (append_assoc (chunk_text o e) (lines_text 0 (chunks_lines o cs) []) (chunk_text o d))
      ∙ ap (λ (t : Text). t ++ chunk_text o d) (sym (lines-append 0 (chunk_lines o e) (chunks_lines o cs)))

  -- the first chunk of a run, and one chunk more
  pub run-first : (d : Chunk) → block_text (Block.checked o n (d ∷ [])) ≡ check_text false n ++ chunk_text o d
  run-first d = run-text (d ∷ []) ∙ ap (λ (t : Text). check_text false n ++ t) (chunks-more [] d)

  pub run_more : (cs : List Chunk) (d : Chunk)
      → block_text (Block.checked o n (cs ++ (d ∷ []))) ≡ block_text (Block.checked o n cs) ++ chunk_text o d
  run_more cs d =
      run-text (cs ++ (d ∷ []))
      ∙ ap (λ (t : Text). check_text false n ++ t) (chunks-more cs d)
      ∙ sym (append_assoc (check_text false n) (lines_text 0 (chunks_lines o cs) []) (chunk_text o d))
      ∙ ap (λ (t : Text). t ++ chunk_text o d) (sym (run-text cs))
