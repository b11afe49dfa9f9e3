-- From the whole program to one of its blocks: a run that has come behind a block's first line stood before it.
-- Assumes nothing.
use mathlib.Core.Path.{◌≡◌, refl, sym, ap, ◌∙◌, subst}
use mathlib.Core.List.{List, [], ◌∷◌, ◌++◌, append_assoc}
use Prim.Native.Nat.{ℕ, ◌≤◌}
use native.Mathlib.Omega.{arith}
use lib.ListN.{length, length-append}
use Rattle.definitions.specs.Bytes.{Text}
use Rattle.definitions.specs.Lines.{Expr, Line, Stmt}
use Rattle.definitions.specs.Blocks.{span, check_size, chunks_lines, Elem, Array, body, by_mode, parse_array_field_lite, parse_array_field_full, array_lines, size_name, field_lines, Block, block_lines, program}
use Rattle.definitions.specs.declared.Arrays.{Arrays}
use Rattle.definitions.specs.declared.Modifier.{Modifier}
use Rattle.definitions.specs.declared.ElementSize.{ElementSize}
use Rattle.definitions.specs.declared.ArraySize.{ArraySize}
use Rattle.definitions.specs.declared.Products.{Products}
use Rattle.meaning.specs.Machine.{Inside, Reply, State, start, running, run}
use Rattle.meaning.proofs.Wellformed.{BlockOk, BlocksOk}
use Rattle.meaning.specs.Rule.{Octets}
use Rattle.meaning.proofs.Frame.{inside}
use Rattle.meaning.proofs.Steps.{body-before}
use Rattle.meaning.proofs.Passing.{Through, through}

abbrev Ahead : List Stmt → List Stmt → Type 0
Ahead l all = (a : List Stmt) × (all ≡ a ++ l)

-- the lines of an array stand before those that follow
lite-before : (o : Products) (id type : Text) (elem : Elem) (l : List Stmt) (e : ElementSize) (n : ArraySize)
    → parse_array_field_lite o id type elem l e n ≡ parse_array_field_lite o id type elem [] e n ++ l
lite-before o id type elem l (ElementSize.Static z) (ArraySize.StaticCount n) = refl
lite-before o id type elem l (ElementSize.Static z) ArraySize.DynamicCount = refl
lite-before o id type elem l (ElementSize.Static z) ArraySize.DynamicSize = refl
lite-before o id type elem l (ElementSize.Static z) ArraySize.Unknown = refl
lite-before o id type elem l ElementSize.Dynamic (ArraySize.StaticCount n) = refl
lite-before o id type elem l ElementSize.Dynamic ArraySize.DynamicCount = refl
lite-before o id type elem l ElementSize.Dynamic ArraySize.DynamicSize = refl
lite-before o id type elem l ElementSize.Dynamic ArraySize.Unknown = refl
lite-before o id type elem l ElementSize.Unknown (ArraySize.StaticCount n) = refl
lite-before o id type elem l ElementSize.Unknown ArraySize.DynamicCount = refl
lite-before o id type elem l ElementSize.Unknown ArraySize.DynamicSize = refl
lite-before o id type elem l ElementSize.Unknown ArraySize.Unknown = refl

full-before : (o : Products) (id type : Text) (elem : Elem) (l : List Stmt) (e : ElementSize) (n : ArraySize)
    → parse_array_field_full o id type elem l e n ≡ parse_array_field_full o id type elem [] e n ++ l
full-before o id type elem l (ElementSize.Static z) (ArraySize.StaticCount n) = refl
full-before o id type elem l (ElementSize.Static z) ArraySize.DynamicCount = refl
full-before o id type elem l (ElementSize.Static z) ArraySize.DynamicSize = refl
full-before o id type elem l (ElementSize.Static z) ArraySize.Unknown = refl
full-before o id type elem l ElementSize.Dynamic (ArraySize.StaticCount n) = refl
full-before o id type elem l ElementSize.Dynamic ArraySize.DynamicCount = refl
full-before o id type elem l ElementSize.Dynamic ArraySize.DynamicSize = refl
full-before o id type elem l ElementSize.Dynamic ArraySize.Unknown = refl
full-before o id type elem l ElementSize.Unknown (ArraySize.StaticCount n) = refl
full-before o id type elem l ElementSize.Unknown ArraySize.DynamicCount = refl
full-before o id type elem l ElementSize.Unknown ArraySize.DynamicSize = refl
full-before o id type elem l ElementSize.Unknown ArraySize.Unknown = refl

array-before : (m : Arrays) (o : Products) (id T : Text) (E : Elem) (l : List Stmt) (e : ElementSize) (n : ArraySize)
    → by_mode m o id T E l e n ≡ by_mode m o id T E [] e n ++ l
array-before Arrays.Lite o id T E l e n = lite-before o id T E l e n
array-before Arrays.Full o id T E l e n = full-before o id T E l e n

pub field-before : (m : Modifier) (w : ℕ) (a : Array) (l : List Stmt) → field_lines m w a l ≡ field_lines m w a [] ++ l
field-before m w a l = by m (array-before a.mode a.products a.id a.type a.elem l a.element_size a.array_size)
  where
    by : (c : Modifier) → array_lines a l ≡ array_lines a [] ++ l → field_lines c w a l ≡ field_lines c w a [] ++ l
    by Modifier.None e = e
    by (Modifier.Plus n) e = ap (λ (r : List Stmt). Stmt.one (Line.minus w (size_name a) n) ∷ r) e
    by (Modifier.Minus n) e = ap (λ (r : List Stmt). Stmt.one (Line.plus w (size_name a) n) ∷ r) e

field-ahead : (m : Modifier) (w : ℕ) (a : Array) (l : List Stmt) → Ahead l (field_lines m w a l)
field-ahead m w a l = (field_lines m w a [], field-before m w a l)

more-ahead : (s : Stmt) (l all : List Stmt) → Ahead l all → Ahead l (s ∷ all)
more-ahead s l all h = (s ∷ h.0, ap (λ (r : List Stmt). s ∷ r) h.1)

deeper : (s : Stmt) (l all : List Stmt) → Ahead (s ∷ l) all → Ahead l all
deeper s l all h = (h.0 ++ (s ∷ []), h.1 ∙ sym (append_assoc h.0 (s ∷ []) l))

block-ahead : (b : Block) (l : List Stmt) → Ahead l (block_lines b l)
block-ahead (Block.checked o n cs) l =
    (body (check_size (Expr.lit n) ∷ chunks_lines o cs) [], body-before (check_size (Expr.lit n) ∷ chunks_lines o cs) l)
block-ahead (Block.sized_payload x s m) l = (block_lines (Block.sized_payload x s m) [], refl)
block-ahead (Block.payload_up_to x n) l = (block_lines (Block.payload_up_to x n) [], refl)
block-ahead (Block.payload_to_end x) l = (block_lines (Block.payload_to_end x) [], refl)
block-ahead (Block.array m w a) l = field-ahead m w a l
block-ahead (Block.padded_array p m w a) l = more-ahead _ l _ (deeper _ l _ (field-ahead m w a _))
block-ahead (Block.optional_scalar c v order w x) l = (block_lines (Block.optional_scalar c v order w x) [], refl)
block-ahead (Block.optional_open c v order w x type) l = (block_lines (Block.optional_open c v order w x type) [], refl)
block-ahead (Block.optional_closed c v order w x type) l = (block_lines (Block.optional_closed c v order w x type) [], refl)
block-ahead (Block.optional_nested c v x type) l = (block_lines (Block.optional_nested c v x type) [], refl)
block-ahead (Block.nested type x) l = (block_lines (Block.nested type x) [], refl)
block-ahead (Block.nested_up_to id n type x) l = (block_lines (Block.nested_up_to id n type x) [], refl)

program-ahead : (pre bs : List Block) → Ahead (program bs) (program (pre ++ bs))
program-ahead [] bs = ([], refl)
program-ahead (b ∷ pre) bs =
    let h = program-ahead pre bs in
    let k = block-ahead b (program (pre ++ bs)) in
    (k.0 ++ h.0, k.1 ∙ ap (λ (r : List Stmt). k.0 ++ r) h.1 ∙ sym (append_assoc k.0 h.0 (program bs)))

-- a run of the program that has come to the first line of bs, or further, stood before it
pub reach : (pre bs : List Block) (k : ℕ) (σ υ : State) (r : List Stmt) → run k σ (program (pre ++ bs)) ≡ running υ r → length r ≤ length (program bs)
    → Through (program (pre ++ bs)) (program bs) σ k υ r
reach pre bs k σ υ r e h =
    let a = program-ahead pre bs in
    subst (λ (all : List Stmt). Through all (program bs) σ k υ r) (sym a.1)
    (through k σ υ a.0 (program bs) r (subst (λ (all : List Stmt). run k σ all ≡ running υ r) a.1 e) h)

-- blocks more are no lines less
pub more-lines : (pre bs : List Block) → length (program bs) ≤ length (program (pre ++ bs))
more-lines pre bs =
    let a = program-ahead pre bs in
    omega (arith, ap length a.1, length-append a.0 (program bs))

pub block-ok : (pre : List Block) (b : Block) (post : List Block) → BlocksOk (pre ++ (b ∷ post)) → BlockOk b
block-ok [] b post h = h.0
block-ok (d ∷ pre) b post h = block-ok pre b post h.1

pub later-ok : (pre post : List Block) → BlocksOk (pre ++ post) → BlocksOk post
later-ok [] post h = h
later-ok (b ∷ pre) post h = later-ok pre post h.1

-- ---- the bytes of a span are bytes of the frame

octets-right : (a b : List ℕ) → Octets (a ++ b) → Octets b
octets-right [] b h = h
octets-right (x ∷ a) b h = octets-right a b h.1

octets-left : (a b : List ℕ) → Octets (a ++ b) → Octets a
octets-left [] b h = tt
octets-left (x ∷ a) b h = (h.0, octets-left a b h.1)

pub octets-part : (f s : List ℕ) → Inside f s → Octets f → Octets s
octets-part f s p h = octets-left s p.1 (octets-right p.0 (s ++ p.1) (subst Octets (sym p.2) h))

pub octets-inside : (f : List ℕ) → Octets f → (vars : Text → ℕ) (replies : List Reply) (k : ℕ) (l r : List Stmt) (τ : State)
    → run k (start f vars replies) l ≡ running τ r → Octets (τ.spans span)
octets-inside f h vars replies k l r τ e = octets-part f (τ.spans span) (inside f vars replies k l r τ e span) h
