-- The lines of a block that is no checked run: a payload, an optional field, a nested parser, an array with its modifier and its padding.
-- Assumes nothing.
use mathlib.Core.List.{List, [], ◌∷◌}
use Prim.Native.Nat.{ℕ, ◌+◌, ◌/◌, ◌≤◌}
use native.Mathlib.Omega.{arith}
use lib.ListN.{length, length-append}
use Rattle.definitions.specs.Bytes.{Text, text}
use Rattle.definitions.specs.Lines.{Expr, Test, Line, Stmt, render}
use Rattle.definitions.specs.Blocks.{span, room_for, named, start_name, gone, missing, Array, by_mode, array_lines, size_name, modifier_lines, field_lines, Block, block_lines}
use Rattle.definitions.specs.declared.EndiannessValue.{EndiannessValue}
use Rattle.definitions.specs.declared.Modifier.{Modifier}
use Rattle.definitions.specs.declared.Arrays.{Arrays}
use Rattle.lengths.specs.Shares.{plain_field, modifier_line, shape, padding}
use Rattle.lengths.proofs.Digits.{decimal-any, decimal-count}
use Rattle.lengths.proofs.Shapes.{order-length, scalar-type, ElemShort, Counted, lite, full}

-- at most n bytes before any lines
pub record Within (n : ℕ) (b : Block) : Type 0 where
  pub before : (l : List Stmt) → length (render (block_lines b l)) ≤ n + length (render l)

-- ---- payloads, optional fields, nested parsers

pub sized-payload : (x s : Text) (m : Modifier) → length x ≤ 41 → length s ≤ 46 → Within plain_field (Block.sized_payload x s m)
sized-payload x s Modifier.None h k = record { before = λ l. simp length-append (omega arith) }
sized-payload x s (Modifier.Plus n) h k = record { before = λ l. simp length-append (omega (arith, decimal-any n)) }
sized-payload x s (Modifier.Minus n) h k = record { before = λ l. simp length-append (omega (arith, decimal-any n)) }

module _ (x : Text) (h : length x ≤ 41) where
  pub payload-up-to : (n : ℕ) → Within plain_field (Block.payload_up_to x n)
  payload-up-to n = record { before = λ l. simp length-append (omega (arith, decimal-any n)) }

  pub payload-to-end : Within plain_field (Block.payload_to_end x)
  payload-to-end = record { before = λ l. simp length-append (omega arith) }

  module _ (type : Text) (k : length type ≤ 32) where
    pub nested-short : Within plain_field (Block.nested type x)
    nested-short = record { before = λ l. simp length-append (omega arith) }

    pub nested-up-to : (id : Text) (n : ℕ) → length id ≤ 32 → Within plain_field (Block.nested_up_to id n type x)
    nested-up-to id n i = record { before = λ l. simp length-append (omega (arith, decimal-any n)) }

  module _ (c : Text) (v : ℕ) (j : length c ≤ 32) (o : EndiannessValue) (w : ℕ) where
    pub optional-scalar : Within plain_field (Block.optional_scalar c v o w x)
    optional-scalar = record {
      before = λ l. simp (length-append, order-length) (omega (arith, decimal-any v, decimal-any (w / 8), scalar-type w));
    }

    module _ (type : Text) (k : length type ≤ 32) where
      pub optional-open : Within plain_field (Block.optional_open c v o w x type)
      optional-open = record {
        before = λ l. simp (length-append, order-length) (omega (arith, decimal-any v, decimal-any (w / 8), scalar-type w));
      }

      pub optional-closed : Within plain_field (Block.optional_closed c v o w x type)
      optional-closed = record {
        before = λ l. simp (length-append, order-length) (omega (arith, decimal-any v, decimal-any (w / 8), scalar-type w));
      }

  pub optional-nested : (c : Text) (v : ℕ) (type : Text) → length c ≤ 32 → length type ≤ 32 → Within plain_field (Block.optional_nested c v x type)
  optional-nested c v type j k = record { before = λ l. simp length-append (omega (arith, decimal-any v)) }

-- ---- arrays

pub record ArrayShort (a : Array) : Type 0 where
  pub id : length a.id ≤ 32
  pub type : length a.type ≤ 32
  pub elem : ElemShort a.elem
  pub count : Counted a.array_size

abbrev pub Modified : Modifier → Type 0
Modified Modifier.None = Unit {0}
Modified (Modifier.Plus n) = n ≤ 65535
Modified (Modifier.Minus n) = n ≤ 65535

module _ (a : Array) (h : ArrayShort a) where
  array-lines : (l : List Stmt) → length (render (array_lines a l)) ≤ shape a.element_size + length (render l)
  array-lines l = by a.mode
    where
      by : (m : Arrays)
          → length (render (by_mode m a.products a.id a.type a.elem l a.element_size a.array_size))
          ≤ shape a.element_size + length (render l)
      by Arrays.Lite = lite a.id a.type a.elem l h.id h.type h.elem a.products a.element_size a.array_size h.count
      by Arrays.Full = full a.id a.type a.elem l h.id h.type h.elem a.products a.element_size a.array_size h.count

  size-name : length (size_name a) ≤ 46
  size-name = by a.mode
    where
      by : (m : Arrays) → length (named m a.id (text "_size_")) ≤ 46
      by Arrays.Lite = simp length-append (omega (arith, h.id))
      by Arrays.Full = simp length-append (omega (arith, h.id))

  modifier-lines : (m : Modifier) (w : ℕ) (x : Text) (l : List Stmt) → Modified m → length x ≤ 46
      → length (render (modifier_lines m w x l)) ≤ modifier_line + length (render l)
  modifier-lines Modifier.None w x l g k = omega arith
  modifier-lines (Modifier.Plus n) w x l g k = simp length-append (omega (arith, decimal-count n g))
  modifier-lines (Modifier.Minus n) w x l g k = simp length-append (omega (arith, decimal-count n g))

  field-lines : (m : Modifier) (w : ℕ) (l : List Stmt) → Modified m
      → length (render (field_lines m w a l)) ≤ modifier_line + shape a.element_size + length (render l)
  field-lines m w l g =
      omega (arith, modifier-lines m w (size_name a) (array_lines a l) g size-name, array-lines l)

  pub array-short : (m : Modifier) (w : ℕ) → Modified m → Within (modifier_line + shape a.element_size) (Block.array m w a)
  array-short m w g = record { before = λ l. field-lines m w l g }

  -- the lines behind a padded array
  abbrev after : ℕ → List Stmt → List Stmt
  after p l =
      Stmt.when (Test.less (gone (start_name a.id)) (Expr.lit p))
      (room_for (missing (start_name a.id) p) ∷ Line.skip span (missing (start_name a.id) p) ∷ [])
      ∷ l

  after-short : (p : ℕ) (l : List Stmt) → length (render (after p l)) ≤ 441 + length (render l)
  after-short p l = simp length-append (omega (arith, h.id, decimal-any p))

  pub padded-short : (p : ℕ) (m : Modifier) (w : ℕ) → Modified m → Within (modifier_line + shape a.element_size + padding) (Block.padded_array p m w a)
  padded-short p m w g = record { before = λ l. simp length-append (omega (arith, h.id, field-lines m w (after p l) g, after-short p l)) }
