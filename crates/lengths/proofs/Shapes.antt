-- The lines of an array, shape by shape: names have at most 32 bytes, a count at most 5 digits, any other number at most 64.
-- Assumes nothing.
use mathlib.Core.Bool.{Bool, true, false}
use mathlib.Core.List.{List, ◌++◌}
use mathlib.Core.Path.{◌≡◌, refl}
use Prim.Native.Nat.{ℕ, ◌+◌, ◌*◌, ◌/◌, ◌≤◌}
use native.Mathlib.Omega.{arith}
use lib.Dec.{leb}
use lib.ListN.{length, length-append}
use Rattle.definitions.specs.Bytes.{Text, text, pick, decimal}
use Rattle.definitions.specs.Lines.{Dest, Out, Stmt, order_text, lines_text, render}
use Rattle.definitions.specs.Blocks.{Elem, span, named, get_cxx_scalar_type, parse_array_element, parse_array_field_lite, parse_array_field_full}
use Rattle.definitions.specs.declared.EndiannessValue.{EndiannessValue}
use Rattle.definitions.specs.declared.ElementSize.{ElementSize}
use Rattle.definitions.specs.declared.Arrays.{Arrays}
use Rattle.definitions.specs.declared.ArraySize.{ArraySize}
use Rattle.definitions.specs.declared.Products.{Products}
use Rattle.lengths.specs.Shares.{shape}
use Rattle.lengths.proofs.Digits.{decimal-any, decimal-count, decimal-width}

-- ---- what a read prints

pub order-length : (o : EndiannessValue) → length (order_text o) ≡ 2
order-length EndiannessValue.LittleEndian = refl
order-length EndiannessValue.BigEndian = refl

pub scalar-type : (w : ℕ) → length (decimal (get_cxx_scalar_type w)) ≤ 2
scalar-type w = decimal-width (get_cxx_scalar_type w) (by (leb w 8) (leb w 16) (leb w 32))
  where
    by : (a b c : Bool) → pick a 8 (pick b 16 (pick c 32 64)) ≤ 64
    by true b c = omega arith
    by false true c = omega arith
    by false false true = omega arith
    by false false false = omega arith

-- ---- an element: where it goes is `output->{id}_`

abbrev pub ElemShort : Elem → Type 0
ElemShort (Elem.scalar order w) = Unit {0}
ElemShort (Elem.open_enum type order w) = length type ≤ 32
ElemShort (Elem.closed_enum type order w) = length type ≤ 32
ElemShort (Elem.parsed type) = length type ≤ 32

abbrev DestShort : Dest → Type 0
DestShort (Dest.slot y) = length y ≤ 41
DestShort (Dest.push y) = length y ≤ 41

element-short : (e : Elem) (d : Dest) (u : Text) → ElemShort e → DestShort d
    → length (lines_text 4 (parse_array_element span e d Out.out) u) ≤ 310 + length u
element-short (Elem.scalar o w) (Dest.slot y) u h k = simp (length-append, order-length) (omega (arith, scalar-type w, decimal-any (w / 8)))
element-short (Elem.scalar o w) (Dest.push y) u h k = simp (length-append, order-length) (omega (arith, scalar-type w, decimal-any (w / 8)))
element-short (Elem.open_enum t o w) (Dest.slot y) u h k = simp (length-append, order-length) (omega (arith, scalar-type w, decimal-any (w / 8)))
element-short (Elem.open_enum t o w) (Dest.push y) u h k = simp (length-append, order-length) (omega (arith, scalar-type w, decimal-any (w / 8)))
element-short (Elem.closed_enum t o w) (Dest.slot y) u h k = simp (length-append, order-length) (omega (arith, scalar-type w, decimal-any (w / 8)))
element-short (Elem.closed_enum t o w) (Dest.push y) u h k = simp (length-append, order-length) (omega (arith, scalar-type w, decimal-any (w / 8)))
element-short (Elem.parsed t) (Dest.slot y) u h k = simp length-append (omega arith)
element-short (Elem.parsed t) (Dest.push y) u h k = simp length-append (omega arith)

-- ---- the 24 shapes

abbrev pub Counted : ArraySize → Type 0
Counted (ArraySize.StaticCount n) = n ≤ 65535
Counted ArraySize.DynamicCount = Unit {0}
Counted ArraySize.DynamicSize = Unit {0}
Counted ArraySize.Unknown = Unit {0}

module _ (id type : Text) (elem : Elem) (l : List Stmt) (i : length id ≤ 32) (t : length type ≤ 32) (k : ElemShort elem) where
  pub lite : (o : Products) (e : ElementSize) (n : ArraySize) → Counted n
      → length (render (parse_array_field_lite o id type elem l e n)) ≤ shape e + length (render l)
  lite o (ElementSize.Static es) (ArraySize.StaticCount n) c = simp length-append (omega (arith, decimal-any (es * n)))
  lite Products.Plain (ElementSize.Static es) ArraySize.DynamicCount c = simp length-append (omega (arith, decimal-any es))
  lite Products.Divide (ElementSize.Static es) ArraySize.DynamicCount c = simp length-append (omega (arith, decimal-any es))
  lite o (ElementSize.Static es) ArraySize.DynamicSize c = simp length-append (omega (arith, decimal-any es))
  lite o (ElementSize.Static es) ArraySize.Unknown c = simp length-append (omega (arith, decimal-any es))
  lite Products.Plain ElementSize.Dynamic (ArraySize.StaticCount n) c = simp length-append (omega (arith, decimal-count n c, decimal-any 0))
  lite Products.Divide ElementSize.Dynamic (ArraySize.StaticCount n) c = simp length-append (omega (arith, decimal-count n c, decimal-any 0))
  lite Products.Plain ElementSize.Dynamic ArraySize.DynamicCount c = simp length-append (omega (arith, decimal-any 0))
  lite Products.Divide ElementSize.Dynamic ArraySize.DynamicCount c = simp length-append (omega (arith, decimal-any 0))
  lite o ElementSize.Dynamic ArraySize.DynamicSize c = simp length-append (omega arith)
  lite o ElementSize.Dynamic ArraySize.Unknown c = simp length-append (omega arith)
  lite o ElementSize.Unknown (ArraySize.StaticCount n) c = simp length-append (omega (arith, decimal-any n))
  lite o ElementSize.Unknown ArraySize.DynamicCount c = simp length-append (omega arith)
  lite o ElementSize.Unknown ArraySize.DynamicSize c = simp length-append (omega arith)
  lite o ElementSize.Unknown ArraySize.Unknown c = simp length-append (omega arith)

  abbrev y : Text
  y = named Arrays.Full id (text "_")

  abbrev end : Text
  end = text "}\n" ++ render l

  slotted : length (lines_text 4 (parse_array_element span elem (Dest.slot y) Out.out) end) ≤ 310 + length end
  slotted = element-short elem (Dest.slot y) end k (simp length-append (omega arith))

  pushed : length (lines_text 4 (parse_array_element span elem (Dest.push y) Out.out) end) ≤ 310 + length end
  pushed = element-short elem (Dest.push y) end k (simp length-append (omega arith))

  pub full : (o : Products) (e : ElementSize) (n : ArraySize) → Counted n
      → length (render (parse_array_field_full o id type elem l e n)) ≤ shape e + length (render l)
  full o (ElementSize.Static es) (ArraySize.StaticCount n) c = simp length-append (omega (arith, slotted, decimal-any (es * n), decimal-any n))
  full Products.Plain (ElementSize.Static es) ArraySize.DynamicCount c = simp length-append (omega (arith, pushed, decimal-any es))
  full Products.Divide (ElementSize.Static es) ArraySize.DynamicCount c = simp length-append (omega (arith, pushed, decimal-any es))
  full o (ElementSize.Static es) ArraySize.DynamicSize c = simp length-append (omega (arith, pushed, decimal-any es))
  full o (ElementSize.Static es) ArraySize.Unknown c = simp length-append (omega (arith, pushed, decimal-any es))
  full Products.Plain ElementSize.Dynamic (ArraySize.StaticCount n) c = simp length-append (omega (arith, decimal-count n c))
  full Products.Divide ElementSize.Dynamic (ArraySize.StaticCount n) c = simp length-append (omega (arith, decimal-count n c))
  full Products.Plain ElementSize.Dynamic ArraySize.DynamicCount c = simp length-append (omega arith)
  full Products.Divide ElementSize.Dynamic ArraySize.DynamicCount c = simp length-append (omega arith)
  full o ElementSize.Dynamic ArraySize.DynamicSize c = simp length-append (omega arith)
  full o ElementSize.Dynamic ArraySize.Unknown c = simp length-append (omega arith)
  full o ElementSize.Unknown (ArraySize.StaticCount n) c = simp length-append (omega (arith, decimal-any n))
  full o ElementSize.Unknown ArraySize.DynamicCount c = simp length-append (omega arith)
  full o ElementSize.Unknown ArraySize.DynamicSize c = simp length-append (omega arith)
  full o ElementSize.Unknown ArraySize.Unknown c = simp length-append (omega arith)
