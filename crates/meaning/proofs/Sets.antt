-- The spans and variables that an array's lines set, in all their 24 shapes.
-- Assumes nothing.
use mathlib.Core.List.{List}
use Prim.Native.Nat.{ℕ}
use Rattle.definitions.specs.Bytes.{Text, text}
use Rattle.definitions.specs.Lines.{Expr, Dest, Out, Stmt}
use Rattle.definitions.specs.Blocks.{span, raw, element_span, check_product, Elem, parse_array_element, named, bare, Array, parse_array_field_lite, parse_array_field_full, by_mode, field_lines}
use Rattle.definitions.specs.declared.Arrays.{Arrays}
use Rattle.definitions.specs.declared.Modifier.{Modifier}
use Rattle.definitions.specs.declared.ElementSize.{ElementSize}
use Rattle.definitions.specs.declared.ArraySize.{ArraySize}
use Rattle.definitions.specs.declared.Products.{Products}
use Rattle.meaning.proofs.Steps.{Holder, a_span, a_variable, line_sets, Each, LinesSet, AllSet}

-- N has all that the lines of the array `id` set
pub record HasArray (N : Holder → Type 0) (id : Text) : Type 0 where
  pub whole : N (a_span (named Arrays.Lite id (text "_")))
  pub own : N (a_span (bare id (text "_span")))
  pub element : N (a_span element_span)
  pub raw_value : N (a_variable raw)
  pub count : N (a_variable (bare id (text "_count_")))
  pub size : (m : Arrays) → N (a_variable (named m id (text "_size_")))

module _ (N : Holder → Type 0) (id : Text) (has : HasArray N id) where
  element-set : (s : Text) (E : Elem) (d : Dest) (o : Out) → LinesSet N (parse_array_element s E d o)
  element-set s (Elem.scalar order w) d o = (tt, tt)
  element-set s (Elem.open_enum T order w) d o = (tt, tt)
  element-set s (Elem.closed_enum T order w) d o = ((has.raw_value, tt), (tt, (tt, tt)))
  element-set s (Elem.parsed T) d o = (tt, (tt, (tt, tt)))

  product-set : (o : Products) (a b : Expr) → Each N (line_sets (check_product o a b))
  product-set Products.Plain a b = tt
  product-set Products.Divide a b = tt

  module _ (o : Products) (T : Text) (E : Elem) (l : List Stmt) (h : AllSet N l) where
    lite-set : (e : ElementSize) (n : ArraySize) → AllSet N (parse_array_field_lite o id T E l e n)
    lite-set (ElementSize.Static z) (ArraySize.StaticCount n) = (tt, ((has.whole, tt), (tt, h)))
    lite-set (ElementSize.Static z) ArraySize.DynamicCount = (product-set o _ _, ((has.whole, tt), (tt, h)))
    lite-set (ElementSize.Static z) ArraySize.DynamicSize = (tt, (tt, ((has.whole, tt), (tt, h))))
    lite-set (ElementSize.Static z) ArraySize.Unknown = (tt, ((has.whole, tt), (tt, h)))
    lite-set ElementSize.Dynamic (ArraySize.StaticCount n) = (tt, (product-set o _ _, ((has.whole, tt), (tt, h))))
    lite-set ElementSize.Dynamic ArraySize.DynamicCount = (tt, (product-set o _ _, ((has.whole, tt), (tt, h))))
    lite-set ElementSize.Dynamic ArraySize.DynamicSize = (tt, (tt, ((has.whole, tt), (tt, h))))
    lite-set ElementSize.Dynamic ArraySize.Unknown = (tt, ((has.whole, tt), (tt, h)))
    lite-set ElementSize.Unknown (ArraySize.StaticCount n) = ((has.whole, tt), ((tt, (tt, tt)), ((has.whole, tt), h)))
    lite-set ElementSize.Unknown ArraySize.DynamicCount = ((has.whole, tt), ((tt, (tt, tt)), ((has.whole, tt), h)))
    lite-set ElementSize.Unknown ArraySize.DynamicSize = (tt, ((has.whole, tt), (tt, h)))
    lite-set ElementSize.Unknown ArraySize.Unknown = ((has.whole, tt), ((tt, (tt, tt)), ((has.whole, tt), h)))

    full-set : (e : ElementSize) (n : ArraySize) → AllSet N (parse_array_field_full o id T E l e n)
    full-set (ElementSize.Static z) (ArraySize.StaticCount n) = (tt, (element-set span E _ Out.out, h))
    full-set (ElementSize.Static z) ArraySize.DynamicCount = (product-set o _ _, (element-set span E _ Out.out, h))
    full-set (ElementSize.Static z) ArraySize.DynamicSize = (tt, (tt, ((has.count, tt), (element-set span E _ Out.out, h))))
    full-set (ElementSize.Static z) ArraySize.Unknown = (tt, ((has.count, tt), (element-set span E _ Out.out, h)))
    full-set ElementSize.Dynamic (ArraySize.StaticCount n) = (product-set o _ _, (((has.element, tt), (tt, (tt, (tt, tt)))), (tt, h)))
    full-set ElementSize.Dynamic ArraySize.DynamicCount = (product-set o _ _, (((has.element, tt), (tt, (tt, (tt, tt)))), (tt, h)))
    full-set ElementSize.Dynamic ArraySize.DynamicSize = (tt, (tt, ((has.count, tt), (((has.element, tt), (tt, (tt, (tt, tt)))), (tt, h)))))
    full-set ElementSize.Dynamic ArraySize.Unknown = (tt, ((has.count, tt), (((has.element, tt), (tt, (tt, (tt, tt)))), (tt, h))))
    full-set ElementSize.Unknown (ArraySize.StaticCount n) = ((tt, (tt, (tt, tt))), h)
    full-set ElementSize.Unknown ArraySize.DynamicCount = ((tt, (tt, (tt, tt))), h)
    full-set ElementSize.Unknown ArraySize.DynamicSize = (tt, ((has.own, tt), ((tt, (tt, (tt, tt))), (tt, h))))
    full-set ElementSize.Unknown ArraySize.Unknown = ((tt, (tt, (tt, tt))), h)

  array-set : (m : Arrays) (o : Products) (T : Text) (E : Elem) (l : List Stmt) (e : ElementSize) (n : ArraySize) → AllSet N l
      → AllSet N (by_mode m o id T E l e n)
  array-set Arrays.Lite o T E l e n h = lite-set o T E l h e n
  array-set Arrays.Full o T E l e n h = full-set o T E l h e n

pub field-set : (N : Holder → Type 0) (m : Modifier) (w : ℕ) (a : Array) (l : List Stmt) → HasArray N a.id → AllSet N l → AllSet N (field_lines m w a l)
field-set N Modifier.None w a l has h = array-set N a.id has a.mode a.products a.type a.elem l a.element_size a.array_size h
field-set N (Modifier.Plus n) w a l has h =
    ((has.size a.mode, tt), array-set N a.id has a.mode a.products a.type a.elem l a.element_size a.array_size h)
field-set N (Modifier.Minus n) w a l has h =
    ((has.size a.mode, tt), array-set N a.id has a.mode a.products a.type a.elem l a.element_size a.array_size h)
