-- Behind refusal 7 the bytes of an array of fixed size are a number of the machine: they are no more than its bits.
-- Assumes nothing.
use Rattle.std.specs.Prelude.{Option, Some, None}
use mathlib.Core.Bool.{Bool, true, false}
use mathlib.Core.List.{List, [], ◌∷◌}
use mathlib.Core.Path.{◌≡◌, refl}
use Prim.Native.Nat.{ℕ, ◌*◌, ◌/◌, ◌≤◌, ◌<◌, ◌^◌}
use native.Mathlib.Nat.{mul_comm, mul-le-mul_right, div-le_self}
use native.Mathlib.Omega.{arith}
use borrow.Author.Tests.{ltb-false}
use Rattle.definitions.specs.Bytes.{Text, pick}
use Rattle.definitions.specs.Sizes.{Row, total_of, same_name, reference, any_reference, is_element_size, counted_by, first_count}
use Rattle.definitions.specs.Sizes.{mul_size, array_bits, typed_element, element_size, array_size}
use Rattle.definitions.specs.Refusals.{large_size}
use Rattle.definitions.specs.declared.ArraySize.{ArraySize}
use Rattle.definitions.specs.declared.ElementSize.{ElementSize}
use Rattle.definitions.specs.declared.Field.{Field}
use Rattle.definitions.specs.declared.Part.{Part}
use Rattle.definitions.specs.declared.Reference.{Reference}
use Rattle.definitions.specs.declared.Size.{Size}
use Rattle.arrays.specs.Shapes.{product}
use Rattle.emits.specs.BlockOf.{BlockFits}
use Rattle.array_fields.specs.declared.ArrayField.{ArrayField}
use Rattle.array_fields.specs.Arrays.{array_at}

-- ---- a count that is not static

uncounted : (e : ElementSize) (m : ArraySize) (b : Bool) (x : ArraySize) → product e x ≡ 0 → product e m ≡ 0 → product e (pick b x m) ≡ 0
uncounted e m true x hx hm = hx
uncounted e m false x hx hm = hm

dynamic-size : (e : ElementSize) → product e ArraySize.DynamicSize ≡ 0
dynamic-size (ElementSize.Static n) = refl
dynamic-size ElementSize.Dynamic = refl
dynamic-size ElementSize.Unknown = refl

dynamic-count : (e : ElementSize) → product e ArraySize.DynamicCount ≡ 0
dynamic-count (ElementSize.Static n) = refl
dynamic-count ElementSize.Dynamic = refl
dynamic-count ElementSize.Unknown = refl

unknown-count : (e : ElementSize) → product e ArraySize.Unknown ≡ 0
unknown-count (ElementSize.Static n) = refl
unknown-count ElementSize.Dynamic = refl
unknown-count ElementSize.Unknown = refl

counted_none : (s : Text) (id : Part) (e : ElementSize) (by : Option Reference) (m : ArraySize) → product e m ≡ 0 → product e (counted_by s id by m) ≡ 0
counted_none s id e None m h = h
counted_none s id e (Some (Reference.Size of width)) m h = uncounted e m (same_name s of id) ArraySize.DynamicSize (dynamic-size e) h
counted_none s id e (Some (Reference.Count of)) m h = uncounted e m (same_name s of id) ArraySize.DynamicCount (dynamic-count e) h
counted_none s id e (Some (Reference.ElementSize of)) m h = h

first-none : (s : Text) (id : Part) (e : ElementSize) (fs : List Field) → product e (first_count s id fs) ≡ 0
unfolding first_count
first-none s id e [] = unknown-count e
first-none s id e (f ∷ fs) = counted_none s id e (reference f.desc) (first_count s id fs) (first-none s id e fs)

-- ---- a static count

bytes_low : (bits count : ℕ) → bits / 8 * count ≤ bits * count
bytes_low bits count = mul-le-mul_right count (div-le_self bits 8)

typed-fits : (z : Size) (b : Bool) (count : ℕ) → large_size (mul_size z count) ≡ false → product (typed_element z b) (ArraySize.StaticCount count) < 2 ^ 64
typed-fits (Size.Static bits) b count h = omega (arith, bytes_low bits count, ltb-false 2147483647 (bits * count) h)
typed-fits Size.Dynamic true count h = omega arith
typed-fits Size.Dynamic false count h = omega arith
typed-fits Size.Unknown true count h = omega arith
typed-fits Size.Unknown false count h = omega arith

module _ (s : Text) (rows : List Row) (fs : List Field) where
  product-fits : (id : Part) (width : Option ℕ) (type : Option Part) (size : Option ℕ) → large_size (array_bits s rows fs id width type size) ≡ false
      → product (element_size s rows fs id width type) (array_size s fs id size) < 2 ^ 64
  product-fits id width type None h = omega (arith, first-none s id (element_size s rows fs id width type) fs)
  product-fits id (Some bits) type (Some count) h =
      omega (arith, bytes_low bits count, mul_comm bits count, ltb-false 2147483647 (count * bits) h)
  product-fits id None (Some type) (Some n) h = typed-fits (total_of s rows type) (any_reference (is_element_size s id) fs) n h
  product-fits id None None (Some count) h = omega arith

  pub array-fits : (padding : Option ℕ) (a : ArrayField) → large_size (array_bits s rows fs a.id a.width a.type_id a.size) ≡ false
      → BlockFits (array_at s rows fs padding a)
  unfolding array_at
  array-fits padding a h = product-fits a.id a.width a.type_id a.size h
