-- `element_size`, case by case.
-- Assumes nothing.
use Rattle.std.specs.Prelude.{Option, Some, None}
use Prim.Native.Nat.{ℕ}
use mathlib.Core.Bool.{Bool}
use mathlib.Core.List.{List}
use mathlib.Core.Path.{◌≡◌, sym, ap, ◌∙◌}
use Rattle.definitions.specs.Bytes.{Text}
use Rattle.definitions.specs.Sizes.{Row, any_reference, is_element_size, total_of, typed_element, element_size}
use Rattle.definitions.specs.declared.ElementSize.{ElementSize}
use Rattle.definitions.specs.declared.Field.{Field}
use Rattle.definitions.specs.declared.Part.{Part}
use Rattle.definitions.specs.declared.Size.{Size}

module _ (s : Text) (rows : List Row) (fs : List Field) (id : Part) where
  module _ {w : Option ℕ} (ew : w ≡ None) {t : Option Part} where
    pub element-type : {type : Part} → t ≡ Some type → {z : Size} → z ≡ total_of s rows type → {b : Bool} → b ≡ any_reference (is_element_size s id) fs
        → {r : ElementSize} → r ≡ typed_element z b → r ≡ element_size s rows fs id w t
    element-type {type} et {z} ez {b} eb {r} er =
        er ∙ ap (λ (z : Size). typed_element z b) ez ∙ ap (typed_element (total_of s rows type)) eb
        ∙ sym (ap (λ (w : Option ℕ). element_size s rows fs id w t) ew ∙ ap (element_size s rows fs id None) et)

    pub element-neither : t ≡ None → ElementSize.Unknown ≡ element_size s rows fs id w t
    element-neither et = sym (ap (λ (w : Option ℕ). element_size s rows fs id w t) ew ∙ ap (element_size s rows fs id None) et)
