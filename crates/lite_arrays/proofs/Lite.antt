-- `parse_array_field_lite`: elements of Unknown size under either word for products.
-- Assumes nothing.
use mathlib.Core.Path.{◌≡◌, refl}
use Rattle.definitions.specs.Bytes.{Text}
use Rattle.definitions.specs.declared.Products.{Products}
use Rattle.definitions.specs.declared.ElementSize.{ElementSize}
use Rattle.definitions.specs.declared.ArraySize.{ArraySize}
use Rattle.text.specs.Wrote.{Wrote}
use Rattle.text.specs.declared.Writer.{Writer}
use Rattle.text.proofs.Wrotes.{alike}
use Rattle.lite_arrays.specs.Shapes.{lite_text}

-- elements of Unknown size: no product is checked
unknown-text : (o : Products) (id type : Text) (n : ArraySize)
    → lite_text Products.Plain id type ElementSize.Unknown n ≡ lite_text o id type ElementSize.Unknown n
unfolding lite_text
unknown-text o id type (ArraySize.StaticCount k) = refl
unknown-text o id type ArraySize.DynamicCount = refl
unknown-text o id type ArraySize.DynamicSize = refl
unknown-text o id type ArraySize.Unknown = refl

pub by-unknown : (o : Products) (id type : Text) (e : ElementSize) (n : ArraySize) {u u₁ : Writer} → e ≡ ElementSize.Unknown
    → Wrote u u₁ (lite_text Products.Plain id type ElementSize.Unknown n)
    → Wrote u u₁ (lite_text o id type e n)
by-unknown o id type e n h p = rw h (alike (unknown-text o id type n) p)
