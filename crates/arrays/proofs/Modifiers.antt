-- The size modifier, and an array's lines behind it.
-- Assumes nothing.
use mathlib.Core.List.{List, [], ◌++◌}
use mathlib.Core.Path.{◌≡◌, refl, sym, ap, ◌∙◌}
use Prim.Native.Nat.{ℕ}
use Rattle.definitions.specs.Bytes.{Text, text, decimal}
use Rattle.definitions.specs.Lines.{Stmt, Line, render}
use Rattle.definitions.specs.Blocks.{named, Elem, modifier_lines, parse_array_field_lite, parse_array_field_full}
use Rattle.definitions.specs.declared.Arrays.{Arrays}
use Rattle.definitions.specs.declared.Options.{Options}
use Rattle.definitions.specs.declared.Products.{Products}
use Rattle.definitions.specs.declared.Modifier.{Modifier}
use Rattle.definitions.specs.declared.ElementSize.{ElementSize}
use Rattle.definitions.specs.declared.ArraySize.{ArraySize}
use Rattle.text.specs.Wrote.{Wrote}
use Rattle.text.specs.declared.Writer.{Writer}
use Rattle.text.proofs.Wrotes.{then, alike}
use Rattle.stream.proofs.Texts.{piece, ◌▸◌, line-leads}
use Rattle.expressions.specs.Statements.{stmts_bytes}
use Rattle.expressions.proofs.Follow.{follow}
use Rattle.elements.specs.Elements.{element_of}
use Rattle.elements.specs.declared.Element.{Element}
use Rattle.lite_arrays.specs.Shapes.{lite_text}
use Rattle.full_arrays.specs.Shapes.{full_text}
use Rattle.arrays.specs.Shapes.{modified_text, modifier_text, array_text}

pub modified-line : (x sign : Text) (n : ℕ) {u u₁ u₂ u₃ : Writer} → Wrote u u₁ (x ++ text " = ") → Wrote u₁ u₂ x
    → Wrote u₂ u₃ (sign ++ (decimal n ++ text ";\n"))
    → Wrote u u₃ (modified_text x sign n)
modified-line x sign n p q t = follow (piece x ▸ piece (text " = ")) p (then q t)

-- the modifier before any statements
modifier-then : (k : Modifier) (x : Text) (xs : List Stmt) → render (modifier_lines k 64 x []) ++ render xs ≡ render (modifier_lines k 64 x xs)
modifier-then Modifier.None x xs = refl
modifier-then (Modifier.Plus n) x xs = sym ((line-leads 0 (Line.minus 64 x n)).split [] (render xs))
modifier-then (Modifier.Minus n) x xs = sym ((line-leads 0 (Line.plus 64 x n)).split [] (render xs))

-- lite reads no element
lite-any : (o : Products) (id type : Text) (d : Elem) (e : ElementSize) (n : ArraySize)
    → parse_array_field_lite o id type (Elem.parsed type) [] e n ≡ parse_array_field_lite o id type d [] e n
lite-any o id type d (ElementSize.Static es) (ArraySize.StaticCount n) = refl
lite-any o id type d (ElementSize.Static es) ArraySize.DynamicCount = refl
lite-any o id type d (ElementSize.Static es) ArraySize.DynamicSize = refl
lite-any o id type d (ElementSize.Static es) ArraySize.Unknown = refl
lite-any o id type d ElementSize.Dynamic (ArraySize.StaticCount n) = refl
lite-any o id type d ElementSize.Dynamic ArraySize.DynamicCount = refl
lite-any o id type d ElementSize.Dynamic ArraySize.DynamicSize = refl
lite-any o id type d ElementSize.Dynamic ArraySize.Unknown = refl
lite-any o id type d ElementSize.Unknown (ArraySize.StaticCount n) = refl
lite-any o id type d ElementSize.Unknown ArraySize.DynamicCount = refl
lite-any o id type d ElementSize.Unknown ArraySize.DynamicSize = refl
lite-any o id type d ElementSize.Unknown ArraySize.Unknown = refl

module _ (o : Options) (id type : Text) (element : Element) (k : Modifier) (e : ElementSize) (n : ArraySize) {u u₁ u₂ : Writer} where
  pub array-lite : o.arrays ≡ Arrays.Lite → Wrote u u₁ (modifier_text o.arrays id k) → Wrote u₁ u₂ (lite_text o.products id type e n)
      → Wrote u u₂ (array_text o id type element k e n)
  unfolding modifier_text lite_text array_text stmts_bytes
  array-lite h p t =
      rw h
      (alike
      (modifier-then k (named Arrays.Lite id (text "_size_")) (parse_array_field_lite o.products id type (Elem.parsed type) [] e n)
      ∙ ap (λ (xs : List Stmt). render (modifier_lines k 64 (named Arrays.Lite id (text "_size_")) xs))
      (lite-any o.products id type (element_of type element) e n))
      (then (rw h at p) t))

  pub array-full : o.arrays ≡ Arrays.Full → Wrote u u₁ (modifier_text o.arrays id k)
      → Wrote u₁ u₂ (full_text o.products id type element e n)
      → Wrote u u₂ (array_text o id type element k e n)
  unfolding modifier_text full_text array_text stmts_bytes
  array-full h p t =
      rw h
      (alike (modifier-then k (named Arrays.Full id (text "_size_")) (parse_array_field_full o.products id type (element_of type element) [] e n))
      (then (rw h at p) t))
