-- The bytes of an array, with or without its padding; the bits of its size variable are not written.
-- Assumes nothing.
use Rattle.std.specs.Prelude.{Option, Some, None}
use mathlib.Core.Path.{◌≡◌, refl, sym}
use Prim.Native.Nat.{ℕ}
use Rattle.definitions.specs.Bytes.{Text, part}
use Rattle.definitions.specs.Blocks.{Array, Block}
use Rattle.definitions.specs.declared.Part.{Part}
use Rattle.definitions.specs.declared.Modifier.{Modifier}
use Rattle.definitions.specs.declared.Options.{Options}
use Rattle.definitions.specs.declared.ElementSize.{ElementSize}
use Rattle.definitions.specs.declared.ArraySize.{ArraySize}
use Rattle.text.specs.Wrote.{Wrote}
use Rattle.text.specs.declared.Writer.{Writer}
use Rattle.text.proofs.Wrotes.{alike}
use Rattle.stream.specs.Stream.{block_text}
use Rattle.elements.specs.declared.Element.{Element}
use Rattle.arrays.specs.Shapes.{array_of, array_text}
use Rattle.emits.specs.BlockOf.{type_text, array_block}

pub some-type : (s : Text) (t : Option Part) (name : Part) {x : Text} → t ≡ Some name → x ≡ part s name → x ≡ type_text s t
some-type s t name e h = rw e h

-- the bits of a size variable are not written
any-bits : (k : Modifier) (w : ℕ) (o : Options) (id type : Text) (element : Element) (e : ElementSize) (n : ArraySize)
    → array_text o id type element k e n ≡ block_text (Block.array k w (array_of o id type element e n))
unfolding block_text array_text
any-bits Modifier.None w o id type element e n = refl
any-bits (Modifier.Plus j) w o id type element e n = refl
any-bits (Modifier.Minus j) w o id type element e n = refl

any-bits-padded : (p : ℕ) (k : Modifier) (w : ℕ) (a : Array) → block_text (Block.padded_array p k 64 a) ≡ block_text (Block.padded_array p k w a)
unfolding block_text
any-bits-padded p Modifier.None w a = refl
any-bits-padded p (Modifier.Plus n) w a = refl
any-bits-padded p (Modifier.Minus n) w a = refl

module _ (s : Text) (o : Options) (padding : Option ℕ) (id : Part) (type : Option Part) (element : Element) (k : Modifier) (e : ElementSize) (n : ArraySize)
    (w : ℕ) {x y : Text} {u u₁ : Writer} where
  pub not-padded : padding ≡ None → x ≡ part s id → y ≡ type_text s type → Wrote u u₁ (array_text o x y element k e n)
      → Wrote u u₁ (block_text (array_block s o w padding id type element k e n))
  not-padded h a b p = rw (h, sym a, sym b) (alike (any-bits k w o x y element e n) p)

  pub padded : (bytes : ℕ) → padding ≡ Some bytes → x ≡ part s id → y ≡ type_text s type
      → Wrote u u₁ (block_text (Block.padded_array bytes k 64 (array_of o x y element e n)))
      → Wrote u u₁ (block_text (array_block s o w padding id type element k e n))
  padded bytes h a b p = rw (h, sym a, sym b) (alike (any-bits-padded bytes k w (array_of o x y element e n)) p)
