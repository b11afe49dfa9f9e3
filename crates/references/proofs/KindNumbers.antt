-- What the number of a field's kind says of the field: 3 is a size, 4 a count, 5 an element size, and every other refers to nothing.
-- Assumes nothing.
use Rattle.std.specs.Prelude.{Option, Some, None}
use Prim.Native.Nat.{ℕ, ◌+◌, ◌*◌, ◌/◌}
use mathlib.Core.List.{List}
use mathlib.Core.Path.{◌≡◌, refl, sym, ap, ◌∙◌}
use native.Mathlib.Omega.{arith}
use lib.ListN.{get_or}
use Rattle.definitions.specs.Record.{part_of}
use Rattle.definitions.specs.Sizes.{reference}
use Rattle.definitions.specs.declared.FieldDesc.{FieldDesc}
use Rattle.definitions.specs.declared.Part.{Part}
use Rattle.definitions.specs.declared.Reference.{Reference}
use Rattle.tables.specs.Tables.{field_here}
use Rattle.tables.specs.Words.{plain_of}
use Rattle.tables.proofs.FieldKinds.{kind_of, kind-read, plain-read}

silent : (d : FieldDesc) → (kind_of d ≡ 3 → ⊥) → (kind_of d ≡ 4 → ⊥) → (kind_of d ≡ 5 → ⊥) → None ≡ reference d
silent (FieldDesc.Checksum of) a b c = refl
silent (FieldDesc.Padding size) a b c = refl
silent (FieldDesc.Size of width) a b c = absurd (a refl)
silent (FieldDesc.Count of width) a b c = absurd (b refl)
silent (FieldDesc.ElementSize of width) a b c = absurd (c refl)
silent FieldDesc.Body a b c = refl
silent (FieldDesc.Payload modifier) a b c = refl
silent (FieldDesc.FixedScalar width value) a b c = refl
silent (FieldDesc.FixedEnum type tag) a b c = refl
silent (FieldDesc.Reserved width) a b c = refl
silent (FieldDesc.Array id width type modifier size) a b c = refl
silent (FieldDesc.Scalar id width) a b c = refl
silent (FieldDesc.Flag id) a b c = refl
silent (FieldDesc.Typedef id type) a b c = refl

-- ---- the exits of `reference_in`

module _ (values : List ℕ) {at p : ℕ} (ep : at ≡ p) where
  there : {r : Option Reference} → r ≡ reference (field_here values at).desc → r ≡ reference (field_here values p).desc
  there er = er ∙ ap (λ (p : ℕ). reference (field_here values p).desc) ep

  module _ {kind : ℕ} (ek : kind ≡ get_or values (at / 16 * 17 + 1) 0) where
    pub refers-not : (kind ≡ 3 → ⊥) → (kind ≡ 4 → ⊥) → (kind ≡ 5 → ⊥) → None ≡ reference (field_here values p).desc
    refers-not a b c =
        there (
        silent (field_here values at).desc (λ h. a (omega (arith, kind-read values at))) (λ h. b (omega (arith, kind-read values at)))
        (λ h. c (omega (arith, kind-read values at))))

    module _ {of : Part} (eo : of ≡ part_of (get_or values (at / 16 * 17 + 2) 0) (get_or values (at / 16 * 17 + 3) 0)) where
      pub refers-size : {width : ℕ} → width ≡ get_or values (at / 16 * 17 + 4) 0 → kind ≡ 3
          → Some (Reference.Size of width) ≡ reference (field_here values p).desc
      unfolding plain_of
      refers-size {width} ew h =
          there (plain-read (λ d. Some (Reference.Size of width) ≡ reference d) values at 3 (omega arith) (sym ek ∙ h) (rw (eo, ew)))

      pub refers-count : kind ≡ 4 → Some (Reference.Count of) ≡ reference (field_here values p).desc
      unfolding plain_of
      refers-count h = there (plain-read (λ d. Some (Reference.Count of) ≡ reference d) values at 4 (omega arith) (sym ek ∙ h) (rw eo))

      pub refers-element : kind ≡ 5 → Some (Reference.ElementSize of) ≡ reference (field_here values p).desc
      unfolding plain_of
      refers-element h = there (plain-read (λ d. Some (Reference.ElementSize of) ≡ reference d) values at 5 (omega arith) (sym ek ∙ h) (rw eo))
