-- The size of a field, kind by kind, and its padding.
-- Assumes nothing.
use Rattle.std.specs.Prelude.{Option, None}
use Prim.Native.Nat.{ℕ, ◌+◌, ◌*◌, ◌-◌, ◌/◌, ◌≤◌, ◌<◌}
use mathlib.Core.Bool.{Bool, true, false}
use mathlib.Core.List.{List}
use mathlib.Core.Path.{◌≡◌, refl, sym, ap, ◌∙◌}
use native.Mathlib.Omega.{arith}
use lib.ListN.{get_or}
use Rattle.definitions.specs.Bytes.{Text}
use Rattle.definitions.specs.Sizes.{Row, given, has_array_size, array_bits, desc_size, padding_bits, padded_by}
use Rattle.definitions.specs.Refusals.{large_size}
use Rattle.definitions.specs.declared.Field.{Field}
use Rattle.definitions.specs.declared.FieldDesc.{FieldDesc}
use Rattle.definitions.specs.declared.Part.{Part}
use Rattle.definitions.specs.declared.Size.{Size}
use Rattle.tables.specs.Tables.{field_here, fields_from}
use Rattle.tables.proofs.FieldKinds.{kind_of, kind-read}
use Rattle.bits.specs.Capped.{cap, capped, capped_number}
use Rattle.bits.proofs.Caps.{cap-under, capped-fine}
use Rattle.tables.proofs.Walks.{fields-end, fields-more}

pub given-capped : {a : Bool} (b : Bool) {r : Size} → a ≡ b → r ≡ given a → r ≡ capped (given b)
given-capped {a} b e h = h ∙ ap given e ∙ by b
  where
    by : (b : Bool) → given b ≡ capped (given b)
    by true = refl
    by false = refl

pub static-capped : (w : ℕ) {x : ℕ} → x ≡ cap w → Size.Static x ≡ capped (Size.Static w)
static-capped w e = ap (λ (n : ℕ). Size.Static n) e

pub total-capped : {z y : Size} {r : Size} → y ≡ z → r ≡ capped y → r ≡ capped z
total-capped e h = h ∙ ap capped e

pub one-capped : Size.Static 1 ≡ capped (Size.Static 1)
one-capped = ap (λ (n : ℕ). Size.Static n) (cap-under 1 (omega arith))

module _ (s : Text) (rows : List Row) (fs : List Field) where
  module _ (id : Part) where
    pub array-given : (w : Option ℕ) (t : Option Part) {m : Option ℕ} → m ≡ None → {b : Bool} → b ≡ has_array_size s fs id
        → {r : Size} → r ≡ given b → r ≡ capped (array_bits s rows fs id w t m)
    array-given w t e eb er = given-capped (has_array_size s fs id) eb er ∙ ap (λ (m : Option ℕ). capped (array_bits s rows fs id w t m)) (sym e)

  pub desc-as : {d c : FieldDesc} {r : Size} → d ≡ c → r ≡ capped (desc_size s rows fs c) → r ≡ capped (desc_size s rows fs d)
  desc-as e h = h ∙ ap (λ (d : FieldDesc). capped (desc_size s rows fs d)) (sym e)

pub fine-size : {z : Size} → large_size z ≡ false → {r : Size} → r ≡ capped z → r ≡ z
fine-size {z} h e = e ∙ capped-fine z h

-- ---- the padding

no-padding : (d : FieldDesc) → (kind_of d ≡ 2 → ⊥) → None ≡ capped_number (padding_bits d)
no-padding (FieldDesc.Checksum of) h = refl
no-padding (FieldDesc.Padding size) h = absurd (h refl)
no-padding (FieldDesc.Size of width) h = refl
no-padding (FieldDesc.Count of width) h = refl
no-padding (FieldDesc.ElementSize of width) h = refl
no-padding FieldDesc.Body h = refl
no-padding (FieldDesc.Payload modifier) h = refl
no-padding (FieldDesc.FixedScalar width value) h = refl
no-padding (FieldDesc.FixedEnum type tag) h = refl
no-padding (FieldDesc.Reserved width) h = refl
no-padding (FieldDesc.Array id width type modifier size) h = refl
no-padding (FieldDesc.Scalar id width) h = refl
no-padding (FieldDesc.Flag id) h = refl
no-padding (FieldDesc.Typedef id type) h = refl

module _ (values fields : List ℕ) (j n k : ℕ) where
  pub padded-none : n ≤ k + 1 → None ≡ capped_number (padded_by (fields_from values fields (j + (k + 1)) (n - (k + 1))))
  padded-none h = ap (λ (fs : List Field). capped_number (padded_by fs)) (sym (fields-end values fields j n (k + 1) h))

  pub padded-past : n ≤ k → None ≡ capped_number (padded_by (fields_from values fields (j + (k + 1)) (n - (k + 1))))
  padded-past h = padded-none (omega arith)

  module _ (h : k + 1 < n) {at : ℕ} (ea : at ≡ get_or fields (j + (k + 1)) 0) where
    behind : capped_number (padding_bits (field_here values at).desc) ≡ capped_number (padded_by (fields_from values fields (j + (k + 1)) (n - (k + 1))))
    behind =
        ap (λ (p : ℕ). capped_number (padding_bits (field_here values p).desc)) ea
        ∙ ap (λ (fs : List Field). capped_number (padded_by fs)) (sym (fields-more values fields j n (k + 1) h))

    pub padded-other : {kind : ℕ} → kind ≡ get_or values (at / 16 * 17 + 1) 0 → (kind ≡ 2 → ⊥)
        → None ≡ capped_number (padded_by (fields_from values fields (j + (k + 1)) (n - (k + 1))))
    padded-other ek o = no-padding (field_here values at).desc (λ e. o (omega (arith, kind-read values at))) ∙ behind

    pub padded-next : {f : Field} → f ≡ field_here values at → {r : Option ℕ} → r ≡ capped_number (padding_bits f.desc)
        → r ≡ capped_number (padded_by (fields_from values fields (j + (k + 1)) (n - (k + 1))))
    padded-next ef er = er ∙ ap (λ (f : Field). capped_number (padding_bits f.desc)) ef ∙ behind
