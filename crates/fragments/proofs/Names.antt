-- The names that a field or a declaration has, as texts. Where they are the same in two texts, what says the same as the one says the same as the other; and
-- what says the same as one thing says the same as each other.
-- Assumes nothing.
use Rattle.std.specs.Prelude.{Option, Some, None}
use Rattle.definitions.specs.declared.Part.{Part}
use mathlib.Core.List.{List, [], ◌∷◌}
use mathlib.Core.Path.{◌≡◌, sym, ap, ◌∙◌}
use Rattle.definitions.specs.Bytes.{Text, part}
use Rattle.definitions.specs.declared.FieldDesc.{FieldDesc}
use Rattle.definitions.specs.declared.Condition.{Condition}
use Rattle.definitions.specs.declared.Field.{Field}
use Rattle.definitions.specs.declared.DeclDesc.{DeclDesc}
use Rattle.definitions.specs.declared.Decl.{Decl}
use Rattle.alike.proofs.Same.{SameMaybe, SameDesc, SameCond, SameField, SameDeclDesc, SameDecl}
use Rattle.fragments.proofs.Lists.{first, rest}

-- ---- the names

abbrev pub maybe_names : Text → Option Part → List Text
maybe_names s None = []
maybe_names s (Some a) = part s a ∷ []

abbrev pub desc_names : Text → FieldDesc → List Text
desc_names s (FieldDesc.Checksum a) = part s a ∷ []
desc_names s (FieldDesc.Padding size) = []
desc_names s (FieldDesc.Size a width) = part s a ∷ []
desc_names s (FieldDesc.Count a width) = part s a ∷ []
desc_names s (FieldDesc.ElementSize a width) = part s a ∷ []
desc_names s FieldDesc.Body = []
desc_names s (FieldDesc.Payload modifier) = []
desc_names s (FieldDesc.FixedScalar width value) = []
desc_names s (FieldDesc.FixedEnum a c) = part s a ∷ part s c ∷ []
desc_names s (FieldDesc.Reserved width) = []
desc_names s (FieldDesc.Array a width c modifier size) = part s a ∷ maybe_names s c
desc_names s (FieldDesc.Scalar a width) = part s a ∷ []
desc_names s (FieldDesc.Flag a) = part s a ∷ []
desc_names s (FieldDesc.Typedef a c) = part s a ∷ part s c ∷ []

abbrev pub cond_names : Text → Option Condition → List Text
cond_names s None = []
cond_names s (Some cond) = part s cond.id ∷ []

abbrev pub decl_names : Text → DeclDesc → List Text
decl_names s (DeclDesc.Checksum width) = []
decl_names s (DeclDesc.CustomField width) = []
decl_names s (DeclDesc.Enum width is_open is_complete) = []
decl_names s (DeclDesc.Packet parent) = maybe_names s parent
decl_names s (DeclDesc.Struct parent) = maybe_names s parent

-- of a field: those of its kind, and that of its condition
abbrev pub field_names : Text → Field → List Text × List Text
field_names s x = (desc_names s x.desc, cond_names s x.cond)

-- of a declaration: its own, and its parent's
abbrev pub own_names : Text → Decl → Text × List Text
own_names s d = (part s d.id, decl_names s d.desc)

-- ---- the same names in two texts s and u

module _ (s u t : Text) where
  maybe-from : {a b : Option Part} → maybe_names s a ≡ maybe_names u a → SameMaybe s t a b → SameMaybe u t a b
  maybe-from e SameMaybe.none = SameMaybe.none
  maybe-from e (SameMaybe.some h) = SameMaybe.some (sym (first e) ∙ h)

  desc-from : {d e : FieldDesc} → desc_names s d ≡ desc_names u d → SameDesc s t d e → SameDesc u t d e
  desc-from e (SameDesc.checksum h) = SameDesc.checksum (sym (first e) ∙ h)
  desc-from e SameDesc.padding = SameDesc.padding
  desc-from e (SameDesc.size h) = SameDesc.size (sym (first e) ∙ h)
  desc-from e (SameDesc.count h) = SameDesc.count (sym (first e) ∙ h)
  desc-from e (SameDesc.element_size h) = SameDesc.element_size (sym (first e) ∙ h)
  desc-from e SameDesc.body = SameDesc.body
  desc-from e SameDesc.payload = SameDesc.payload
  desc-from e SameDesc.fixed_scalar = SameDesc.fixed_scalar
  desc-from e (SameDesc.fixed_enum h k) = SameDesc.fixed_enum (sym (first e) ∙ h) (sym (first (rest e)) ∙ k)
  desc-from e SameDesc.reserved = SameDesc.reserved
  desc-from e (SameDesc.array h k) = SameDesc.array (sym (first e) ∙ h) (maybe-from (rest e) k)
  desc-from e (SameDesc.scalar h) = SameDesc.scalar (sym (first e) ∙ h)
  desc-from e (SameDesc.flag h) = SameDesc.flag (sym (first e) ∙ h)
  desc-from e (SameDesc.typedef h k) = SameDesc.typedef (sym (first e) ∙ h) (sym (first (rest e)) ∙ k)

  cond-from : {c d : Option Condition} → cond_names s c ≡ cond_names u c → SameCond s t c d → SameCond u t c d
  cond-from e SameCond.none = SameCond.none
  cond-from e (SameCond.some h) = SameCond.some (sym (first e) ∙ h)

  decl-desc-from : {d e : DeclDesc} → decl_names s d ≡ decl_names u d → SameDeclDesc s t d e → SameDeclDesc u t d e
  decl-desc-from e SameDeclDesc.checksum = SameDeclDesc.checksum
  decl-desc-from e SameDeclDesc.custom = SameDeclDesc.custom
  decl-desc-from e SameDeclDesc.enum = SameDeclDesc.enum
  decl-desc-from e (SameDeclDesc.packet h) = SameDeclDesc.packet (maybe-from e h)
  decl-desc-from e (SameDeclDesc.struct h) = SameDeclDesc.struct (maybe-from e h)

  pub field-from : {x y : Field} → field_names s x ≡ field_names u x → SameField s t x y → SameField u t x y
  field-from e h =
      record {
        desc = desc-from (ap (λ (n : List Text × List Text). n.0) e) h.desc;
        cond = cond-from (ap (λ (n : List Text × List Text). n.1) e) h.cond;
      }

  pub decl-from : {d e : Decl} → own_names s d ≡ own_names u d → SameDecl s t d e → SameDecl u t d e
  decl-from e h =
      record {
        id = sym (ap (λ (n : Text × List Text). n.0) e) ∙ h.id;
        desc = decl-desc-from (ap (λ (n : Text × List Text). n.1) e) h.desc;
      }

-- ---- two things that say the same as a third

module _ (u s t : Text) where
  maybe-both : {a b c : Option Part} → SameMaybe u s a b → SameMaybe u t a c → SameMaybe s t b c
  maybe-both SameMaybe.none SameMaybe.none = SameMaybe.none
  maybe-both (SameMaybe.some h) (SameMaybe.some k) = SameMaybe.some (sym h ∙ k)

  desc-both : {a b c : FieldDesc} → SameDesc u s a b → SameDesc u t a c → SameDesc s t b c
  desc-both (SameDesc.checksum h) (SameDesc.checksum k) = SameDesc.checksum (sym h ∙ k)
  desc-both SameDesc.padding SameDesc.padding = SameDesc.padding
  desc-both (SameDesc.size h) (SameDesc.size k) = SameDesc.size (sym h ∙ k)
  desc-both (SameDesc.count h) (SameDesc.count k) = SameDesc.count (sym h ∙ k)
  desc-both (SameDesc.element_size h) (SameDesc.element_size k) = SameDesc.element_size (sym h ∙ k)
  desc-both SameDesc.body SameDesc.body = SameDesc.body
  desc-both SameDesc.payload SameDesc.payload = SameDesc.payload
  desc-both SameDesc.fixed_scalar SameDesc.fixed_scalar = SameDesc.fixed_scalar
  desc-both (SameDesc.fixed_enum h i) (SameDesc.fixed_enum k j) = SameDesc.fixed_enum (sym h ∙ k) (sym i ∙ j)
  desc-both SameDesc.reserved SameDesc.reserved = SameDesc.reserved
  desc-both (SameDesc.array h i) (SameDesc.array k j) = SameDesc.array (sym h ∙ k) (maybe-both i j)
  desc-both (SameDesc.scalar h) (SameDesc.scalar k) = SameDesc.scalar (sym h ∙ k)
  desc-both (SameDesc.flag h) (SameDesc.flag k) = SameDesc.flag (sym h ∙ k)
  desc-both (SameDesc.typedef h i) (SameDesc.typedef k j) = SameDesc.typedef (sym h ∙ k) (sym i ∙ j)

  cond_both : {a b c : Option Condition} → SameCond u s a b → SameCond u t a c → SameCond s t b c
  cond_both SameCond.none SameCond.none = SameCond.none
  cond_both (SameCond.some h) (SameCond.some k) = SameCond.some (sym h ∙ k)

  decl-desc-both : {a b c : DeclDesc} → SameDeclDesc u s a b → SameDeclDesc u t a c → SameDeclDesc s t b c
  decl-desc-both SameDeclDesc.checksum SameDeclDesc.checksum = SameDeclDesc.checksum
  decl-desc-both SameDeclDesc.custom SameDeclDesc.custom = SameDeclDesc.custom
  decl-desc-both SameDeclDesc.enum SameDeclDesc.enum = SameDeclDesc.enum
  decl-desc-both (SameDeclDesc.packet h) (SameDeclDesc.packet k) = SameDeclDesc.packet (maybe-both h k)
  decl-desc-both (SameDeclDesc.struct h) (SameDeclDesc.struct k) = SameDeclDesc.struct (maybe-both h k)

  pub field_both : {x y z : Field} → SameField u s x y → SameField u t x z → SameField s t y z
  field_both h k = record { desc = desc-both h.desc k.desc; cond = cond_both h.cond k.cond }

  pub decl-both : {c d e : Decl} → SameDecl u s c d → SameDecl u t c e → SameDecl s t d e
  decl-both h k = record { id = sym h.id ∙ k.id; desc = decl-desc-both h.desc k.desc }
