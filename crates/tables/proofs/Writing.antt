-- Numbers written one after the other (`sets`): what the loop keeps, and how many numbers each thing has.
-- Assumes nothing.
use Rattle.std.specs.Prelude.{Option, Some, None}
use Prim.Native.Nat.{ℕ, suc, ◌+◌, ◌≤◌}
use mathlib.Core.List.{List, [], ◌∷◌, ◌++◌}
use mathlib.Core.Path.{◌≡◌, refl, ap, ◌∙◌}
use native.Mathlib.Omega.{arith}
use lib.ListN.{length, drop, length-append}
use lib.Seq.{sets}
use Rattle.definitions.specs.declared.Part.{Part}
use Rattle.definitions.specs.declared.Modifier.{Modifier}
use Rattle.definitions.specs.declared.FieldDesc.{FieldDesc}
use Rattle.definitions.specs.declared.Condition.{Condition}
use Rattle.definitions.specs.declared.Field.{Field}
use Rattle.definitions.specs.declared.Size.{Size}
use Rattle.definitions.specs.declared.DeclDesc.{DeclDesc}
use Rattle.definitions.specs.declared.Decl.{Decl}
use Rattle.tables.specs.Words.{maybe_words, maybe_part_words, modifier_words, desc_words, cond_words}
use Rattle.tables.specs.Words.{field_words, decl_desc_words, stated_words, decl_words}

-- ---- the loop: what is left of the words, written from here on, comes to the whole

pub record Left (l₀ : List ℕ) (at : ℕ) (words l : List ℕ) (k : ℕ) : Type 0 where
  pub passed : k ≤ length words
  pub long : length l ≡ length l₀
  pub rest : sets l (at + k) (drop k words) ≡ sets l₀ at words

-- ---- how many numbers there are

pub maybe-length : (m : Option ℕ) → length (maybe_words m) ≡ 2
maybe-length None = refl
maybe-length (Some n) = refl

pub maybe-part-length : (m : Option Part) → length (maybe_part_words m) ≡ 3
maybe-part-length None = refl
maybe-part-length (Some p) = refl

pub modifier-length : (m : Modifier) → length (modifier_words m) ≡ 2
modifier-length Modifier.None = refl
modifier-length (Modifier.Plus n) = refl
modifier-length (Modifier.Minus n) = refl

pub desc-length : (d : FieldDesc) → length (desc_words d) ≡ 12
desc-length FieldDesc.Body = refl
desc-length (FieldDesc.Checksum of) = refl
desc-length (FieldDesc.Padding size) = refl
desc-length (FieldDesc.Size of width) = refl
desc-length (FieldDesc.Count of width) = refl
desc-length (FieldDesc.ElementSize of width) = refl
desc-length (FieldDesc.FixedScalar width value) = refl
desc-length (FieldDesc.Reserved width) = refl
desc-length (FieldDesc.Scalar id width) = refl
desc-length (FieldDesc.Flag id) = refl
desc-length (FieldDesc.FixedEnum type tag) = refl
desc-length (FieldDesc.Typedef id type) = refl
desc-length (FieldDesc.Payload modifier) = omega (arith, modifier-length modifier)
desc-length (FieldDesc.Array id width type modifier size) =
    simp length-append (omega (arith, maybe-length width, maybe-length size, maybe-part-length type, modifier-length modifier))

pub cond-length : (c : Option Condition) → length (cond_words c) ≡ 4
cond-length None = refl
cond-length (Some cond) = refl

pub field-length : (f : Field) → length (field_words f) ≡ 17
field-length f = ap suc (length-append (desc_words f.desc) (cond_words f.cond)) ∙ omega (arith, desc-length f.desc, cond-length f.cond)

pub decl-desc-length : (d : DeclDesc) → length (decl_desc_words d) ≡ 4
decl-desc-length (DeclDesc.Checksum width) = refl
decl-desc-length (DeclDesc.CustomField width) = simp length-append (omega (arith, maybe-length width))
decl-desc-length (DeclDesc.Enum width is_open is_complete) = refl
decl-desc-length (DeclDesc.Packet parent) = ap suc (maybe-part-length parent)
decl-desc-length (DeclDesc.Struct parent) = ap suc (maybe-part-length parent)

pub stated-length : (b : Option Size) → length (stated_words b) ≡ 2
stated-length None = refl
stated-length (Some (Size.Static bits)) = refl
stated-length (Some Size.Dynamic) = refl
stated-length (Some Size.Unknown) = refl

pub row-length : (d : Decl) (count : ℕ) → length (decl_words d ++ (count ∷ [])) ≡ 10
row-length d count = simp length-append (omega (arith, decl-desc-length d.desc, stated-length d.bits))
