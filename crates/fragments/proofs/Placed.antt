-- Declarations that say what fragments say, with no reading of the whole: each fragment is read alone, and its names are moved to where the fragment stands
-- in the joined text (`says-placed`).
-- Assumes nothing.
use Rattle.std.specs.Prelude.{Option, Some, None}
use mathlib.Core.List.{List, [], ◌∷◌, ◌++◌, append_assoc}
use mathlib.Core.Path.{◌≡◌, refl, sym, ap, ◌∙◌}
use Prim.Native.Nat.{ℕ, ◌+◌, ◌-◌}
use native.Mathlib.Omega.{arith}
use lib.ListN.{length, take, drop}
use lib.Seq.{drop-append_seam, drop-drop}
use Rattle.definitions.specs.Bytes.{Text, part}
use Rattle.definitions.specs.Record.{part_of, Declaration}
use Rattle.definitions.specs.declared.Part.{Part}
use Rattle.definitions.specs.declared.FieldDesc.{FieldDesc}
use Rattle.definitions.specs.declared.Condition.{Condition}
use Rattle.definitions.specs.declared.Field.{Field}
use Rattle.definitions.specs.declared.DeclDesc.{DeclDesc}
use Rattle.definitions.specs.declared.Decl.{Decl}
use Rattle.alike.proofs.Same.{SameMaybe, SameDesc, SameCond, SameField, SameDeclDesc, SameDecl}
use Rattle.fragments.proofs.Lists.{All}
use Rattle.fragments.specs.Groups.{Group, joined_fields, joined}
use Rattle.fragments.proofs.Groups.{field_in, decl_in, SaysFields, Says}
use Rattle.fragments.proofs.Names.{field-from, decl-from}
use Rattle.fragments.proofs.Tests.{FieldReads, Readable}

-- ---- moved by n bytes

abbrev moved_part : ℕ → Part → Part
moved_part n p = part_of (n + p.start) (n + p.end)

abbrev moved_maybe : ℕ → Option Part → Option Part
moved_maybe n None = None
moved_maybe n (Some p) = Some (moved_part n p)

abbrev moved_desc : ℕ → FieldDesc → FieldDesc
moved_desc n (FieldDesc.Checksum a) = FieldDesc.Checksum (moved_part n a)
moved_desc n (FieldDesc.Padding size) = FieldDesc.Padding size
moved_desc n (FieldDesc.Size a width) = FieldDesc.Size (moved_part n a) width
moved_desc n (FieldDesc.Count a width) = FieldDesc.Count (moved_part n a) width
moved_desc n (FieldDesc.ElementSize a width) = FieldDesc.ElementSize (moved_part n a) width
moved_desc n FieldDesc.Body = FieldDesc.Body
moved_desc n (FieldDesc.Payload modifier) = FieldDesc.Payload modifier
moved_desc n (FieldDesc.FixedScalar width value) = FieldDesc.FixedScalar width value
moved_desc n (FieldDesc.FixedEnum a c) = FieldDesc.FixedEnum (moved_part n a) (moved_part n c)
moved_desc n (FieldDesc.Reserved width) = FieldDesc.Reserved width
moved_desc n (FieldDesc.Array a width c modifier size) = FieldDesc.Array (moved_part n a) width (moved_maybe n c) modifier size
moved_desc n (FieldDesc.Scalar a width) = FieldDesc.Scalar (moved_part n a) width
moved_desc n (FieldDesc.Flag a) = FieldDesc.Flag (moved_part n a)
moved_desc n (FieldDesc.Typedef a c) = FieldDesc.Typedef (moved_part n a) (moved_part n c)

abbrev moved_cond : ℕ → Option Condition → Option Condition
moved_cond n None = None
moved_cond n (Some cond) = Some (record { id = moved_part n cond.id; value = cond.value })

abbrev moved_decl_desc : ℕ → DeclDesc → DeclDesc
moved_decl_desc n (DeclDesc.Checksum width) = DeclDesc.Checksum width
moved_decl_desc n (DeclDesc.CustomField width) = DeclDesc.CustomField width
moved_decl_desc n (DeclDesc.Enum width is_open is_complete) = DeclDesc.Enum width is_open is_complete
moved_decl_desc n (DeclDesc.Packet parent) = DeclDesc.Packet (moved_maybe n parent)
moved_decl_desc n (DeclDesc.Struct parent) = DeclDesc.Struct (moved_maybe n parent)

abbrev moved_field : ℕ → Field → Field
moved_field n x = record { key = n; desc = moved_desc n x.desc; cond = moved_cond n x.cond }

abbrev moved_decl : ℕ → Decl → Decl
moved_decl n d = record { key = n; id = moved_part n d.id; bits = d.bits; desc = moved_decl_desc n d.desc }

-- ---- the declarations of joined fragments that stand from n on

abbrev placed_fields : ℕ → List Text → List Field
placed_fields n [] = []
placed_fields n (f ∷ fs) = moved_field n (field_in f) ∷ placed_fields (n + length f) fs

unfoldable pub placed : ℕ → List Group → List Declaration
placed n [] = []
placed n (g ∷ gs) =
    record { decl = moved_decl n (decl_in g.header); fields = placed_fields (n + length g.header) g.fields }
    ∷ placed (n + length g.header + length (joined_fields g.fields)) gs

-- ---- where the text `u` stands in t from n on, names of u are moved there

module _ (t u : Text) (n : ℕ) (there : drop n t ≡ u) where
  part_moved : (p : Part) → part u p ≡ part t (moved_part n p)
  part_moved p =
      ap (λ (l : Text). take (p.end - p.start) (drop p.start l)) (sym there)
      ∙ ap (take (p.end - p.start)) (drop-drop p.start n t)
      ∙ ap (λ (k : ℕ). take k (drop (n + p.start) t)) (let e : p.end - p.start ≡ n + p.end - (n + p.start) = omega arith in e)

  maybe-moved : (a : Option Part) → SameMaybe u t a (moved_maybe n a)
  maybe-moved None = SameMaybe.none
  maybe-moved (Some a) = SameMaybe.some (part_moved a)

  desc-moved : (d : FieldDesc) → SameDesc u t d (moved_desc n d)
  desc-moved (FieldDesc.Checksum a) = SameDesc.checksum (part_moved a)
  desc-moved (FieldDesc.Padding size) = SameDesc.padding
  desc-moved (FieldDesc.Size a width) = SameDesc.size (part_moved a)
  desc-moved (FieldDesc.Count a width) = SameDesc.count (part_moved a)
  desc-moved (FieldDesc.ElementSize a width) = SameDesc.element_size (part_moved a)
  desc-moved FieldDesc.Body = SameDesc.body
  desc-moved (FieldDesc.Payload modifier) = SameDesc.payload
  desc-moved (FieldDesc.FixedScalar width value) = SameDesc.fixed_scalar
  desc-moved (FieldDesc.FixedEnum a c) = SameDesc.fixed_enum (part_moved a) (part_moved c)
  desc-moved (FieldDesc.Reserved width) = SameDesc.reserved
  desc-moved (FieldDesc.Array a width c modifier size) = SameDesc.array (part_moved a) (maybe-moved c)
  desc-moved (FieldDesc.Scalar a width) = SameDesc.scalar (part_moved a)
  desc-moved (FieldDesc.Flag a) = SameDesc.flag (part_moved a)
  desc-moved (FieldDesc.Typedef a c) = SameDesc.typedef (part_moved a) (part_moved c)

  cond-moved : (c : Option Condition) → SameCond u t c (moved_cond n c)
  cond-moved None = SameCond.none
  cond-moved (Some cond) = SameCond.some (part_moved cond.id)

  decl-desc-moved : (d : DeclDesc) → SameDeclDesc u t d (moved_decl_desc n d)
  decl-desc-moved (DeclDesc.Checksum width) = SameDeclDesc.checksum
  decl-desc-moved (DeclDesc.CustomField width) = SameDeclDesc.custom
  decl-desc-moved (DeclDesc.Enum width is_open is_complete) = SameDeclDesc.enum
  decl-desc-moved (DeclDesc.Packet parent) = SameDeclDesc.packet (maybe-moved parent)
  decl-desc-moved (DeclDesc.Struct parent) = SameDeclDesc.struct (maybe-moved parent)

  field-moved : (x : Field) → SameField u t x (moved_field n x)
  field-moved x = record { desc = desc-moved x.desc; cond = cond-moved x.cond }

  decl-moved : (d : Decl) → SameDecl u t d (moved_decl n d)
  decl-moved d = record { id = part_moved d.id; desc = decl-desc-moved d.desc }

-- ---- and so of joined fragments

module _ (t : Text) where
  -- behind the front of what stands at n
  beyond : (n : ℕ) (u r : Text) → drop n t ≡ u ++ r → drop (n + length u) t ≡ r
  beyond n u r e = sym (drop-drop (length u) n t) ∙ ap (drop (length u)) e ∙ drop-append_seam u r

  fields-placed : (n : ℕ) (r : Text) {fs : List Text} → All FieldReads fs → drop n t ≡ joined_fields fs ++ r → SaysFields t fs (placed_fields n fs)
  fields-placed n r All.done e = SaysFields.done
  fields-placed n r (All.more {x = f} {xs = fs} h hs) e =
      let there : drop n t ≡ f ++ (joined_fields fs ++ r) = e ∙ append_assoc f (joined_fields fs) r in
      SaysFields.more (field-from (f ++ (joined_fields fs ++ r)) f t (h.names (joined_fields fs ++ r)) (field-moved t _ n there (field_in f)))
      (fields-placed (n + length f) r hs (beyond n f (joined_fields fs ++ r) there))

  pub says-placed : (n : ℕ) {gs : List Group} → Readable gs → drop n t ≡ joined gs → Says t gs (placed n gs)
  unfolding placed
  says-placed n All.done e = Says.done
  says-placed n (All.more {x = g} {xs = gs} h hs) e =
      let r = joined_fields g.fields ++ joined gs in
      let behind : drop (n + length g.header) t ≡ r = beyond n g.header r e in
      Says.more (record {
        decl = decl-from (g.header ++ r) g.header t (h.header.names r) (decl-moved t _ n e (decl_in g.header));
        bits = refl;
        fields = fields-placed (n + length g.header) (joined gs) h.fields behind;
      })
      (says-placed (n + length g.header + length (joined_fields g.fields)) hs
      (beyond (n + length g.header) (joined_fields g.fields) (joined gs) behind))
