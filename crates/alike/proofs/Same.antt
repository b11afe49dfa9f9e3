-- Parts of two records `s` and `t` that say the same: the same numbers, and names that are the same text at whatever place. What a declaration says of its
-- own size (`bits`) and the keys, which are places, may differ.
-- Assumes nothing.
use Rattle.std.specs.Prelude.{Option, Some, None}
use mathlib.Core.Path.{◌≡◌}
use mathlib.Core.List.{List, [], ◌∷◌}
use mathlib.Core.Bool.{Bool}
use Prim.Native.Nat.{ℕ}
use Rattle.definitions.specs.Bytes.{Text, pick, part}
use Rattle.definitions.specs.Record.{Declaration}
use Rattle.definitions.specs.declared.Part.{Part}
use Rattle.definitions.specs.declared.Modifier.{Modifier}
use Rattle.definitions.specs.declared.Head.{Head}
use Rattle.definitions.specs.declared.FieldDesc.{FieldDesc}
use Rattle.definitions.specs.declared.Condition.{Condition}
use Rattle.definitions.specs.declared.Field.{Field}
use Rattle.definitions.specs.declared.DeclDesc.{DeclDesc}
use Rattle.definitions.specs.declared.Decl.{Decl}

module _ (s t : Text) where
  abbrev pub SamePart : Part → Part → Type 0
  SamePart a b = part s a ≡ part t b

  pub data SameMaybe : Option Part → Option Part → Type 0 where
    none : SameMaybe None None
    some : {a b : Part} → SamePart a b → SameMaybe (Some a) (Some b)

  pub data SameDesc : FieldDesc → FieldDesc → Type 0 where
    checksum : {a b : Part} → SamePart a b → SameDesc (FieldDesc.Checksum a) (FieldDesc.Checksum b)
    padding : {size : ℕ} → SameDesc (FieldDesc.Padding size) (FieldDesc.Padding size)
    size : {a b : Part} {width : ℕ} → SamePart a b → SameDesc (FieldDesc.Size a width) (FieldDesc.Size b width)
    count : {a b : Part} {width : ℕ} → SamePart a b → SameDesc (FieldDesc.Count a width) (FieldDesc.Count b width)
    element_size : {a b : Part} {width : ℕ} → SamePart a b → SameDesc (FieldDesc.ElementSize a width) (FieldDesc.ElementSize b width)
    body : SameDesc FieldDesc.Body FieldDesc.Body
    payload : {modifier : Modifier} → SameDesc (FieldDesc.Payload modifier) (FieldDesc.Payload modifier)
    fixed_scalar : {width value : ℕ} → SameDesc (FieldDesc.FixedScalar width value) (FieldDesc.FixedScalar width value)
    fixed_enum : {a b c d : Part} → SamePart a b → SamePart c d → SameDesc (FieldDesc.FixedEnum a c) (FieldDesc.FixedEnum b d)
    reserved : {width : ℕ} → SameDesc (FieldDesc.Reserved width) (FieldDesc.Reserved width)
    array : {a b : Part} {width : Option ℕ} {c d : Option Part} {modifier : Modifier} {size : Option ℕ} → SamePart a b → SameMaybe c d
        → SameDesc (FieldDesc.Array a width c modifier size) (FieldDesc.Array b width d modifier size)
    scalar : {a b : Part} {width : ℕ} → SamePart a b → SameDesc (FieldDesc.Scalar a width) (FieldDesc.Scalar b width)
    flag : {a b : Part} → SamePart a b → SameDesc (FieldDesc.Flag a) (FieldDesc.Flag b)
    typedef : {a b c d : Part} → SamePart a b → SamePart c d → SameDesc (FieldDesc.Typedef a c) (FieldDesc.Typedef b d)

  pub data SameCond : Option Condition → Option Condition → Type 0 where
    none : SameCond None None
    some : {a b : Part} {value : ℕ} → SamePart a b → SameCond (Some (record { id = a; value = value })) (Some (record { id = b; value = value }))

  pub record SameField (f g : Field) : Type 0 where
    pub desc : SameDesc f.desc g.desc
    pub cond : SameCond f.cond g.cond

  pub data SameFields : List Field → List Field → Type 0 where
    done : SameFields [] []
    more : {f g : Field} {fs gs : List Field} → SameField f g → SameFields fs gs → SameFields (f ∷ fs) (g ∷ gs)

  pub data SameDeclDesc : DeclDesc → DeclDesc → Type 0 where
    checksum : {width : ℕ} → SameDeclDesc (DeclDesc.Checksum width) (DeclDesc.Checksum width)
    custom : {width : Option ℕ} → SameDeclDesc (DeclDesc.CustomField width) (DeclDesc.CustomField width)
    enum : {width : ℕ} {is_open is_complete : Bool} → SameDeclDesc (DeclDesc.Enum width is_open is_complete) (DeclDesc.Enum width is_open is_complete)
    packet : {a b : Option Part} → SameMaybe a b → SameDeclDesc (DeclDesc.Packet a) (DeclDesc.Packet b)
    struct : {a b : Option Part} → SameMaybe a b → SameDeclDesc (DeclDesc.Struct a) (DeclDesc.Struct b)

  pub record SameDecl (d e : Decl) : Type 0 where
    pub id : SamePart d.id e.id
    pub desc : SameDeclDesc d.desc e.desc

  pub record SameDeclaration (d e : Declaration) : Type 0 where
    pub decl : SameDecl d.decl e.decl
    pub fields : SameFields d.fields e.fields

  pub data SameDeclarations : List Declaration → List Declaration → Type 0 where
    done : SameDeclarations [] []
    more : {d e : Declaration} {ds es : List Declaration} → SameDeclaration d e → SameDeclarations ds es → SameDeclarations (d ∷ ds) (e ∷ es)

  pub record SameHead (h k : Head) : Type 0 where
    pub options : h.options ≡ k.options
    pub target : SamePart h.target k.target

-- what the declarations of the second state of their sizes: where `kept` what those of the first do, else nothing
pub data Stating (kept : Bool) : List Declaration → List Declaration → Type 0 where
  done : Stating kept [] []
  more : {d e : Declaration} {ds es : List Declaration} → e.decl.bits ≡ pick kept d.decl.bits None → Stating kept ds es
      → Stating kept (d ∷ ds) (e ∷ es)
