-- Records that say the same have the same sizes: each definition of definitions/specs/Sizes, up to the tables.
-- Assumes nothing.
use Rattle.std.specs.Prelude.{Option, Some, None}
use Prim.Native.Nat.{ℕ}
use mathlib.Core.Path.{◌≡◌, refl}
use mathlib.Core.List.{List, [], ◌∷◌, ◌++◌}
use mathlib.Core.Bool.{Bool, true, false}
use Rattle.definitions.specs.Bytes.{Text, any}
use Rattle.definitions.specs.Record.{Declaration}
use Rattle.definitions.specs.Sizes.{add_size, Row, total_size, lookup, total_of, parent_of, array_bits, desc_size, annotate_field, padding_bits, padded_by, Annotated, annotate_fields, is_payload, is_array, fields_size, payloads_size, parent_id, decl_size_of, payload_size_of, row_of, Entry, Schema, annotate_decl, annotate_from, new_schema, element_size, counted_by, first_count, array_size, desc_enum, enum_of, is_bitfield}
use Rattle.definitions.specs.declared.EnumKind.{EnumKind}
use Rattle.definitions.specs.declared.Part.{Part}
use Rattle.definitions.specs.declared.FieldDesc.{FieldDesc}
use Rattle.definitions.specs.declared.Condition.{Condition}
use Rattle.definitions.specs.declared.Field.{Field}
use Rattle.definitions.specs.declared.DeclDesc.{DeclDesc}
use Rattle.definitions.specs.declared.Decl.{Decl}
use Rattle.definitions.specs.declared.Size.{Size}
use Rattle.definitions.specs.declared.Reference.{Reference}
use Rattle.lengths.proofs.Booleans.{impossible}
use Rattle.alike.proofs.Same.{SamePart, SameMaybe, SameDesc, SameCond, SameField, SameFields, SameDeclDesc, SameDecl, SameDeclaration, SameDeclarations}
use Rattle.alike.proofs.Names.{same_or, same-name, SameReference, same-reference, has-payload-size, has-array-size, has-element-size}

module _ (s t : Text) where
  -- ---- rows

  pub record SameRow (r q : Row) : Type 0 where
    pub decl : SameDecl s t r.decl q.decl
    pub decl_size : r.decl_size ≡ q.decl_size
    pub parent_size : r.parent_size ≡ q.parent_size
    pub payload_size : r.payload_size ≡ q.payload_size

  pub data SameRows : List Row → List Row → Type 0 where
    done : SameRows [] []
    more : {r q : Row} {rs qs : List Row} → SameRow r q → SameRows rs qs → SameRows (r ∷ rs) (q ∷ qs)

  pub rows_snoc : {rs qs : List Row} (r q : Row) → SameRows rs qs → SameRow r q → SameRows (rs ++ (r ∷ [])) (qs ++ (q ∷ []))
  rows_snoc r q SameRows.done h = SameRows.more h SameRows.done
  rows_snoc r q (SameRows.more k ks) h = SameRows.more k (rows_snoc r q ks h)

  data SameFound : Option Row → Option Row → Type 0 where
    missing : SameFound None None
    found : {r q : Row} → SameRow r q → SameFound (Some r) (Some q)

  pub total_size_lem : (r q : Row) → SameRow r q → total_size r ≡ total_size q
  total_size_lem r q h = cc

  pub same-enum : {d e : DeclDesc} → SameDeclDesc s t d e → desc_enum d ≡ desc_enum e
  same-enum SameDeclDesc.checksum = refl
  same-enum SameDeclDesc.custom = refl
  same-enum SameDeclDesc.enum = refl
  same-enum (SameDeclDesc.packet p) = refl
  same-enum (SameDeclDesc.struct p) = refl

  same-lookup : {rs qs : List Row} → SameRows rs qs → (a b : Part) → SamePart s t a b → SameFound (lookup s rs a) (lookup t qs b)
  unfolding lookup
  same-lookup SameRows.done a b p = SameFound.missing
  same-lookup (SameRows.more {r} {q} {rs} {qs} k ks) a b p =
      by _ _ (same-name s t r.decl.id q.decl.id a b k.decl.id p) (same-lookup ks a b p)
    where
      by : (x y : Bool) → x ≡ y → SameFound (lookup s rs a) (lookup t qs b)
          → SameFound (elim x [ true ↦ Some r | false ↦ lookup s rs a ]) (elim y [ true ↦ Some q | false ↦ lookup t qs b ])
      by true true e h = SameFound.found k
      by true false e h = impossible (cc)
      by false true e h = impossible (cc)
      by false false e h = h

  module _ (rs qs : List Row) (rows : SameRows rs qs) where
    pub total-of : (a b : Part) → SamePart s t a b → total_of s rs a ≡ total_of t qs b
    total-of a b p = by (same-lookup rows a b p)
      where
        by : {x y : Option Row} → SameFound x y
            → ◌≡◌ {A = Size} (elim x [ Some r ↦ total_size r | None ↦ Size.Unknown ]) (elim y [ Some r ↦ total_size r | None ↦ Size.Unknown ])
        by SameFound.missing = refl
        by (SameFound.found {r} {q} h) = total_size_lem r q h

    pub enum-of : (a b : Part) → SamePart s t a b → enum_of s rs a ≡ enum_of t qs b
    enum-of a b p = by (same-lookup rows a b p)
      where
        by : {x y : Option Row} → SameFound x y
            → ◌≡◌ {A = Option EnumKind}
            (elim x [ Some r ↦ desc_enum r.decl.desc | None ↦ None ])
            (elim y [ Some r ↦ desc_enum r.decl.desc | None ↦ None ])
        by SameFound.missing = refl
        by (SameFound.found h) = same-enum h.decl.desc

    parent-of : {a b : Option Part} → SameMaybe s t a b → parent_of s rs a ≡ parent_of t qs b
    parent-of SameMaybe.none = refl
    parent-of (SameMaybe.some {a} {b} p) = by (same-lookup rows a b p)
      where
        by : {x y : Option Row} → SameFound x y
            → ◌≡◌ {A = Size}
            (elim x [ Some r ↦ add_size r.decl_size r.parent_size | None ↦ Size.Static 0 ])
            (elim y [ Some r ↦ add_size r.decl_size r.parent_size | None ↦ Size.Static 0 ])
        by SameFound.missing = refl
        by (SameFound.found {r} {q} h) = cc

    pub is-bitfield : {d e : FieldDesc} → SameDesc s t d e → is_bitfield s rs d ≡ is_bitfield t qs e
    is-bitfield (SameDesc.checksum p) = refl
    is-bitfield SameDesc.padding = refl
    is-bitfield (SameDesc.size p) = refl
    is-bitfield (SameDesc.count p) = refl
    is-bitfield (SameDesc.element_size p) = refl
    is-bitfield SameDesc.body = refl
    is-bitfield SameDesc.payload = refl
    is-bitfield SameDesc.fixed_scalar = refl
    is-bitfield (SameDesc.fixed_enum p q) = refl
    is-bitfield SameDesc.reserved = refl
    is-bitfield (SameDesc.array p q) = refl
    is-bitfield (SameDesc.scalar p) = refl
    is-bitfield (SameDesc.flag p) = refl
    is-bitfield (SameDesc.typedef {c} {d} p q) = cc (enum-of c d q)

    -- ---- `fs` and `gs` are the fields of the declaration

    module _ (fs gs : List Field) (fields : SameFields s t fs gs) where
      array-bits : (a b : Part) (width : Option ℕ) {c d : Option Part} (size : Option ℕ) → SamePart s t a b → SameMaybe s t c d
          → array_bits s rs fs a width c size ≡ array_bits t qs gs b width d size
      array-bits a b width None p q = cc (has-array-size s t fields a b p)
      array-bits a b (Some width) (Some size) p q = refl
      array-bits a b None (Some size) p SameMaybe.none = refl
      array-bits a b None (Some size) p (SameMaybe.some {a = c} {b = d} q) = cc (total-of c d q)

      desc-size : {d e : FieldDesc} → SameDesc s t d e → desc_size s rs fs d ≡ desc_size t qs gs e
      unfolding desc_size
      desc-size (SameDesc.checksum p) = refl
      desc-size SameDesc.padding = refl
      desc-size (SameDesc.size p) = refl
      desc-size (SameDesc.count p) = refl
      desc-size (SameDesc.element_size p) = refl
      desc-size SameDesc.body = cc (has-payload-size s t fields)
      desc-size SameDesc.payload = cc (has-payload-size s t fields)
      desc-size SameDesc.fixed_scalar = refl
      desc-size (SameDesc.fixed_enum {a} {b} p q) = total-of a b p
      desc-size SameDesc.reserved = refl
      desc-size (SameDesc.array {a} {b} {width} {size} p q) = array-bits a b width size p q
      desc-size (SameDesc.scalar p) = refl
      desc-size (SameDesc.flag p) = refl
      desc-size (SameDesc.typedef {c} {d} p q) = total-of c d q

      annotate-field : (f g : Field) → SameField s t f g → annotate_field s rs fs f ≡ annotate_field t qs gs g
      annotate-field f g h = by h.cond
        where
          by : {x y : Option Condition} → SameCond s t x y
              → ◌≡◌ {A = Size}
              (elim x [ None ↦ desc_size s rs fs f.desc | Some cond ↦ Size.Dynamic ])
              (elim y [ None ↦ desc_size t qs gs g.desc | Some cond ↦ Size.Dynamic ])
          by SameCond.none = desc-size h.desc
          by (SameCond.some p) = refl

      pub element-size : (a b : Part) (width : Option ℕ) {c d : Option Part} → SamePart s t a b → SameMaybe s t c d
          → element_size s rs fs a width c ≡ element_size t qs gs b width d
      element-size a b (Some width) p q = refl
      element-size a b None p SameMaybe.none = refl
      element-size a b None p (SameMaybe.some {a = c} {b = d} q) = cc (total-of c d q, has-element-size s t fields a b p)

  -- ---- counts of an array

  first_count_lem : (a b : Part) → SamePart s t a b → {fs gs : List Field} → SameFields s t fs gs → first_count s a fs ≡ first_count t b gs
  unfolding first_count
  first_count_lem a b p SameFields.done = refl
  first_count_lem a b p (SameFields.more {f} {g} {fs} {gs} k ks) = by (same-reference s t k.desc) (first_count_lem a b p ks)
    where
      by : {r q : Option Reference} → SameReference s t r q → first_count s a fs ≡ first_count t b gs
          → counted_by s a r (first_count s a fs) ≡ counted_by t b q (first_count t b gs)
      by SameReference.none h = h
      by (SameReference.size {a = c} {b = d} q) h = cc (same-name s t c d a b q p)
      by (SameReference.count {a = c} {b = d} q) h = cc (same-name s t c d a b q p)
      by (SameReference.element_size q) h = h

  pub array_size_lem : {fs gs : List Field} → SameFields s t fs gs → (a b : Part) (size : Option ℕ) → SamePart s t a b
      → array_size s fs a size ≡ array_size t gs b size
  array_size_lem ks a b (Some n) p = refl
  array_size_lem ks a b None p = first_count_lem a b p ks

  -- ---- fields with their sizes

  pub record SameAnnotated (a b : Annotated) : Type 0 where
    pub field : SameField s t a.field b.field
    pub field_size : a.field_size ≡ b.field_size
    pub padded_size : a.padded_size ≡ b.padded_size

  pub data SameAnnotateds : List Annotated → List Annotated → Type 0 where
    done : SameAnnotateds [] []
    more : {a b : Annotated} {xs ys : List Annotated} → SameAnnotated a b → SameAnnotateds xs ys → SameAnnotateds (a ∷ xs) (b ∷ ys)

  pub any-annotated : (f g : Annotated → Bool) → ((a b : Annotated) → SameAnnotated a b → f a ≡ g b)
      → {xs ys : List Annotated} → SameAnnotateds xs ys → any f xs ≡ any g ys
  any-annotated f g h SameAnnotateds.done = refl
  any-annotated f g h (SameAnnotateds.more {a} {b} {xs} {ys} k ks) = same_or (f a) (g b) (any f xs) (any g ys) (h a b k) (any-annotated f g h ks)

  padding-bits : {d e : FieldDesc} → SameDesc s t d e → padding_bits d ≡ padding_bits e
  padding-bits (SameDesc.checksum p) = refl
  padding-bits SameDesc.padding = refl
  padding-bits (SameDesc.size p) = refl
  padding-bits (SameDesc.count p) = refl
  padding-bits (SameDesc.element_size p) = refl
  padding-bits SameDesc.body = refl
  padding-bits SameDesc.payload = refl
  padding-bits SameDesc.fixed_scalar = refl
  padding-bits (SameDesc.fixed_enum p q) = refl
  padding-bits SameDesc.reserved = refl
  padding-bits (SameDesc.array p q) = refl
  padding-bits (SameDesc.scalar p) = refl
  padding-bits (SameDesc.flag p) = refl
  padding-bits (SameDesc.typedef p q) = refl

  padded-by : {fs gs : List Field} → SameFields s t fs gs → padded_by fs ≡ padded_by gs
  padded-by SameFields.done = refl
  padded-by (SameFields.more k ks) = padding-bits k.desc

  same-annotateds : (rs qs : List Row) → SameRows rs qs → (fs gs : List Field) → SameFields s t fs gs → {xs ys : List Field} → SameFields s t xs ys
      → SameAnnotateds (annotate_fields s rs fs xs) (annotate_fields t qs gs ys)
  unfolding annotate_fields
  same-annotateds rs qs rows fs gs fields SameFields.done = SameAnnotateds.done
  same-annotateds rs qs rows fs gs fields (SameFields.more {f} {g} k ks) =
      SameAnnotateds.more
      (record { field = k; field_size = annotate-field rs qs rows fs gs fields f g k; padded_size = padded-by ks })
      (same-annotateds rs qs rows fs gs fields ks)

  is-payload : {d e : FieldDesc} → SameDesc s t d e → is_payload d ≡ is_payload e
  is-payload (SameDesc.checksum p) = refl
  is-payload SameDesc.padding = refl
  is-payload (SameDesc.size p) = refl
  is-payload (SameDesc.count p) = refl
  is-payload (SameDesc.element_size p) = refl
  is-payload SameDesc.body = refl
  is-payload SameDesc.payload = refl
  is-payload SameDesc.fixed_scalar = refl
  is-payload (SameDesc.fixed_enum p q) = refl
  is-payload SameDesc.reserved = refl
  is-payload (SameDesc.array p q) = refl
  is-payload (SameDesc.scalar p) = refl
  is-payload (SameDesc.flag p) = refl
  is-payload (SameDesc.typedef p q) = refl

  pub is-array : {d e : FieldDesc} → SameDesc s t d e → is_array d ≡ is_array e
  is-array (SameDesc.checksum p) = refl
  is-array SameDesc.padding = refl
  is-array (SameDesc.size p) = refl
  is-array (SameDesc.count p) = refl
  is-array (SameDesc.element_size p) = refl
  is-array SameDesc.body = refl
  is-array SameDesc.payload = refl
  is-array SameDesc.fixed_scalar = refl
  is-array (SameDesc.fixed_enum p q) = refl
  is-array SameDesc.reserved = refl
  is-array (SameDesc.array p q) = refl
  is-array (SameDesc.scalar p) = refl
  is-array (SameDesc.flag p) = refl
  is-array (SameDesc.typedef p q) = refl

  fields-size : {xs ys : List Annotated} → SameAnnotateds xs ys → (x y : Size) → x ≡ y → fields_size x xs ≡ fields_size y ys
  unfolding fields_size
  fields-size SameAnnotateds.done x y e = e
  fields-size (SameAnnotateds.more {a} {b} k ks) x y e = fields-size ks _ _ (cc (is-payload k.field.desc))

  payloads-size : (x y : Size) → x ≡ y → {xs ys : List Annotated} → SameAnnotateds xs ys → payloads_size x xs ≡ payloads_size y ys
  unfolding payloads_size
  payloads-size x y e SameAnnotateds.done = e
  payloads-size x y e (SameAnnotateds.more {a} {b} k ks) = payloads-size _ _ (cc (is-payload k.field.desc)) ks

  -- ---- a declaration's row

  pub parent-id : {d e : DeclDesc} → SameDeclDesc s t d e → SameMaybe s t (parent_id d) (parent_id e)
  parent-id SameDeclDesc.checksum = SameMaybe.none
  parent-id SameDeclDesc.custom = SameMaybe.none
  parent-id SameDeclDesc.enum = SameMaybe.none
  parent-id (SameDeclDesc.packet p) = p
  parent-id (SameDeclDesc.struct p) = p

  decl-size : (x y : Size) → x ≡ y → {d e : DeclDesc} → SameDeclDesc s t d e → decl_size_of d x ≡ decl_size_of e y
  decl-size x y k SameDeclDesc.checksum = refl
  decl-size x y k SameDeclDesc.custom = refl
  decl-size x y k SameDeclDesc.enum = refl
  decl-size x y k (SameDeclDesc.packet p) = k
  decl-size x y k (SameDeclDesc.struct p) = k

  payload-size : (x y : Size) → x ≡ y → {d e : DeclDesc} → SameDeclDesc s t d e → payload_size_of d x ≡ payload_size_of e y
  payload-size x y k SameDeclDesc.checksum = refl
  payload-size x y k SameDeclDesc.custom = refl
  payload-size x y k SameDeclDesc.enum = refl
  payload-size x y k (SameDeclDesc.packet p) = k
  payload-size x y k (SameDeclDesc.struct p) = k

  row-of : (rs qs : List Row) → SameRows rs qs → (d e : Decl) → SameDecl s t d e → {xs ys : List Annotated} → SameAnnotateds xs ys
      → SameRow (row_of s rs d xs) (row_of t qs e ys)
  row-of rs qs rows d e h ks =
      record {
        decl = h;
        decl_size = decl-size _ _ (fields-size ks (Size.Static 0) (Size.Static 0) refl) h.desc;
        parent_size = parent-of rs qs rows (parent-id h.desc);
        payload_size = payload-size _ _ (payloads-size (Size.Static 0) (Size.Static 0) refl ks) h.desc;
      }

  -- ---- the tables

  pub record SameEntry (e f : Entry) : Type 0 where
    pub earlier : SameRows e.earlier f.earlier
    pub declaration : SameDeclaration s t e.declaration f.declaration
    pub fields : SameAnnotateds e.fields f.fields
    pub row : SameRow e.row f.row

  pub data SameSchema : Schema → Schema → Type 0 where
    done : SameSchema [] []
    more : {e f : Entry} {a b : Schema} → SameEntry e f → SameSchema a b → SameSchema (e ∷ a) (f ∷ b)

  pub any_entry : (f g : Entry → Bool) → ((x y : Entry) → SameEntry x y → f x ≡ g y) → {a b : Schema} → SameSchema a b → any f a ≡ any g b
  any_entry f g h SameSchema.done = refl
  any_entry f g h (SameSchema.more {e = x} {f = y} {a} {b} k ks) = same_or (f x) (g y) (any f a) (any g b) (h x y k) (any_entry f g h ks)

  pub annotate-decl : (rs qs : List Row) → SameRows rs qs → (d e : Declaration) → SameDeclaration s t d e
      → SameEntry (annotate_decl s rs d) (annotate_decl t qs e)
  annotate-decl rs qs rows d e h =
      let fields = same-annotateds rs qs rows d.fields e.fields h.fields h.fields in
      record { earlier = rows; declaration = h; fields = fields; row = row-of rs qs rows d.decl e.decl h.decl fields }

  annotate-from : (rs qs : List Row) → SameRows rs qs → {ds es : List Declaration} → SameDeclarations s t ds es
      → SameSchema (annotate_from s rs ds) (annotate_from t qs es)
  unfolding annotate_from
  annotate-from rs qs rows SameDeclarations.done = SameSchema.done
  annotate-from rs qs rows (SameDeclarations.more {d} {e} k ks) =
      let now = annotate-decl rs qs rows d e k in
      SameSchema.more now (annotate-from (rs ++ ((annotate_decl s rs d).row ∷ [])) (qs ++ ((annotate_decl t qs e).row ∷ [])) (rows_snoc _ _ rows now.row) ks)

  pub same-schema : {ds es : List Declaration} → SameDeclarations s t ds es → SameSchema (new_schema s ds) (new_schema t es)
  same-schema h = annotate-from [] [] SameRows.done h
