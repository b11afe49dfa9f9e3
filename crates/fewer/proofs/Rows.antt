-- A field's size and refusal 8 are the same in all rows that find the types as `front` does: in `front`, and in it with more rows behind it.
-- Assumes nothing.
use Rattle.std.specs.Prelude.{Option, Some, None}
use mathlib.Core.Path.{◌≡◌, refl, ap, ◌∙◌}
use mathlib.Core.Bool.{Bool, true, false, ◌&&◌, ◌||◌}
use mathlib.Core.List.{List, [], ◌∷◌, ◌++◌, append-nil, append_assoc}
use Prim.Native.Nat.{ℕ, ◌^◌, ◌≤◌}
use borrow.Author.Tests.{ltb-false}
use lib.Dec.{ltb}
use Rattle.definitions.specs.Bytes.{Text, any}
use Rattle.definitions.specs.Record.{Declaration}
use Rattle.definitions.specs.Sizes.{Row, Schema, static_width, same_name, lookup, total_of, given, has_payload_size, has_array_size, array_bits, desc_size, annotate_field, enum_of, annotate_decl, annotate_from}
use Rattle.definitions.specs.Refusals.{ragged_size, ragged_array, ragged_enum, ragged_desc, is_optional, ragged_field, ragged}
use Rattle.definitions.specs.declared.EnumKind.{EnumKind}
use Rattle.definitions.specs.declared.Part.{Part}
use Rattle.definitions.specs.declared.FieldDesc.{FieldDesc}
use Rattle.definitions.specs.declared.Condition.{Condition}
use Rattle.definitions.specs.declared.Field.{Field}
use Rattle.definitions.specs.declared.Size.{Size}
use Rattle.lengths.proofs.Booleans.{impossible, neither}
use Rattle.fewer.specs.Sound.{type_of, is_missing, lacks_type, stray, stray_in, rows_of}
use Rattle.fewer.proofs.Tests.{nor}

given-width : (b : Bool) → static_width (given b) ≡ 0
given-width true = refl
given-width false = refl

-- ---- a field that is not stray

pub record Placed (t : Text) (front : List Row) (f : Field) : Type 0 where
  pub typed : lacks_type t front (type_of f.desc) ≡ false
  pub even : ragged_field t front f ≡ false
  pub narrow : static_width (annotate_field t front [] f) ≤ 2 ^ 19

pub placed : (t : Text) (front : List Row) (f : Field) → stray t front f ≡ false → Placed t front f
placed t front f e =
    let k = neither (lacks_type t front (type_of f.desc)) (ragged_field t front f || ltb (2 ^ 19) bits) e in
    let m = neither (ragged_field t front f) (ltb (2 ^ 19) bits) k.1 in
    record { typed = k.0; even = m.0; narrow = ltb-false (2 ^ 19) bits m.1 }
  where
    bits : ℕ
    bits = static_width (annotate_field t front [] f)

module _ (t : Text) where
  -- ---- the tables of declarations one behind the other

  pub annotate-append : (rows : List Row) (ds es : List Declaration)
      → annotate_from t rows (ds ++ es) ≡ annotate_from t rows ds ++ annotate_from t (rows ++ rows_of (annotate_from t rows ds)) es
  unfolding annotate_from
  annotate-append rows [] es = rw append-nil
  annotate-append rows (d ∷ ds) es =
      ap (λ (x : Schema). annotate_decl t rows d ∷ x)
      (rw append_assoc at (annotate-append (rows ++ ((annotate_decl t rows d).row ∷ [])) ds es))

  -- ---- what is found in rows is found in them with more behind

  found_before : (rows more : List Row) (name : Part) → is_missing (lookup t rows name) ≡ false → lookup t (rows ++ more) name ≡ lookup t rows name
  unfolding lookup
  found_before [] more name e = impossible (cc)
  found_before (r ∷ rows) more name e = by (same_name t r.decl.id name) e (found_before rows more name)
    where
      by : (b : Bool) → {x y : Option Row} → is_missing (elim b [ true ↦ Some r | false ↦ y ]) ≡ false → (is_missing y ≡ false → x ≡ y)
          → ◌≡◌ {A = Option Row} (elim b [ true ↦ Some r | false ↦ x ]) (elim b [ true ↦ Some r | false ↦ y ])
      by true e k = refl
      by false e k = k e

  module _ (front : List Row) where
    -- what `front` finds, the rows find
    abbrev pub Finds : List Row → Type 0
    Finds rows = (name : Part) → is_missing (lookup t front name) ≡ false → lookup t rows name ≡ lookup t front name

    pub finds-more : (rows : List Row) (r : Row) → Finds rows → Finds (rows ++ (r ∷ []))
    finds-more rows r h name e = found_before rows (r ∷ []) name (ap is_missing (h name e) ∙ e) ∙ h name e

    module _ (rows : List Row) (h : Finds rows) where
      total-same : (name : Part) → is_missing (lookup t front name) ≡ false → total_of t rows name ≡ total_of t front name
      total-same name e = cc (h name e)

      enum_same : (name : Part) → is_missing (lookup t front name) ≡ false → enum_of t rows name ≡ enum_of t front name
      enum_same name e = cc (h name e)

      -- ---- sizes

      array-width : (fs : List Field) (id : Part) (width : Option ℕ) (type : Option Part) (size : Option ℕ) → lacks_type t front type ≡ false
          → static_width (array_bits t rows fs id width type size) ≡ static_width (array_bits t front [] id width type size)
      array-width fs id width type None e = given-width (has_array_size t fs id)
      array-width fs id (Some width) type (Some size) e = refl
      array-width fs id None (Some type) (Some size) e = rw (total-same type e)
      array-width fs id None None (Some size) e = refl

      desc-width : (fs : List Field) (d : FieldDesc) → lacks_type t front (type_of d) ≡ false
          → static_width (desc_size t rows fs d) ≡ static_width (desc_size t front [] d)
      unfolding desc_size
      desc-width fs (FieldDesc.Checksum of) e = refl
      desc-width fs (FieldDesc.Padding size) e = refl
      desc-width fs (FieldDesc.Size of width) e = refl
      desc-width fs (FieldDesc.Count of width) e = refl
      desc-width fs (FieldDesc.ElementSize of width) e = refl
      desc-width fs FieldDesc.Body e = given-width (has_payload_size t fs)
      desc-width fs (FieldDesc.Payload modifier) e = given-width (has_payload_size t fs)
      desc-width fs (FieldDesc.FixedScalar width value) e = refl
      desc-width fs (FieldDesc.FixedEnum type tag) e = ap static_width (total-same type e)
      desc-width fs (FieldDesc.Reserved width) e = refl
      desc-width fs (FieldDesc.Array id width type modifier size) e = array-width fs id width type size e
      desc-width fs (FieldDesc.Scalar id width) e = refl
      desc-width fs (FieldDesc.Flag id) e = refl
      desc-width fs (FieldDesc.Typedef id type) e = ap static_width (total-same type e)

      pub field-width : (fs : List Field) (f : Field) → lacks_type t front (type_of f.desc) ≡ false
          → static_width (annotate_field t rows fs f) ≡ static_width (annotate_field t front [] f)
      field-width fs f e = by f.cond
        where
          sized : List Row → List Field → Option Condition → Size
          sized rs gs c = elim c [ None ↦ desc_size t rs gs f.desc | Some cond ↦ Size.Dynamic ]

          by : (c : Option Condition) → static_width (sized rows fs c) ≡ static_width (sized front [] c)
          by None = desc-width fs f.desc e
          by (Some cond) = refl

      -- ---- 8

      ragged-array : (width : Option ℕ) (type : Option Part) → lacks_type t front type ≡ false
          → ragged_array t rows width type ≡ ragged_array t front width type
      ragged-array (Some width) type e = refl
      ragged-array None (Some type) e = ap ragged_size (total-same type e)
      ragged-array None None e = refl

      ragged-desc : (optional : Bool) (d : FieldDesc) → lacks_type t front (type_of d) ≡ false
          → ragged_desc t rows optional d ≡ ragged_desc t front optional d
      ragged-desc optional (FieldDesc.Checksum of) e = refl
      ragged-desc optional (FieldDesc.Padding size) e = refl
      ragged-desc optional (FieldDesc.Size of width) e = refl
      ragged-desc optional (FieldDesc.Count of width) e = refl
      ragged-desc optional (FieldDesc.ElementSize of width) e = refl
      ragged-desc optional FieldDesc.Body e = refl
      ragged-desc optional (FieldDesc.Payload modifier) e = refl
      ragged-desc optional (FieldDesc.FixedScalar width value) e = refl
      ragged-desc optional (FieldDesc.FixedEnum type tag) e = refl
      ragged-desc optional (FieldDesc.Reserved width) e = refl
      ragged-desc optional (FieldDesc.Array id width type modifier size) e = ragged-array width type e
      ragged-desc optional (FieldDesc.Scalar id width) e = refl
      ragged-desc optional (FieldDesc.Flag id) e = refl
      ragged-desc optional (FieldDesc.Typedef id type) e = ap (λ (o : Option EnumKind). optional && ragged_enum o) (enum_same type e)

      not-ragged : (fs : List Field) → any (stray t front) fs ≡ false → any (ragged_field t rows) fs ≡ false
      not-ragged [] e = refl
      not-ragged (f ∷ fs) e =
          let k = neither (stray t front f) (any (stray t front) fs) e in
          let p = placed t front f k.0 in
          nor (ragged_field t rows f) (any (ragged_field t rows) fs) (ragged-desc (is_optional f.cond) f.desc p.typed ∙ p.even)
          (not-ragged fs k.1)

    -- the frames, of which each adds a row
    pub frames-whole : (rows : List Row) → Finds rows → (ds : List Declaration) → any (stray_in t front) ds ≡ false
        → ragged t (annotate_from t rows ds) ≡ false
    unfolding ragged annotate_from
    frames-whole rows h [] e = refl
    frames-whole rows h (d ∷ ds) e =
        let k = neither (stray_in t front d) (any (stray_in t front) ds) e in
        let r = (annotate_decl t rows d).row in
        nor (any (ragged_field t rows) d.fields) (ragged t (annotate_from t (rows ++ (r ∷ [])) ds)) (not-ragged rows h d.fields k.0)
        (frames-whole (rows ++ (r ∷ [])) (finds-more rows r h) ds k.1)
