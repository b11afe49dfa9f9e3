-- Records that say the same are turned back alike: each test of the verdict but 17, which reads `bits`; the verdict up to 17, and with it where it is met
-- alike.
-- Assumes nothing.
use Rattle.std.specs.Prelude.{Ok, Err, Option, Some, None}
use Prim.Native.Nat.{ℕ}
use Rattle.definitions.specs.Refusals.{Verdict, maybe_name, desc_names, cond_names, fields_names, declarations_names, any_keyword, keyword_name, too_many, duplicate_name, find, is_frame, is_enum_desc, is_there, lacks, bad_name, bad_type, bad_names, unknown_from, bad_number, bad_decl, out_of_range, large_field, static_sum, large_row, large_entry, large, ragged_array, is_optional, ragged_desc, ragged_field, ragged, misstated, is_target, no_target, refuse_if, verdict}
use mathlib.Core.Path.{◌≡◌, refl, ap}
use mathlib.Core.List.{List, [], ◌∷◌, ◌++◌}
use mathlib.Core.Bool.{Bool, true, false, not}
use mathlib.Core.Logic.{◌⊎◌, inl, inr}
use lib.Dec.{ltb}
use lib.ListN.{length}
use Rattle.definitions.specs.Bytes.{Text}
use Rattle.definitions.specs.Keywords.{is_keyword}
use Rattle.definitions.specs.Record.{Declaration}
use Rattle.definitions.specs.Sizes.{Schema, Entry, Row, Annotated, new_schema}
use Rattle.definitions.specs.declared.Part.{Part}
use Rattle.definitions.specs.declared.Head.{Head}
use Rattle.definitions.specs.declared.FieldDesc.{FieldDesc}
use Rattle.definitions.specs.declared.Condition.{Condition}
use Rattle.definitions.specs.declared.Field.{Field}
use Rattle.definitions.specs.declared.DeclDesc.{DeclDesc}
use Rattle.definitions.specs.declared.Refusal.{Refusal}
use Rattle.lengths.proofs.Booleans.{impossible}
use Rattle.alike.proofs.Same.{SamePart, SameMaybe, SameDesc, SameCond, SameField, SameFields, SameDeclDesc, SameDeclaration, SameDeclarations, SameHead}
use Rattle.alike.proofs.Names.{same_or, same-name, any_field, any-declaration}
use Rattle.alike.proofs.Sizes.{SameRow, SameRows, total_size_lem, same-enum, total-of, enum-of, parent-id, SameAnnotated, SameAnnotateds, any-annotated, SameEntry, SameSchema, any_entry, same-schema}

module _ (s t : Text) where
  -- ---- 16

  data SameParts : List Part → List Part → Type 0 where
    done : SameParts [] []
    more : {a b : Part} {xs ys : List Part} → SamePart s t a b → SameParts xs ys → SameParts (a ∷ xs) (b ∷ ys)

  parts-append : {xs ys us vs : List Part} → SameParts xs ys → SameParts us vs → SameParts (xs ++ us) (ys ++ vs)
  parts-append SameParts.done k = k
  parts-append (SameParts.more p h) k = SameParts.more p (parts-append h k)

  maybe-names : {a b : Option Part} → SameMaybe s t a b → SameParts (maybe_name a) (maybe_name b)
  maybe-names SameMaybe.none = SameParts.done
  maybe-names (SameMaybe.some p) = SameParts.more p SameParts.done

  desc-names : {d e : FieldDesc} → SameDesc s t d e → SameParts (desc_names d) (desc_names e)
  desc-names (SameDesc.checksum p) = SameParts.more p SameParts.done
  desc-names SameDesc.padding = SameParts.done
  desc-names (SameDesc.size p) = SameParts.more p SameParts.done
  desc-names (SameDesc.count p) = SameParts.more p SameParts.done
  desc-names (SameDesc.element_size p) = SameParts.more p SameParts.done
  desc-names SameDesc.body = SameParts.done
  desc-names SameDesc.payload = SameParts.done
  desc-names SameDesc.fixed_scalar = SameParts.done
  desc-names (SameDesc.fixed_enum p q) = SameParts.more p (SameParts.more q SameParts.done)
  desc-names SameDesc.reserved = SameParts.done
  desc-names (SameDesc.array p q) = SameParts.more p (maybe-names q)
  desc-names (SameDesc.scalar p) = SameParts.more p SameParts.done
  desc-names (SameDesc.flag p) = SameParts.more p SameParts.done
  desc-names (SameDesc.typedef p q) = SameParts.more p (SameParts.more q SameParts.done)

  cond-names : {c d : Option Condition} → SameCond s t c d → SameParts (cond_names c) (cond_names d)
  cond-names SameCond.none = SameParts.done
  cond-names (SameCond.some p) = SameParts.more p SameParts.done

  fields-names : {fs gs : List Field} → SameFields s t fs gs → SameParts (fields_names fs) (fields_names gs)
  fields-names SameFields.done = SameParts.done
  fields-names (SameFields.more k ks) = parts-append (parts-append (desc-names k.desc) (cond-names k.cond)) (fields-names ks)

  declarations-names : {ds es : List Declaration} → SameDeclarations s t ds es → SameParts (declarations_names ds) (declarations_names es)
  declarations-names SameDeclarations.done = SameParts.done
  declarations-names (SameDeclarations.more k ks) =
      parts-append
      (SameParts.more k.decl.id (maybe-names (parent-id s t k.decl.desc)))
      (parts-append (fields-names k.fields) (declarations-names ks))

  any-keyword : {xs ys : List Part} → SameParts xs ys → any_keyword s xs ≡ any_keyword t ys
  unfolding any_keyword
  any-keyword SameParts.done = refl
  any-keyword (SameParts.more p h) = same_or _ _ _ _ (ap is_keyword p) (any-keyword h)

  keyword-name : (h k : Head) → SameHead s t h k → {ds es : List Declaration} → SameDeclarations s t ds es → keyword_name s h ds ≡ keyword_name t k es
  keyword-name h k head ks = any-keyword (SameParts.more head.target (declarations-names ks))

  -- ---- 3 and 4

  fields-length : {fs gs : List Field} → SameFields s t fs gs → length fs ≡ length gs
  fields-length SameFields.done = refl
  fields-length (SameFields.more k ks) = cc (fields-length ks)

  declarations-length : {ds es : List Declaration} → SameDeclarations s t ds es → length ds ≡ length es
  declarations-length SameDeclarations.done = refl
  declarations-length (SameDeclarations.more k ks) = cc (declarations-length ks)

  too_many_lem : {ds es : List Declaration} → SameDeclarations s t ds es → too_many ds ≡ too_many es
  unfolding too_many
  too_many_lem ks =
      same_or _ _ _ _ (ap (ltb 32) (declarations-length ks)) (any-declaration s t _ _ (λ d e k. ap (ltb 64) (fields-length k.fields)) ks)

  duplicate-name : {ds es : List Declaration} → SameDeclarations s t ds es → duplicate_name s ds ≡ duplicate_name t es
  unfolding duplicate_name
  duplicate-name SameDeclarations.done = refl
  duplicate-name (SameDeclarations.more {d} {e} k ks) =
      same_or _ _ _ _
      (any-declaration s t _ _ (λ x y h. same-name s t d.decl.id e.decl.id x.decl.id y.decl.id k.decl.id h.decl.id) ks)
      (duplicate-name ks)

  -- ---- 5

  data SameKind : Option DeclDesc → Option DeclDesc → Type 0 where
    missing : SameKind None None
    found : {d e : DeclDesc} → SameDeclDesc s t d e → SameKind (Some d) (Some e)

  same-find : {ds es : List Declaration} → SameDeclarations s t ds es → (a b : Part) → SamePart s t a b → SameKind (find s ds a) (find t es b)
  unfolding find
  same-find SameDeclarations.done a b p = SameKind.missing
  same-find (SameDeclarations.more {d} {e} {ds} {es} k ks) a b p =
      by _ _ (same-name s t d.decl.id e.decl.id a b k.decl.id p) (same-find ks a b p)
    where
      by : (x y : Bool) → x ≡ y → SameKind (find s ds a) (find t es b)
          → SameKind (elim x [ true ↦ Some d.decl.desc | false ↦ find s ds a ]) (elim y [ true ↦ Some e.decl.desc | false ↦ find t es b ])
      by true true e h = SameKind.found k.decl.desc
      by true false e h = impossible (cc)
      by false true e h = impossible (cc)
      by false false e h = h

  -- a test of what is declared, not of its names
  abbrev Blind : (DeclDesc → Bool) → Type 0
  Blind ok = (d e : DeclDesc) → SameDeclDesc s t d e → ok d ≡ ok e

  there : Blind is_there
  there d e k = refl

  pub is-frame : {d e : DeclDesc} → SameDeclDesc s t d e → is_frame d ≡ is_frame e
  is-frame SameDeclDesc.checksum = refl
  is-frame SameDeclDesc.custom = refl
  is-frame SameDeclDesc.enum = refl
  is-frame (SameDeclDesc.packet p) = refl
  is-frame (SameDeclDesc.struct p) = refl

  module _ (before after : List Declaration) (earlier : SameDeclarations s t before after) where
    bad-name : (ok : DeclDesc → Bool) → Blind ok → {a b : Option Part} → SameMaybe s t a b → bad_name s before ok a ≡ bad_name t after ok b
    bad-name ok h SameMaybe.none = refl
    bad-name ok h (SameMaybe.some {a} {b} p) = by (same-find earlier a b p)
      where
        by : {x y : Option DeclDesc} → SameKind x y → lacks ok x ≡ lacks ok y
        by SameKind.missing = refl
        by (SameKind.found {d} {e} k) = ap not (h d e k)

    bad-type : {d e : FieldDesc} → SameDesc s t d e → bad_type s before d ≡ bad_type t after e
    bad-type (SameDesc.checksum p) = refl
    bad-type SameDesc.padding = refl
    bad-type (SameDesc.size p) = refl
    bad-type (SameDesc.count p) = refl
    bad-type (SameDesc.element_size p) = refl
    bad-type SameDesc.body = refl
    bad-type SameDesc.payload = refl
    bad-type SameDesc.fixed_scalar = refl
    bad-type (SameDesc.fixed_enum p q) = bad-name is_enum_desc (λ d e k. cc (same-enum s t k)) (SameMaybe.some p)
    bad-type SameDesc.reserved = refl
    bad-type (SameDesc.array p q) = bad-name is_there there q
    bad-type (SameDesc.scalar p) = refl
    bad-type (SameDesc.flag p) = refl
    bad-type (SameDesc.typedef p q) = bad-name is_there there (SameMaybe.some q)

    bad-names : (d e : Declaration) → SameDeclaration s t d e → bad_names s before d ≡ bad_names t after e
    bad-names d e k =
        same_or _ _ _ _
        (bad-name is_frame (λ x y h. is-frame h) (parent-id s t k.decl.desc))
        (any_field s t _ _ (λ x y h. bad-type h.desc) k.fields)

  snoc : {ds es : List Declaration} (d e : Declaration) → SameDeclarations s t ds es → SameDeclaration s t d e
      → SameDeclarations s t (ds ++ (d ∷ [])) (es ++ (e ∷ []))
  snoc d e SameDeclarations.done h = SameDeclarations.more h SameDeclarations.done
  snoc d e (SameDeclarations.more k ks) h = SameDeclarations.more k (snoc d e ks h)

  unknown-from : (before after : List Declaration) → SameDeclarations s t before after → {ds es : List Declaration} → SameDeclarations s t ds es
      → unknown_from s before ds ≡ unknown_from t after es
  unfolding unknown_from
  unknown-from before after earlier SameDeclarations.done = refl
  unknown-from before after earlier (SameDeclarations.more {d} {e} k ks) =
      same_or _ _ _ _ (bad-names before after earlier d e k) (unknown-from _ _ (snoc d e earlier k) ks)

  -- ---- 6

  bad-number : {d e : FieldDesc} → SameDesc s t d e → bad_number d ≡ bad_number e
  bad-number (SameDesc.checksum p) = refl
  bad-number SameDesc.padding = refl
  bad-number (SameDesc.size p) = refl
  bad-number (SameDesc.count p) = refl
  bad-number (SameDesc.element_size p) = refl
  bad-number SameDesc.body = refl
  bad-number SameDesc.payload = refl
  bad-number SameDesc.fixed_scalar = refl
  bad-number (SameDesc.fixed_enum p q) = refl
  bad-number SameDesc.reserved = refl
  bad-number (SameDesc.array p q) = refl
  bad-number (SameDesc.scalar p) = refl
  bad-number (SameDesc.flag p) = refl
  bad-number (SameDesc.typedef p q) = refl

  bad-decl : {d e : DeclDesc} → SameDeclDesc s t d e → bad_decl d ≡ bad_decl e
  bad-decl SameDeclDesc.checksum = refl
  bad-decl SameDeclDesc.custom = refl
  bad-decl SameDeclDesc.enum = refl
  bad-decl (SameDeclDesc.packet p) = refl
  bad-decl (SameDeclDesc.struct p) = refl

  out_of_range_lem : {ds es : List Declaration} → SameDeclarations s t ds es → out_of_range ds ≡ out_of_range es
  unfolding out_of_range
  out_of_range_lem ks =
      any-declaration s t _ _
      (λ d e k. same_or _ _ _ _ (bad-decl k.decl.desc) (any_field s t _ _ (λ x y h. bad-number h.desc) k.fields))
      ks

  -- ---- 7

  static-sum : {xs ys : List Annotated} → SameAnnotateds s t xs ys → static_sum xs ≡ static_sum ys
  unfolding static_sum
  static-sum SameAnnotateds.done = refl
  static-sum (SameAnnotateds.more k ks) = cc (static-sum ks)

  large-field : (a b : Annotated) → SameAnnotated s t a b → large_field a ≡ large_field b
  large-field a b k = cc

  large-row : (r q : Row) → SameRow s t r q → large_row r ≡ large_row q
  large-row r q k = cc (total_size_lem s t r q k)

  large-entry : (e f : Entry) → SameEntry s t e f → large_entry e ≡ large_entry f
  large-entry e f k =
      cc (any-annotated s t large_field large_field large-field k.fields, large-row e.row f.row k.row, static-sum k.fields)

  same-large : {a b : Schema} → SameSchema s t a b → large a ≡ large b
  unfolding large
  same-large ks = any_entry s t large_entry large_entry large-entry ks

  -- ---- 8

  is-optional : {c d : Option Condition} → SameCond s t c d → is_optional c ≡ is_optional d
  is-optional SameCond.none = refl
  is-optional (SameCond.some p) = refl

  module _ (rs qs : List Row) (rows : SameRows s t rs qs) where
    ragged-array : (width : Option ℕ) {a b : Option Part} → SameMaybe s t a b → ragged_array s rs width a ≡ ragged_array t qs width b
    ragged-array (Some width) p = refl
    ragged-array None SameMaybe.none = refl
    ragged-array None (SameMaybe.some {a} {b} p) = cc (total-of s t rs qs rows a b p)

    ragged-desc : (optional : Bool) {d e : FieldDesc} → SameDesc s t d e → ragged_desc s rs optional d ≡ ragged_desc t qs optional e
    ragged-desc optional (SameDesc.checksum p) = refl
    ragged-desc optional SameDesc.padding = refl
    ragged-desc optional (SameDesc.size p) = refl
    ragged-desc optional (SameDesc.count p) = refl
    ragged-desc optional (SameDesc.element_size p) = refl
    ragged-desc optional SameDesc.body = refl
    ragged-desc optional SameDesc.payload = refl
    ragged-desc optional SameDesc.fixed_scalar = refl
    ragged-desc optional (SameDesc.fixed_enum p q) = refl
    ragged-desc optional SameDesc.reserved = refl
    ragged-desc optional (SameDesc.array {width} p q) = ragged-array width q
    ragged-desc optional (SameDesc.scalar p) = refl
    ragged-desc optional (SameDesc.flag p) = refl
    ragged-desc optional (SameDesc.typedef {c} {d} p q) = cc (enum-of s t rs qs rows c d q)

    ragged-field : (f g : Field) → SameField s t f g → ragged_field s rs f ≡ ragged_field t qs g
    ragged-field f g h = cc (is-optional h.cond, ragged-desc (is_optional g.cond) h.desc)

  same-ragged : {a b : Schema} → SameSchema s t a b → ragged s a ≡ ragged t b
  unfolding ragged
  same-ragged ks =
      any_entry s t _ _
      (λ e f k. any_field s t _ _ (λ x y h. ragged-field e.earlier f.earlier k.earlier x y h) k.declaration.fields)
      ks

  -- ---- 9

  pub is-target : (h k : Head) → SameHead s t h k → (e f : Entry) → SameEntry s t e f → is_target s h e ≡ is_target t k f
  is-target h k head e f g =
      cc (same-name s t e.row.decl.id f.row.decl.id h.target k.target g.row.decl.id head.target, is-frame g.row.decl.desc)

  no_target_lem : (h k : Head) → SameHead s t h k → {a b : Schema} → SameSchema s t a b → no_target s h a ≡ no_target t k b
  unfolding no_target
  no_target_lem h k head ks = ap not (any_entry s t (is_target s h) (is_target t k) (is-target h k head) ks)

-- ---- the verdict

-- verdicts of which R holds, behind tests that are met alike
module _ (R : Verdict → Verdict → Type 0) (itself : (v : Verdict) → R v v) where
  judged-next : (a b : Bool) (why : Refusal) (v w : Verdict) → a ≡ b → R v w → R (refuse_if a why v) (refuse_if b why w)
  judged-next true true why v w e h = itself (Err why)
  judged-next true false why v w e h = impossible (cc)
  judged-next false true why v w e h = impossible (cc)
  judged-next false false why v w e h = h

  -- all tests but 17 are
  judged : (s t : Text) (h k : Head) (ds es : List Declaration) → SameHead s t h k → SameDeclarations s t ds es
      → ((v : Verdict) → R (refuse_if (misstated (new_schema s ds)) Refusal.Misstated v) (refuse_if (misstated (new_schema t es)) Refusal.Misstated v))
      → R (verdict s h ds (new_schema s ds)) (verdict t k es (new_schema t es))
  unfolding verdict
  judged s t h k ds es head ks m =
      let schema : SameSchema s t (new_schema s ds) (new_schema t es) = same-schema s t ks in
      judged-next _ _ _ _ _ (keyword-name s t h k head ks)
      (judged-next _ _ _ _ _ (too_many_lem s t ks)
      (judged-next _ _ _ _ _ (duplicate-name s t ks)
      (judged-next _ _ _ _ _ (unknown-from s t [] [] SameDeclarations.done ks)
      (judged-next _ _ _ _ _ (out_of_range_lem s t ks)
      (judged-next _ _ _ _ _ (same-large s t schema)
      (judged-next _ _ _ _ _ (same-ragged s t schema) (last (no_target_lem s t h k head schema))))))))
    where
      target : Bool → Verdict
      target b = refuse_if b Refusal.NoTarget (Ok tt)

      last : {a b : Bool} → a ≡ b
          → R (refuse_if (misstated (new_schema s ds)) Refusal.Misstated (target a)) (refuse_if (misstated (new_schema t es)) Refusal.Misstated (target b))
      last {a} e = rw (← e) (m (target a))

-- `v` is 17, or it is `w`
abbrev Judged : Verdict → Verdict → Type 0
Judged v w = (v ≡ Err Refusal.Misstated) ⊎ (v ≡ w)

judged-here : (a b : Bool) → b ≡ false → (v : Verdict) → Judged (refuse_if a Refusal.Misstated v) (refuse_if b Refusal.Misstated v)
judged-here a true e v = impossible (cc)
judged-here true false e v = inl refl
judged-here false false e v = inr refl

pub same-verdict : (s t : Text) (h k : Head) (ds es : List Declaration) → SameHead s t h k → SameDeclarations s t ds es
    → misstated (new_schema t es) ≡ false
    → (verdict s h ds (new_schema s ds) ≡ Err Refusal.Misstated) ⊎ (verdict s h ds (new_schema s ds) ≡ verdict t k es (new_schema t es))
same-verdict s t h k ds es head ks e =
    judged Judged (λ v. inr refl) s t h k ds es head ks (judged-here (misstated (new_schema s ds)) (misstated (new_schema t es)) e)

-- and where 17 is met alike too
pub stated-verdict : (s t : Text) (h k : Head) (ds es : List Declaration) → SameHead s t h k → SameDeclarations s t ds es
    → misstated (new_schema s ds) ≡ misstated (new_schema t es) → verdict s h ds (new_schema s ds) ≡ verdict t k es (new_schema t es)
stated-verdict s t h k ds es head ks e =
    judged (λ v w. v ≡ w) (λ v. refl) s t h k ds es head ks λ v. ap (λ (b : Bool). refuse_if b Refusal.Misstated v) e
