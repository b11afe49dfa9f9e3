-- Refusals that read no sizes: where declarations meet none of 16, 4, 5 and 6, the same with fewer fields meet none; 17 where no size is stated; and
-- 9 where the target is one of the declarations.
-- Assumes nothing.
use Rattle.std.specs.Prelude.{Option, Some, None}
use mathlib.Core.Path.{◌≡◌, refl, ap, ◌∙◌}
use mathlib.Core.Bool.{Bool, true, false, not, ◌||◌, ◌&&◌}
use mathlib.Core.List.{List, [], ◌∷◌, ◌++◌}
use lib.Dec.{ltb}
use lib.ListN.{length}
use Rattle.definitions.specs.Bytes.{Text, any, part}
use Rattle.definitions.specs.Keywords.{is_keyword}
use Rattle.definitions.specs.Record.{Declaration}
use Rattle.definitions.specs.Sizes.{Row, same_name, parent_id, annotate_decl, annotate_from}
use Rattle.definitions.specs.Refusals.{field_names, fields_names, decl_names, declarations_names, any_keyword, keyword_name, too_many, duplicate_name, find, is_frame, is_enum_desc, is_there, lacks, bad_name, bad_type, bad_names, unknown_from, bad_number, bad_decl, out_of_range, differs, misstated, is_target, no_target}
use Rattle.definitions.specs.declared.Part.{Part}
use Rattle.definitions.specs.declared.Head.{Head}
use Rattle.definitions.specs.declared.FieldDesc.{FieldDesc}
use Rattle.definitions.specs.declared.Field.{Field}
use Rattle.definitions.specs.declared.DeclDesc.{DeclDesc}
use Rattle.definitions.specs.declared.Size.{Size}
use Rattle.lengths.proofs.Booleans.{impossible, neither}
use Rattle.alike.proofs.Names.{same_or}
use Rattle.fewer.proofs.Fewer.{Sublist, FewerFields}
use Rattle.fewer.specs.Sound.{crowded, is_stated, stated}
use Rattle.fewer.proofs.Tests.{nor, none-append, none-front, none-back, none-sublist, fewer-append, fewer-snoc, fewer-length, none-fewer, any-fewer}

-- a field, and a declaration, with a number outside its range
abbrev pub wrong_field : Field → Bool
wrong_field f = bad_number f.desc

abbrev pub wrong : Declaration → Bool
wrong d = bad_decl d.decl.desc || any wrong_field d.fields

module _ (t : Text) where
  -- ---- 16

  abbrev keyword : Part → Bool
  keyword n = is_keyword (part t n)

  fields-names : {fs gs : List Field} → Sublist fs gs → any keyword (fields_names gs) ≡ false → any keyword (fields_names fs) ≡ false
  fields-names Sublist.done e = refl
  fields-names (Sublist.keep {x = f} {xs = fs} {ys = gs} h) e =
      none-append keyword (field_names f) (fields_names fs) (none-front keyword (field_names f) (fields_names gs) e)
      (fields-names h (none-back keyword (field_names f) (fields_names gs) e))
  fields-names (Sublist.skip {y = f} {ys = gs} h) e = fields-names h (none-back keyword (field_names f) (fields_names gs) e)

  declarations-names : {ds es : List Declaration} → FewerFields ds es → any keyword (declarations_names es) ≡ false
      → any keyword (declarations_names ds) ≡ false
  declarations-names FewerFields.done e = refl
  declarations-names (FewerFields.more {d} {e} {ds} {es} q r h) z =
      let rest = none-back keyword (decl_names e.decl) (fields_names e.fields ++ declarations_names es) z in
      none-append keyword (decl_names d.decl) (fields_names d.fields ++ declarations_names ds)
      (rw q (none-front keyword (decl_names e.decl) (fields_names e.fields ++ declarations_names es) z))
      (none-append keyword (fields_names d.fields) (declarations_names ds)
      (fields-names r (none-front keyword (fields_names e.fields) (declarations_names es) rest))
      (declarations-names h (none-back keyword (fields_names e.fields) (declarations_names es) rest)))

  pub no-keyword : (k : Head) {ds es : List Declaration} → FewerFields ds es → is_keyword (part t k.target) ≡ false
      → any_keyword t (declarations_names es) ≡ false → keyword_name t k ds ≡ false
  unfolding any_keyword
  no-keyword k {ds} h e z = nor (keyword k.target) (any keyword (declarations_names ds)) e (declarations-names h z)

  -- ---- 3

  pub not-many : (ps : List Declaration) {ds es : List Declaration} → FewerFields ds es → ltb 32 (length (ps ++ es)) ≡ false
      → any crowded ps ≡ false → any crowded ds ≡ false → too_many (ps ++ ds) ≡ false
  unfolding too_many
  not-many ps {ds} {es} h e few fields =
      let n : length (ps ++ ds) ≡ length (ps ++ es) = fewer-length (fewer-append ps h) in
      nor (ltb 32 (length (ps ++ ds))) (any crowded (ps ++ ds)) (ap (ltb 32) n ∙ e) (none-append crowded ps ds few fields)

  -- ---- 4

  abbrev named : Part → Declaration → Bool
  named name d = same_name t name d.decl.id

  pub duplicate-name : {ds es : List Declaration} → FewerFields ds es → duplicate_name t ds ≡ duplicate_name t es
  unfolding duplicate_name
  duplicate-name FewerFields.done = refl
  duplicate-name (FewerFields.more {d} {e} {ds} {es} q r h) =
      same_or (any (named d.decl.id) ds) (any (named e.decl.id) es) (duplicate_name t ds) (duplicate_name t es)
      (rw q (any-fewer (named e.decl.id) (λ x y p. cc) h)) (duplicate-name h)

  -- ---- 5

  find-fewer : {ds es : List Declaration} → FewerFields ds es → (name : Part) → find t ds name ≡ find t es name
  unfolding find
  find-fewer FewerFields.done name = refl
  find-fewer (FewerFields.more {d} {e} {ds} {es} q r h) name = rw q (by (same_name t e.decl.id name) (find-fewer h name))
    where
      by : (b : Bool) → {x y : Option DeclDesc} → x ≡ y
          → ◌≡◌ {A = Option DeclDesc} (elim b [ true ↦ Some e.decl.desc | false ↦ x ]) (elim b [ true ↦ Some e.decl.desc | false ↦ y ])
      by true k = refl
      by false k = k

  module _ (before after : List Declaration) (earlier : FewerFields before after) where
    bad-name : (ok : DeclDesc → Bool) (name : Option Part) → bad_name t before ok name ≡ bad_name t after ok name
    bad-name ok None = refl
    bad-name ok (Some name) = ap (lacks ok) (find-fewer earlier name)

    bad-type : (d : FieldDesc) → bad_type t before d ≡ bad_type t after d
    bad-type (FieldDesc.Checksum of) = refl
    bad-type (FieldDesc.Padding size) = refl
    bad-type (FieldDesc.Size of width) = refl
    bad-type (FieldDesc.Count of width) = refl
    bad-type (FieldDesc.ElementSize of width) = refl
    bad-type FieldDesc.Body = refl
    bad-type (FieldDesc.Payload modifier) = refl
    bad-type (FieldDesc.FixedScalar width value) = refl
    bad-type (FieldDesc.FixedEnum type tag) = bad-name is_enum_desc (Some type)
    bad-type (FieldDesc.Reserved width) = refl
    bad-type (FieldDesc.Array id width type modifier size) = bad-name is_there type
    bad-type (FieldDesc.Scalar id width) = refl
    bad-type (FieldDesc.Flag id) = refl
    bad-type (FieldDesc.Typedef id type) = bad-name is_there (Some type)

    bad-types : (fs : List Field) → any (λ (f : Field). bad_type t before f.desc) fs ≡ any (λ (f : Field). bad_type t after f.desc) fs
    bad-types [] = refl
    bad-types (f ∷ fs) = same_or _ _ _ _ (bad-type f.desc) (bad-types fs)

    bad-names : (d e : Declaration) → d.decl ≡ e.decl → Sublist d.fields e.fields → bad_names t after e ≡ false → bad_names t before d ≡ false
    bad-names d e q r z =
        let k = neither (bad_name t after is_frame (parent_id e.decl.desc)) (any (λ (f : Field). bad_type t after f.desc) e.fields) z in
        nor (bad_name t before is_frame (parent_id d.decl.desc)) (any (λ (f : Field). bad_type t before f.desc) d.fields)
        (rw q (bad-name is_frame (parent_id e.decl.desc) ∙ k.0)) (bad-types d.fields ∙ none-sublist _ r k.1)

  pub none-unknown : (before after : List Declaration) → FewerFields before after → {ds es : List Declaration} → FewerFields ds es
      → unknown_from t after es ≡ false → unknown_from t before ds ≡ false
  unfolding unknown_from
  none-unknown before after earlier FewerFields.done z = refl
  none-unknown before after earlier (FewerFields.more {d} {e} {ds} {es} q r h) z =
      let k = neither (bad_names t after e) (unknown_from t (after ++ (e ∷ [])) es) z in
      nor _ _ (bad-names before after earlier d e q r k.0) (none-unknown _ _ (fewer-snoc d e earlier q r) h k.1)

  -- ---- 6

  pub in-range : {ds es : List Declaration} → FewerFields ds es → out_of_range es ≡ false → out_of_range ds ≡ false
  unfolding out_of_range
  in-range h z = none-fewer wrong wrong within h z
    where
      within : (d e : Declaration) → d.decl ≡ e.decl → Sublist d.fields e.fields → wrong e ≡ false → wrong d ≡ false
      within d e q r z =
          let k = neither (bad_decl e.decl.desc) (any wrong_field e.fields) z in
          nor (bad_decl d.decl.desc) (any wrong_field d.fields) (rw q k.0) (none-sublist wrong_field r k.1)

  -- ---- 17

  unstated : (bits : Option Size) (size : Size) → is_stated bits ≡ false → differs bits size ≡ false
  unstated None size e = refl
  unstated (Some n) size e = impossible (cc)

  pub not-misstated : (rows : List Row) (ds : List Declaration) → any stated ds ≡ false → misstated (annotate_from t rows ds) ≡ false
  unfolding misstated annotate_from
  not-misstated rows [] e = refl
  not-misstated rows (d ∷ ds) e =
      let k = neither (stated d) (any stated ds) e in
      nor _ _ (unstated d.decl.bits (annotate_decl t rows d).row.decl_size k.0) (not-misstated (rows ++ ((annotate_decl t rows d).row ∷ [])) ds k.1)

  -- ---- 9

  abbrev pub targets : Head → Declaration → Bool
  targets k d = same_name t d.decl.id k.target && is_frame d.decl.desc

  targeted : (k : Head) (rows : List Row) (ds : List Declaration) → any (is_target t k) (annotate_from t rows ds) ≡ any (targets k) ds
  unfolding annotate_from
  targeted k rows [] = refl
  targeted k rows (d ∷ ds) = ap (λ (b : Bool). targets k d || b) (targeted k (rows ++ ((annotate_decl t rows d).row ∷ [])) ds)

  pub has-target : (k : Head) (rows : List Row) {ds es : List Declaration} → FewerFields ds es → any (targets k) es ≡ true
      → no_target t k (annotate_from t rows ds) ≡ false
  unfolding no_target
  has-target k rows {ds} h e = ap not (targeted k rows ds ∙ (any-fewer (targets k) (λ x y p. cc) h ∙ e))
