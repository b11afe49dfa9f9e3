-- Declarations that say what fragments say: two lists of them say the same (`same-said`), and fewer fields are said by fewer fragments (`fewer-said`). So a
-- record of types and fewer fields says what one of the types and all fields says where these fields are left out (`catalogued`).
-- Assumes nothing.
use mathlib.Core.Bool.{true}
use mathlib.Core.List.{List, [], ◌∷◌, ◌++◌, map}
use mathlib.Core.Path.{◌≡◌, refl, sym, ap, ◌∙◌}
use Prim.Native.Nat.{suc}
use lib.ListN.{length}
use Rattle.definitions.specs.Bytes.{Text}
use Rattle.definitions.specs.Record.{Declaration}
use Rattle.definitions.specs.declared.Field.{Field}
use Rattle.alike.proofs.Same.{SameFields, SameDeclarations, Stating}
use Rattle.fewer.proofs.Fewer.{Sublist, FewerFields}
use Rattle.fragments.specs.Groups.{Group}
use Rattle.fragments.proofs.Groups.{SaysFields, Says, FewerGroups}
use Rattle.fragments.proofs.Names.{field_both, decl-both}

-- ---- two texts that say the same

module _ (s t : Text) where
  fields-said : {fs : List Text} {xs ys : List Field} → SaysFields s fs xs → SaysFields t fs ys → SameFields s t xs ys
  fields-said SaysFields.done SaysFields.done = SameFields.done
  fields-said (SaysFields.more {f = f} h hs) (SaysFields.more k ks) = SameFields.more (field_both f s t h k) (fields-said hs ks)

  pub same-said : {gs : List Group} {ds es : List Declaration} → Says s gs ds → Says t gs es → SameDeclarations s t ds es × Stating true ds es
  same-said Says.done Says.done = (SameDeclarations.done, Stating.done)
  same-said (Says.more {g = g} h hs) (Says.more k ks) =
      let w = same-said hs ks in (
        SameDeclarations.more (record { decl = decl-both g.header s t h.decl k.decl; fields = fields-said h.fields k.fields }) w.0,
        Stating.more (k.bits ∙ sym h.bits) w.1,
      )

-- ---- fewer of them

module _ (t : Text) where
  fewer-fields : {some all : List Text} {ys : List Field} → Sublist some all → SaysFields t all ys
      → (xs : List Field) × SaysFields t some xs × Sublist xs ys
  fewer-fields Sublist.done SaysFields.done = ([], SaysFields.done, Sublist.done)
  fewer-fields (Sublist.keep l) (SaysFields.more {x = x} h hs) =
      let w = fewer-fields l hs in (x ∷ w.0, SaysFields.more h w.1, Sublist.keep w.2)
  fewer-fields (Sublist.skip l) (SaysFields.more h hs) = let w = fewer-fields l hs in (w.0, w.1, Sublist.skip w.2)

  pub fewer-said : {some all : List Group} {es : List Declaration} → FewerGroups some all → Says t all es
      → (ds : List Declaration) × Says t some ds × FewerFields ds es
  fewer-said FewerGroups.done Says.done = ([], Says.done, FewerFields.done)
  fewer-said (FewerGroups.more {g = g} {h = h} e l w) (Says.more {d = d} k ks) =
      let a = fewer-fields l k.fields in
      let b = fewer-said w ks in
      let c : Declaration = record { decl = d.decl; fields = a.0 } in (
        c ∷ b.0,
        Says.more {g = g} {d = c} (record { decl = rw e k.decl; bits = rw e k.bits; fields = a.1 }) b.1,
        FewerFields.more refl a.2 b.2,
      )

  -- ---- one after the other

  pub said-both : {gs hs : List Group} {ps qs : List Declaration} → Says t gs ps → Says t hs qs → Says t (gs ++ hs) (ps ++ qs)
  said-both Says.done k = k
  said-both (Says.more h i) k = Says.more h (said-both i k)

  pub said-apart : (gs : List Group) {hs : List Group} {ds : List Declaration} → Says t (gs ++ hs) ds
      → (ps qs : List Declaration) × (ds ≡ ps ++ qs) × Says t gs ps × Says t hs qs
  said-apart [] {ds = ds} k = ([], ds, refl, Says.done, k)
  said-apart (g ∷ gs) (Says.more {d = d} h k) =
      let w = said-apart gs k in (d ∷ w.0, w.1, ap (λ (l : List Declaration). d ∷ l) w.2, Says.more h w.3, w.4)

  -- ---- how many

  pub said-length : {gs : List Group} {ds : List Declaration} → Says t gs ds → length ds ≡ length gs
  said-length Says.done = refl
  said-length (Says.more h hs) = ap suc (said-length hs)

  pub fields-length : {fs : List Text} {xs : List Field} → SaysFields t fs xs → length xs ≡ length fs
  fields-length SaysFields.done = refl
  fields-length (SaysFields.more h hs) = ap suc (fields-length hs)

  pub said-counts : {gs : List Group} {ds : List Declaration} → Says t gs ds → map (λ d. length d.fields) ds ≡ map (λ g. length g.fields) gs
  said-counts Says.done = refl
  said-counts (Says.more h hs) = cc (fields-length h.fields, said-counts hs)

-- ---- types in front, which keep all fields

-- the declarations `es` of t, and those of s, `ds`, which say the same with fewer fields
pub record Catalogued (t s : Text) (types some : List Group) (es ds : List Declaration) : Type 0 where
  pub front : List Declaration
  pub all : List Declaration
  pub kept : List Declaration
  pub are : es ≡ front ++ all
  pub types_are : length front ≡ length types
  pub fewer : FewerFields kept all
  pub same : SameDeclarations t s (front ++ kept) ds
  pub stating : Stating true (front ++ kept) ds
  pub said : Says t some kept
  pub counts : map (λ d. length d.fields) kept ≡ map (λ g. length g.fields) some

pub catalogued : (t s : Text) (types all some : List Group) {es ds : List Declaration} → FewerGroups some all → Says t (types ++ all) es
    → Says s (types ++ some) ds → Catalogued t s types some es ds
catalogued t s types all some f h k =
    let w = said-apart t types h in
    let v = fewer-said t f w.4 in
    let u = same-said t s (said-both t w.3 v.1) k in
    record {
      front = w.0;
      all = w.1;
      kept = v.0;
      are = w.2;
      types_are = said-length t w.3;
      fewer = v.2;
      same = u.0;
      stating = u.1;
      said = v.1;
      counts = said-counts t v.1;
    }
