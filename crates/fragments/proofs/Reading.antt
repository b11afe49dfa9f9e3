-- A record that is a head and readable fragments is read, and what is read is what the fragments say (`read-joined`).
-- Assumes nothing.
use Rattle.std.specs.Prelude.{Option, Some, None}
use Rattle.definitions.specs.Record.{Read, key_of, key_at, on_found, on_read, on_fields, head_at, decl_at, field_at, Declaration, Fields, fields_are, no_fields, Declarations, declarations_are, no_declarations, record_is, no_record, with_field, fields_at, fields_behind, with_declaration, declarations_at, with_head, read_record}
use mathlib.Core.Bool.{Bool, true, false}
use mathlib.Core.List.{List, [], ◌∷◌, ◌++◌, append_assoc}
use mathlib.Core.Path.{◌≡◌, refl, sym, ap, ◌∙◌, subst}
use Prim.Native.Nat.{ℕ, zero, suc, ◌≤◌, ◌<◌}
use native.Mathlib.Omega.{arith}
use lib.Dec.{ltb, eqb}
use lib.ListN.{length, take, drop, length-drop, take-append-drop}
use lib.Seq.{drop-append_seam}
use borrow.Author.Tests.{lt-ltb, le-ltb}
use Rattle.definitions.specs.Bytes.{Text, text, pick}
use Rattle.definitions.specs.declared.Head.{Head}
use Rattle.definitions.specs.declared.Field.{Field}
use Rattle.definitions.specs.declared.DeclDesc.{DeclDesc}
use Rattle.definitions.specs.declared.Decl.{Decl}
use Rattle.lengths.proofs.Booleans.{impossible}
use Rattle.alike.proofs.Same.{SameField, SameDeclDesc, SameDecl}
use Rattle.alike.proofs.Rests.{LeftOut, Place, start, inside, away, behind, Rests, itself}
use Rattle.alike.proofs.Fields.{FieldAs, field-as}
use Rattle.alike.proofs.Decls.{DeclAs, decl-as}
use Rattle.fragments.proofs.Lists.{is_nil, All}
use Rattle.fragments.specs.Groups.{Group, joined_fields, joined}
use Rattle.fragments.proofs.Groups.{field_in, decl_in, SaysFields, Says}
use Rattle.fragments.proofs.Names.{field-from, decl-from}
use Rattle.fragments.proofs.Tests.{HeadReads, FieldReads, HeaderReads, fits, GroupReads, Readable}

-- ---- rests of which no line is left out are the same text

abbrev Same : Place → Text → Text → Type 0
Same start u v = u ≡ v
Same inside u v = u ≡ v
Same away u v = Unit {0}

rests-same : {m : Place} {u v : Text} → Rests LeftOut.none m u v → Same m u v
rests-same Rests.done = refl
rests-same Rests.gone = tt
rests-same (Rests.next {x = x} {u = u} {v = v} r) = ap (λ (w : Text). x ∷ w) (by (eqb x 10) (rests-same r))
  where
    by : (b : Bool) → Same (behind b inside) u v → u ≡ v
    by true e = e
    by false e = e
rests-same (Rests.skip r) = tt
rests-same (Rests.same e r) = rests-same r
rests-same (Rests.cut e r) = impossible (cc)

-- ---- what follows a declaration, and what follows its lines

data Behind : Text → Type 0 where
  decl : (r : Text) → Behind (text "decl=" ++ r)
  end : Behind []

data Ahead : Text → Type 0 where
  field : (r : Text) → Ahead (text "field=" ++ r)
  other : {r : Text} → Behind r → Ahead r

begun : (n : ℕ) (key g r : Text) → take n g ≡ key → g ++ r ≡ key ++ (drop n g ++ r)
begun n key g r e = ap (λ (w : Text). w ++ r) (sym (take-append-drop n g) ∙ ap (λ (w : Text). w ++ drop n g) e) ∙ append_assoc key (drop n g) r

groups-begin : {gs : List Group} → Readable gs → Behind (joined gs)
groups-begin All.done = end
groups-begin (All.more {x = g} {xs = gs} k ks) =
    subst Behind (sym (begun 5 (text "decl=") g.header (joined_fields g.fields ++ joined gs) k.header.begins)) (decl _)

fields-begin : {fs : List Text} (r : Text) → All FieldReads fs → Behind r → Ahead (joined_fields fs ++ r)
fields-begin r All.done b = other b
fields-begin r (All.more {x = f} {xs = fs} k ks) b =
    subst Ahead (sym (append_assoc f (joined_fields fs) r ∙ begun 6 (text "field=") f (joined_fields fs ++ r) k.begins)) (field _)

header_read : {g r : Text} → HeaderReads g → Ahead r → decl_at (g ++ r) 0 ≡ Some (decl_in g, length g)
header_read k (field r) = k.before-field r
header_read k (other (decl r)) = k.before-decl r
header_read k (other end) = k.last

-- ---- the fragments in a text s

module _ (s : Text) where
  -- one field, at p
  record FieldThere (f r : Text) (p : ℕ) : Type 0 where
    field : Field
    next : ℕ
    read : field_at s p ≡ Some (field, next)
    says : SameField f s (field_in f) field
    rests : drop next s ≡ r
    less : length (drop next s) < length (drop p s)

  field-there : {f : Text} (r : Text) (p : ℕ) → FieldReads f → drop p s ≡ f ++ r → FieldThere f r p
  field-there {f} r p k e =
      by (field_at s p) refl
      (subst (λ (a : Read Field). FieldAs LeftOut.none (f ++ r) s (length (drop p s)) a (field_at s p)) (k.read r)
      (field-as LeftOut.none (f ++ r) s (length (drop p s)) 0 p (rw e (itself (f ++ r))) (omega arith)))
    where
      by : (a : Read Field) → field_at s p ≡ a → FieldAs LeftOut.none (f ++ r) s (length (drop p s)) (Some (field_in f, length f)) a
          → FieldThere f r p
      by None g u = absurd u
      by (Some (y, q)) g u =
          record {
            field = y;
            next = q;
            read = g;
            says = field-from (f ++ r) f s (k.names r) u.0;
            rests = sym (rests-same u.1.rests) ∙ drop-append_seam f r;
            less = u.1.less;
          }

  -- the lines of a declaration, at p
  record HeaderThere (g r : Text) (p : ℕ) : Type 0 where
    decl : Decl
    next : ℕ
    read : decl_at s p ≡ Some (decl, next)
    says : SameDecl g s (decl_in g) decl
    bits : decl.bits ≡ (decl_in g).bits
    rests : drop next s ≡ r
    less : length (drop next s) < length (drop p s)

  header-there : {g r : Text} (p : ℕ) → HeaderReads g → Ahead r → drop p s ≡ g ++ r → HeaderThere g r p
  header-there {g} {r} p k a e =
      by (decl_at s p) refl
      (subst (λ (x : Read Decl). DeclAs LeftOut.none (g ++ r) s (length (drop p s)) x (decl_at s p)) (header_read k a)
      (decl-as LeftOut.none (g ++ r) s (length (drop p s)) 0 p (rw e (itself (g ++ r))) (omega arith)))
    where
      by : (x : Read Decl) → decl_at s p ≡ x → DeclAs LeftOut.none (g ++ r) s (length (drop p s)) (Some (decl_in g, length g)) x
          → HeaderThere g r p
      by None h u = absurd (u refl)
      by (Some (d, q)) h u =
          let v = u refl in
          record {
            decl = d;
            next = q;
            read = h;
            says = decl-from (g ++ r) g s (k.names r) v.0;
            bits = v.1;
            rests = sym (rests-same v.2.rests) ∙ drop-append_seam g r;
            less = v.2.less;
          }

  -- the fields of a declaration, from p on
  record FieldsThere (answer : Fields) (fs : List Text) (r : Text) (p : ℕ) : Type 0 where
    fields : List Field
    next : ℕ
    read : answer ≡ fields_are fields next
    says : SaysFields s fs fields
    rests : drop next s ≡ r
    less : length (drop next s) ≤ length (drop p s)

  no_field : (p : ℕ) {r : Text} → Behind r → drop p s ≡ r → key_at s p (text "field=") ≡ None
  unfolding key_of
  no_field p (decl r) e = ap (λ (w : Text). key_of (text "field=") w p) e
  no_field p end e = ap (λ (w : Text). key_of (text "field=") w p) e

  a-field : (p : ℕ) (r : Text) → drop p s ≡ text "field=" ++ r → (i : ℕ) × (key_at s p (text "field=") ≡ Some i)
  unfolding key_of
  a-field p r e = (_, ap (λ (w : Text). key_of (text "field=") w p) e)

  -- a field, and those behind it
  module _ {g : Text} {fs : List Text} {r : Text} (f p : ℕ) (k : FieldReads g) (e : drop p s ≡ g ++ (joined_fields fs ++ r))
      (y : FieldThere g (joined_fields fs ++ r) p) where
    field-then : FieldsThere (fields_at s f y.next) fs r y.next → FieldsThere (fields_at s (suc f) p) (g ∷ fs) r p
    unfolding fields_at
    field-then w =
        record {
          fields = y.field ∷ w.fields;
          next = w.next;
          read = ap (λ (a : Option ℕ). on_found a (fields_are [] p) λ i. on_read (field_at s p) no_fields λ x q. with_field x (fields_at s f q))
              (a-field p _ (e ∙ begun 6 (text "field=") g (joined_fields fs ++ r) k.begins)).1
              ∙ ap (λ (a : Read Field). on_read a no_fields λ x q. with_field x (fields_at s f q)) y.read ∙ ap (with_field y.field) w.read;
          says = SaysFields.more y.says w.says;
          rests = w.rests;
          less = omega (arith, w.less, y.less);
        }

  fields-there : {fs : List Text} (r : Text) → All FieldReads fs → Behind r → (f p : ℕ) → drop p s ≡ joined_fields fs ++ r → length (drop p s) < f
      → FieldsThere (fields_at s f p) fs r p
  unfolding fields_at
  fields-there r ks b zero p e l = absurd (omega arith)
  fields-there r All.done b (suc f) p e l =
      record {
        fields = [];
        next = p;
        read = ap (λ (a : Option ℕ). on_found a (fields_are [] p) λ i. on_read (field_at s p) no_fields λ x q. with_field x (fields_at s f q)) (no_field p b e);
        says = SaysFields.done;
        rests = e;
        less = omega arith;
      }
  fields-there r (All.more {x = g} {xs = fs} k ks) b (suc f) p e l =
      let o : drop p s ≡ g ++ (joined_fields fs ++ r) = e ∙ append_assoc g (joined_fields fs) r in
      let y : FieldThere g (joined_fields fs ++ r) p = field-there (joined_fields fs ++ r) p k o in
      field-then f p k o y (fields-there r ks b f y.next y.rests (omega (arith, y.less)))

  none-there : (fs : List Text) {r : Text} (p : ℕ) → pick (is_nil fs) true false ≡ true → drop p s ≡ joined_fields fs ++ r
      → FieldsThere (fields_are [] p) fs r p
  none-there [] p h e = record { fields = []; next = p; read = refl; says = SaysFields.done; rests = e; less = omega arith }
  none-there (f ∷ fs) p h e = impossible (cc)

  -- only a packet and a struct have fields
  behind-there : (u : Text) {d e : DeclDesc} → SameDeclDesc u s d e → {fs : List Text} (r : Text) → fits d fs ≡ true → All FieldReads fs → Behind r → (p : ℕ)
      → drop p s ≡ joined_fields fs ++ r → length (drop p s) < length s → FieldsThere (fields_behind s e p) fs r p
  unfolding fields_behind
  behind-there u SameDeclDesc.checksum {fs} r h ks b p e l = none-there fs p h e
  behind-there u SameDeclDesc.custom {fs} r h ks b p e l = none-there fs p h e
  behind-there u SameDeclDesc.enum {fs} r h ks b p e l = none-there fs p h e
  behind-there u (SameDeclDesc.packet o) r h ks b p e l = fields-there r ks b (length s) p e l
  behind-there u (SameDeclDesc.struct o) r h ks b p e l = fields-there r ks b (length s) p e l

  -- the declarations from p on, where there are some
  abbrev onwards : ℕ → ℕ → Declarations
  onwards f p = elim (ltb p (length s)) [ true ↦ declarations_at s f p | false ↦ declarations_are [] ]

  on_test : (f p : ℕ) (b : Bool) → ltb p (length s) ≡ b → onwards f p ≡ elim b [ true ↦ declarations_at s f p | false ↦ declarations_are [] ]
  on_test f p b e = ap (λ (c : Bool). elim c as (λ _. Declarations) [ true ↦ declarations_at s f p | false ↦ declarations_are [] ]) e

  some-there : (f p : ℕ) → 0 < length (drop p s) → onwards f p ≡ declarations_at s f p
  some-there f p l = on_test f p true (lt-ltb p (length s) (omega (arith, length-drop p s)))

  record DeclarationsThere (answer : Declarations) (gs : List Group) : Type 0 where
    declarations : List Declaration
    read : answer ≡ declarations_are declarations
    says : Says s gs declarations

  there-too : {a b : Declarations} {gs : List Group} → a ≡ b → DeclarationsThere b gs → DeclarationsThere a gs
  there-too e w = record { declarations = w.declarations; read = e ∙ w.read; says = w.says }

  lines-there : {g : Group} {gs : List Group} (p : ℕ) → GroupReads g → Readable gs → drop p s ≡ joined (g ∷ gs)
      → HeaderThere g.header (joined_fields g.fields ++ joined gs) p
  lines-there {g} {gs} p k ks e = header-there p k.header (fields-begin (joined gs) k.fields (groups-begin ks)) e

  -- a declaration, and those behind it
  module _ {g : Group} {gs : List Group} (f p : ℕ) (x : HeaderThere g.header (joined_fields g.fields ++ joined gs) p)
      (y : FieldsThere (fields_behind s x.decl.desc x.next) g.fields (joined gs) x.next) where
    group-then : DeclarationsThere (onwards f y.next) gs → DeclarationsThere (declarations_at s (suc f) p) (g ∷ gs)
    unfolding declarations_at
    group-then w =
        record {
          declarations = record { decl = x.decl; fields = y.fields } ∷ w.declarations;
          read = ap (λ (a : Read Decl). on_read a no_declarations λ d i.
              on_fields (fields_behind s d.desc i) no_declarations λ xs q. with_declaration (record { decl = d; fields = xs }) (onwards f q)) x.read
              ∙ ap (λ (a : Fields). on_fields a no_declarations λ xs q. with_declaration (record { decl = x.decl; fields = xs }) (onwards f q)) y.read
              ∙ ap (with_declaration (record { decl = x.decl; fields = y.fields })) w.read;
          says = Says.more (record { decl = x.says; bits = x.bits; fields = y.says }) w.says;
        }

  groups-there : {gs : List Group} → Readable gs → (f p : ℕ) → drop p s ≡ joined gs → length (drop p s) ≤ f → DeclarationsThere (onwards f p) gs
  groups-there All.done f p e l =
      record {
        declarations = [];
        read = on_test f p false (le-ltb p (length s) (omega (arith, length-drop p s, ap length e)));
        says = Says.done;
      }
  groups-there (All.more k ks) zero p e l = let x = lines-there p k ks e in absurd (omega (arith, x.less))
  groups-there (All.more {x = g} {xs = gs} k ks) (suc f) p e l =
      let x : HeaderThere g.header (joined_fields g.fields ++ joined gs) p = lines-there p k ks e in
      let y : FieldsThere (fields_behind s x.decl.desc x.next) g.fields (joined gs) x.next =
      behind-there g.header x.says.desc (joined gs) k.fits k.fields (groups-begin ks) x.next x.rests
      (omega (arith, x.less, length-drop p s)) in
      there-too (some-there (suc f) p (omega (arith, x.less)))
      (group-then f p x y (groups-there ks f y.next y.rests (omega (arith, x.less, y.less))))

-- ---- the record

-- what begins with a declaration begins with its key
starts : {gs : List Group} → Readable gs → is_nil gs ≡ false → (r : Text) × (joined gs ≡ text "decl=" ++ r)
starts All.done e = impossible (cc)
starts (All.more {x = g} {xs = gs} k ks) e = (_, begun 5 (text "decl=") g.header (joined_fields g.fields ++ joined gs) k.header.begins)

pub read-joined : (head : Text) (h : Head) (gs : List Group) → is_nil gs ≡ false → HeadReads head h → Readable gs
    → (ds : List Declaration) × (read_record (head ++ joined gs) ≡ record_is h ds) × Says (head ++ joined gs) gs ds
unfolding read_record
read-joined head h gs n k ks = (w.declarations, is, w.says)
  where
    s : Text
    s = head ++ joined gs

    behind-head : drop (length head) s ≡ joined gs
    behind-head = drop-append_seam head (joined gs)

    head-is : head_at s 0 ≡ Some (h, length head)
    head-is = let v = starts ks n in ap (λ (r : Text). head_at (head ++ r) 0) v.1 ∙ k.read v.0

    some : 0 < length (drop (length head) s)
    some = let v = starts ks n in omega (arith, ap length (behind-head ∙ v.1))

    w : DeclarationsThere s (declarations_at s (length s) (length head)) gs
    w =
        there-too s (sym (some-there s (length s) (length head) some))
        (groups-there s ks (length s) (length head) behind-head (omega (arith, length-drop (length head) s)))

    is : read_record s ≡ record_is h w.declarations
    is = ap (λ (a : Read Head). on_read a no_record λ h p. with_head h (declarations_at s (length s) p)) head-is ∙ ap (with_head h) w.read
