-- When fragments are read alike whatever follows them: `Readable gs`, of each text by itself. `Tests gs` are equations of lists, each of which `refl` proves
-- for closed texts (Cases), and `readable` is that they are enough.
-- Assumes nothing.
use Rattle.std.specs.Prelude.{Some}
use Rattle.definitions.specs.Record.{Read, head_at, decl_at, field_at}
use Rattle.definitions.specs.declared.Field.{Field}
use Rattle.definitions.specs.declared.Decl.{Decl}
use mathlib.Core.Bool.{Bool, true, false}
use mathlib.Core.List.{List, [], ◌∷◌, ◌++◌, map}
use mathlib.Core.Path.{◌≡◌, refl, sym, ap, subst}
use lib.ListN.{length, take}
use Rattle.definitions.specs.Bytes.{Text, text, pick, part}
use Rattle.definitions.specs.declared.Head.{Head}
use Rattle.definitions.specs.declared.DeclDesc.{DeclDesc}
use Rattle.fewer.proofs.Fewer.{Sublist}
use Rattle.fragments.proofs.Lists.{is_nil, first, rest, All, done, more, all_apart, all-fewer}
use Rattle.fragments.specs.Groups.{Group}
use Rattle.fragments.proofs.Groups.{head_in, field_in, decl_in, FewerGroups}
use Rattle.fragments.proofs.Names.{field_names, own_names}

-- ---- one text

-- a head, before a declaration
pub record HeadReads (head : Text) (h : Head) : Type 0 where
  pub read : (r : Text) → head_at (head ++ (text "decl=" ++ r)) 0 ≡ Some (h, length head)
  pub target : (r : Text) → part (head ++ r) h.target ≡ part head h.target

pub record FieldReads (f : Text) : Type 0 where
  pub begins : take 6 f ≡ text "field="
  pub read : (r : Text) → field_at (f ++ r) 0 ≡ Some (field_in f, length f)
  pub names : (r : Text) → field_names (f ++ r) (field_in f) ≡ field_names f (field_in f)

-- the lines of a declaration, before a field, before the next declaration, or at the record's end
pub record HeaderReads (g : Text) : Type 0 where
  pub begins : take 5 g ≡ text "decl="
  pub before-field : (r : Text) → decl_at (g ++ (text "field=" ++ r)) 0 ≡ Some (decl_in g, length g)
  pub before-decl : (r : Text) → decl_at (g ++ (text "decl=" ++ r)) 0 ≡ Some (decl_in g, length g)
  pub last : decl_at (g ++ []) 0 ≡ Some (decl_in g, length g)
  pub names : (r : Text) → own_names (g ++ r) (decl_in g) ≡ own_names g (decl_in g)

-- ---- a declaration: its lines, its fields, and fields only where it may have them

abbrev pub holds_fields : DeclDesc → Bool
holds_fields (DeclDesc.Checksum width) = false
holds_fields (DeclDesc.CustomField width) = false
holds_fields (DeclDesc.Enum width is_open is_complete) = false
holds_fields (DeclDesc.Packet parent) = true
holds_fields (DeclDesc.Struct parent) = true

abbrev pub fits : DeclDesc → List Text → Bool
fits d fs = pick (is_nil fs) true (holds_fields d)

pub record GroupReads (g : Group) : Type 0 where
  pub header : HeaderReads g.header
  pub fits : fits (decl_in g.header).desc g.fields ≡ true
  pub fields : All FieldReads g.fields

abbrev pub Readable : List Group → Type 0
Readable gs = All GroupReads gs

-- ---- and so with fewer fields

fewer-fits : (d : DeclDesc) {xs ys : List Text} → Sublist xs ys → fits d ys ≡ true → fits d xs ≡ true
fewer-fits d Sublist.done e = refl
fewer-fits d (Sublist.keep l) e = e
fewer-fits d (Sublist.skip {xs = xs} l) e = by xs
  where
    by : (xs : List Text) → fits d xs ≡ true
    by [] = refl
    by (x ∷ xs) = e

pub fewer-readable : {some all : List Group} → FewerGroups some all → Readable all → Readable some
fewer-readable FewerGroups.done done = done
fewer-readable (FewerGroups.more {g = g} {h = h} e l w) (more k ks) =
    more {x = g} (record {
      header = subst HeaderReads (sym e) k.header;
      fits = rw e (fewer-fits (decl_in h.header).desc l k.fits);
      fields = all-fewer l k.fields;
    }) (fewer-readable w ks)

-- ---- the tests of many texts, each an equation of lists: what is seen of a text before any other one, and what is said

abbrev pub head_seen : Text → Text → Read Head × Text
head_seen u r = (head_at (u ++ (text "decl=" ++ r)) 0, part (u ++ r) (head_in u).target)

abbrev pub head_said : Text → Text → Read Head × Text
head_said u r = (Some (head_in u, length u), part u (head_in u).target)

-- its key, what is read before a field, before a declaration and at the end, and its names
abbrev pub HeaderSight : Type 0
HeaderSight = Text × Read Decl × Read Decl × Read Decl × (Text × List Text)

abbrev pub header_seen : Text → Text → HeaderSight
header_seen g r =
    (take 5 g, decl_at (g ++ (text "field=" ++ r)) 0, decl_at (g ++ (text "decl=" ++ r)) 0, decl_at (g ++ []) 0, own_names (g ++ r) (decl_in g))

abbrev pub header_said : Text → Text → HeaderSight
header_said g r = let is = Some (decl_in g, length g) in (text "decl=", is, is, is, own_names g (decl_in g))

abbrev pub FieldSight : Type 0
FieldSight = Text × Read Field × (List Text × List Text)

abbrev pub field_seen : Text → Text → FieldSight
field_seen f r = (take 6 f, field_at (f ++ r) 0, field_names (f ++ r) (field_in f))

abbrev pub field_said : Text → Text → FieldSight
field_said f r = (text "field=", Some (field_in f, length f), field_names f (field_in f))

-- a declaration has fields only where it may have them
abbrev pub group_fits : Group → Bool
group_fits g = fits (decl_in g.header).desc g.fields

-- the texts of all fields, one after the other, and of all headers
abbrev pub field_texts : List Group → List Text
field_texts [] = []
field_texts (g ∷ gs) = g.fields ++ field_texts gs

abbrev pub header_texts : List Group → List Text
header_texts gs = map (λ g. g.header) gs

pub record Tests (gs : List Group) : Type 0 where
  pub headers : map header_seen (header_texts gs) ≡ map header_said (header_texts gs)
  pub fits : map group_fits gs ≡ map (λ g. true) gs
  pub fields : map field_seen (field_texts gs) ≡ map field_said (field_texts gs)

-- ---- they are enough

pub heads-read : (us : List Text) → map head_seen us ≡ map head_said us → All (λ u. HeadReads u (head_in u)) us
heads-read [] e = done
heads-read (u ∷ us) e =
    more (record {
      read = λ r. ap (λ (f : Text → Read Head × Text). (f r).0) (first e);
      target = λ r. ap (λ (f : Text → Read Head × Text). (f r).1) (first e);
    })
    (heads-read us (rest e))

pub fields_read : (fs : List Text) → map field_seen fs ≡ map field_said fs → All FieldReads fs
fields_read [] e = done
fields_read (f ∷ fs) e =
    more (record {
      begins = ap (λ (h : Text → FieldSight). (h []).0) (first e);
      read = λ r. ap (λ (h : Text → FieldSight). (h r).1) (first e);
      names = λ r. ap (λ (h : Text → FieldSight). (h r).2) (first e);
    })
    (fields_read fs (rest e))

pub headers-read : (gs : List Text) → map header_seen gs ≡ map header_said gs → All HeaderReads gs
headers-read [] e = done
headers-read (g ∷ gs) e =
    more (record {
      begins = ap (λ (h : Text → HeaderSight). (h []).0) (first e);
      before-field = λ r. ap (λ (h : Text → HeaderSight). (h r).1) (first e);
      before-decl = λ r. ap (λ (h : Text → HeaderSight). (h r).2) (first e);
      last = ap (λ (h : Text → HeaderSight). (h []).3) (first e);
      names = λ r. ap (λ (h : Text → HeaderSight). (h r).4) (first e);
    })
    (headers-read gs (rest e))

-- from the tests of each text
pub groups-read : (gs : List Group) → All HeaderReads (header_texts gs) → All FieldReads (field_texts gs)
    → map group_fits gs ≡ map (λ g. true) gs → Readable gs
groups-read [] h k e = done
groups-read (g ∷ gs) (more h hs) k e =
    let w = all_apart g.fields k in
    more (record { header = h; fits = first e; fields = w.0 }) (groups-read gs hs w.1 (rest e))

pub readable : (gs : List Group) → Tests gs → Readable gs
readable gs t = groups-read gs (headers-read (header_texts gs) t.headers) (fields_read (field_texts gs) t.fields) t.fits
