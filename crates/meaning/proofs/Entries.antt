-- What each entry of the tables has, where none of the refusals 16 and 3 to 9 is met: its names were found, its arrays have whole elements, and its bit
-- fields have the widths that the record declares. So the target of an accepted record has it.
-- Assumes nothing.
use Rattle.std.specs.Prelude.{Ok, Err, Option, Some, None}
use Rattle.definitions.specs.Refusals.{Verdict, find, is_frame, is_enum_desc, lacks, bad_name, bad_type, bad_names, unknown_from, unknown_name, verdict, keyword_name, too_many, duplicate_name, out_of_range, large, ragged_field, ragged, is_target}
use mathlib.Core.Bool.{Bool, true, false}
use mathlib.Core.List.{List, [], ◌∷◌, ◌++◌}
use mathlib.Core.Path.{◌≡◌, refl, sym, ap, ◌∙◌, subst}
use Prim.Native.Nat.{suc, ◌+◌, ◌≤◌}
use native.Mathlib.Nat.{add-zero}
use native.Mathlib.Omega.{arith}
use lib.Dec.{ltb}
use lib.ListN.{length}
use borrow.Author.Tests.{not-false, ltb-false}
use Rattle.definitions.specs.Bytes.{Text, any}
use Rattle.definitions.specs.Record.{Declaration, RecordRead, record_is, no_record, read_record}
use Rattle.definitions.specs.Sizes.{Schema, Entry, Row, Annotated, total_size, lookup, same_name, total_of, desc_size, annotate_fields, row_of, annotate_decl, annotate_from, new_schema, parent_id, desc_enum, enum_of, is_enum, is_bitfield, static_width}
use Rattle.definitions.specs.FieldParser.{is_bit, Setting, Outcome, refused, accepted}
use Rattle.definitions.specs.Answer.{setting_of, lower_target, lower_in, lower_record, answer_read, wrong_length, answer}
use Rattle.definitions.specs.Blocks.{Block}
use Rattle.definitions.specs.declared.EnumKind.{EnumKind}
use Rattle.definitions.specs.declared.Part.{Part}
use Rattle.definitions.specs.declared.Head.{Head}
use Rattle.definitions.specs.declared.FieldDesc.{FieldDesc}
use Rattle.definitions.specs.declared.Condition.{Condition}
use Rattle.definitions.specs.declared.Field.{Field}
use Rattle.definitions.specs.declared.Decl.{Decl}
use Rattle.definitions.specs.declared.DeclDesc.{DeclDesc}
use Rattle.definitions.specs.declared.Size.{Size}
use Rattle.definitions.specs.declared.Refusal.{Refusal}
use Rattle.lengths.proofs.Booleans.{impossible, neither, refuse-next}
use Rattle.meaning.specs.Rule.{enum_width, declared_width, width_of}
use Rattle.meaning.specs.Runs.{Target, first_target, target_in, target_of}
use Rattle.meaning.proofs.ChunkNames.{DescFree, FieldsFree, DeclarationsFree, RecordFree, record-free}

-- ---- tests over lists

module _ {A : Type 0} (f : A → Bool) where
  abbrev pub NoneOf : List A → Type 0
  NoneOf [] = Unit {0}
  NoneOf (x ∷ xs) = (f x ≡ false) × NoneOf xs

  pub none_of : (xs : List A) → any f xs ≡ false → NoneOf xs
  none_of [] e = tt
  none_of (x ∷ xs) e = let k = neither (f x) (any f xs) e in (k.0, none_of xs k.1)

-- ---- rows: an enum's total size is its width

abbrev pub RowOk : Row → Type 0
RowOk r = (kind : EnumKind) → desc_enum r.decl.desc ≡ Some kind → total_size r ≡ Size.Static kind.width

abbrev pub RowsOk : List Row → Type 0
RowsOk [] = Unit {0}
RowsOk (r ∷ rs) = RowOk r × RowsOk rs

row_ok : (s : Text) (rows : List Row) (d : Decl) (xs : List Annotated) → RowOk (row_of s rows d xs)
row_ok s rows d xs = by d.desc refl
  where
    by : (desc : DeclDesc) → d.desc ≡ desc → (kind : EnumKind) → desc_enum d.desc ≡ Some kind → total_size (row_of s rows d xs) ≡ Size.Static kind.width
    by (DeclDesc.Checksum width) e kind h = let g : None ≡ Some kind = ap desc_enum (sym e) ∙ h in impossible (cc)
    by (DeclDesc.CustomField width) e kind h = let g : None ≡ Some kind = ap desc_enum (sym e) ∙ h in impossible (cc)
    by (DeclDesc.Enum width is_open is_complete) e kind h =
        let g : Some (record { width = width; is_open = is_open; is_complete = is_complete }) ≡ Some kind = ap desc_enum (sym e) ∙ h in
        let q : width ≡ kind.width = ap enum_width g in
        rw e (ap Size.Static (add-zero (width + 0) ∙ add-zero width ∙ q))
    by (DeclDesc.Packet parent) e kind h = let g : None ≡ Some kind = ap desc_enum (sym e) ∙ h in impossible (cc)
    by (DeclDesc.Struct parent) e kind h = let g : None ≡ Some kind = ap desc_enum (sym e) ∙ h in impossible (cc)

rows_snoc : (rs : List Row) (r : Row) → RowsOk rs → RowOk r → RowsOk (rs ++ (r ∷ []))
rows_snoc [] r h k = (k, tt)
rows_snoc (q ∷ rs) r h k = (h.0, rows_snoc rs r h.1 k)

abbrev pub FoundOk : Option Row → Type 0
FoundOk None = Unit {0}
FoundOk (Some r) = RowOk r

pub lookup-ok : (s : Text) (rows : List Row) (name : Part) → RowsOk rows → FoundOk (lookup s rows name)
unfolding lookup
lookup-ok s [] name h = tt
lookup-ok s (r ∷ rs) name h = by (lookup-ok s rs name h.1) (same_name s r.decl.id name)
  where
    by : FoundOk (lookup s rs name) → (b : Bool) → FoundOk (elim b [ true ↦ Some r | false ↦ lookup s rs name ])
    by k true = h.0
    by k false = k

-- ---- rows are those of the declarations before

abbrev Rows : List Declaration → List Row → Type 0
Rows [] [] = Unit {0}
Rows [] (r ∷ rs) = ⊥
Rows (d ∷ ds) [] = ⊥
Rows (d ∷ ds) (r ∷ rs) = (d.decl ≡ r.decl) × Rows ds rs

rows_more : (ds : List Declaration) (rs : List Row) (d : Declaration) (r : Row) → Rows ds rs → d.decl ≡ r.decl → Rows (ds ++ (d ∷ [])) (rs ++ (r ∷ []))
rows_more [] [] d r h e = (e, tt)
rows_more [] (q ∷ rs) d r h e = absurd h
rows_more (c ∷ ds) [] d r h e = absurd h
rows_more (c ∷ ds) (q ∷ rs) d r h e = (h.0, rows_more ds rs d r h.1 e)

-- a name found among the declarations is found among the rows
abbrev Met : Option DeclDesc → Option Row → Type 0
Met None q = Unit {0}
Met (Some d) None = ⊥
Met (Some d) (Some r) = r.decl.desc ≡ d

met : (s : Text) (ds : List Declaration) (rs : List Row) (name : Part) → Rows ds rs → Met (find s ds name) (lookup s rs name)
unfolding find lookup
met s [] rs name h = tt
met s (d ∷ ds) [] name h = absurd h
met s (d ∷ ds) (r ∷ rs) name h =
    subst (λ (x : Decl). Met (find s (d ∷ ds) name) (elim (same_name s x.id name) [ true ↦ Some r | false ↦ lookup s rs name ])) h.0
    (by (met s ds rs name h.1) (same_name s d.decl.id name))
  where
    by : Met (find s ds name) (lookup s rs name) → (b : Bool)
        → Met (elim b [ true ↦ Some d.decl.desc | false ↦ find s ds name ]) (elim b [ true ↦ Some r | false ↦ lookup s rs name ])
    by k true = ap (λ (x : Decl). x.desc) (sym h.0)
    by k false = k

-- ---- the fields of an entry

-- a field of a declaration before which these rows stand, with its size
pub record Fits (c : Setting) (a : Annotated) : Type 0 where
  -- 8 does not turn it back
  pub whole : ragged_field c.source c.scope a.field ≡ false
  -- its name is no `chunk` with a number
  pub free : DescFree c.source a.field.desc
  -- a bit field has its declared width
  pub wide : is_bit c a.field ≡ true → static_width a.field_size ≡ width_of c a.field

abbrev pub AllFit : Setting → List Annotated → Type 0
AllFit c [] = Unit {0}
AllFit c (a ∷ xs) = Fits c a × AllFit c xs

module _ (c : Setting) (earlier : List Declaration) (rows : Rows earlier c.scope) (ok : RowsOk c.scope) where
  -- a type that is an enum: its total size is its width
  enum-width : (type : Part) (q : Option Row) → lookup c.source c.scope type ≡ q → FoundOk q → is_enum (enum_of c.source c.scope type) ≡ true
      → static_width (total_of c.source c.scope type) ≡ enum_width (enum_of c.source c.scope type)
  enum-width type None e k b =
      let g : is_enum None ≡ true = subst (λ (o : Option Row). is_enum (elim o as (λ _. Option EnumKind) [ Some r ↦ desc_enum r.decl.desc | None ↦ None ]) ≡ true) e b in
      impossible (cc)
  enum-width type (Some r) e k b =
      subst
      (λ (o : Option Row).
      static_width (elim o as (λ _. Size) [ Some q ↦ total_size q | None ↦ Size.Unknown ])
      ≡ enum_width (elim o as (λ _. Option EnumKind) [ Some q ↦ desc_enum q.decl.desc | None ↦ None ]))
      (sym e)
      (by (desc_enum r.decl.desc) refl
      (subst (λ (o : Option Row). is_enum (elim o as (λ _. Option EnumKind) [ Some q ↦ desc_enum q.decl.desc | None ↦ None ]) ≡ true) e b))
    where
      by : (d : Option EnumKind) → desc_enum r.decl.desc ≡ d → is_enum (desc_enum r.decl.desc) ≡ true → static_width (total_size r) ≡ enum_width (desc_enum r.decl.desc)
      by (Some kind) h g = ap static_width (k kind h) ∙ sym (ap enum_width h)
      by None h g =
          let i : is_enum None ≡ true = ap is_enum (sym h) ∙ g in
          impossible (cc)

  -- 5: a fixed enum's type is an enum
  fixed-enum : (type : Part) → lacks is_enum_desc (find c.source earlier type) ≡ false → is_enum (enum_of c.source c.scope type) ≡ true
  fixed-enum type e = by (find c.source earlier type) (lookup c.source c.scope type) (met c.source earlier c.scope type rows) e
    where
      by : (f : Option DeclDesc) (q : Option Row) → Met f q → lacks is_enum_desc f ≡ false
          → is_enum (elim q as (λ _. Option EnumKind) [ Some r ↦ desc_enum r.decl.desc | None ↦ None ]) ≡ true
      by None q m h = impossible (cc)
      by (Some d) None m h = absurd m
      by (Some d) (Some r) m h = ap (λ (x : DeclDesc). is_enum (desc_enum x)) m ∙ not-false (is_enum_desc d) h

  desc-wide : (fs : List Field) (d : FieldDesc) → bad_type c.source earlier d ≡ false → is_bitfield c.source c.scope d ≡ true
      → static_width (desc_size c.source c.scope fs d) ≡ declared_width c d
  unfolding desc_size
  desc-wide fs (FieldDesc.Checksum of) h b = refl
  desc-wide fs (FieldDesc.Padding size) h b = refl
  desc-wide fs (FieldDesc.Size of width) h b = refl
  desc-wide fs (FieldDesc.Count of width) h b = refl
  desc-wide fs (FieldDesc.ElementSize of width) h b = refl
  desc-wide fs FieldDesc.Body h b = impossible (cc)
  desc-wide fs (FieldDesc.Payload modifier) h b = impossible (cc)
  desc-wide fs (FieldDesc.FixedScalar width value) h b = refl
  desc-wide fs (FieldDesc.FixedEnum type tag) h b =
      enum-width type (lookup c.source c.scope type) refl (lookup-ok c.source c.scope type ok) (fixed-enum type h)
  desc-wide fs (FieldDesc.Reserved width) h b = refl
  desc-wide fs (FieldDesc.Array id width type modifier size) h b = impossible (cc)
  desc-wide fs (FieldDesc.Scalar id width) h b = refl
  desc-wide fs (FieldDesc.Flag id) h b = refl
  desc-wide fs (FieldDesc.Typedef id type) h b =
      enum-width type (lookup c.source c.scope type) refl (lookup-ok c.source c.scope type ok) b

  fields_fit : (fs xs : List Field) → NoneOf (ragged_field c.source c.scope) xs → NoneOf (λ (f : Field). bad_type c.source earlier f.desc) xs
      → FieldsFree c.source xs → AllFit c (annotate_fields c.source c.scope fs xs)
  unfolding annotate_fields is_bit
  fields_fit fs [] r b f = tt
  fields_fit fs (x ∷ xs) r b f = (record { whole = r.0; free = f.0.0; wide = by x.cond }, fields_fit fs xs r.1 b.1 f.1)
    where
      by : (k : Option Condition)
          → elim k as (λ _. Bool) [ None ↦ is_bitfield c.source c.scope x.desc | Some cond ↦ false ] ≡ true
          → static_width (elim k as (λ _. Size) [ None ↦ desc_size c.source c.scope fs x.desc | Some cond ↦ Size.Dynamic ]) ≡ width_of c x
      by None e = desc-wide fs x.desc b.0 e
      by (Some cond) e = impossible (cc)

-- the fields themselves
abbrev pub plain : List Annotated → List Field
plain [] = []
plain (a ∷ xs) = a.field ∷ plain xs

annotated-plain : (s : Text) (rows : List Row) (fs xs : List Field) → plain (annotate_fields s rows fs xs) ≡ xs
unfolding annotate_fields
annotated-plain s rows fs [] = refl
annotated-plain s rows fs (x ∷ xs) = ap (λ (l : List Field). x ∷ l) (annotated-plain s rows fs xs)

annotated-length : (s : Text) (rows : List Row) (fs xs : List Field) → length (annotate_fields s rows fs xs) ≡ length xs
unfolding annotate_fields
annotated-length s rows fs [] = refl
annotated-length s rows fs (x ∷ xs) = ap suc (annotated-length s rows fs xs)

-- ---- the entries

pub record EntryOk (s : Text) (h : Head) (e : Entry) : Type 0 where
  pub rows : RowsOk e.earlier
  pub fit : AllFit (setting_of s h e) e.fields
  pub fields-are : plain e.fields ≡ e.declaration.fields
  pub few : length e.fields ≤ 64

abbrev pub EntriesOk : Text → Head → Schema → Type 0
EntriesOk s h [] = Unit {0}
EntriesOk s h (e ∷ es) = EntryOk s h e × EntriesOk s h es

entries-ok : (s : Text) (h : Head) (earlier : List Declaration) (rows : List Row) (ds : List Declaration) → Rows earlier rows → RowsOk rows
    → any (λ (d : Declaration). ltb 64 (length d.fields)) ds ≡ false → unknown_from s earlier ds ≡ false → DeclarationsFree s ds
    → NoneOf (λ (e : Entry). any (ragged_field s e.earlier) e.declaration.fields) (annotate_from s rows ds)
    → EntriesOk s h (annotate_from s rows ds)
unfolding annotate_from unknown_from
entries-ok s h earlier rows [] are ok m u free r = tt
entries-ok s h earlier rows (d ∷ ds) are ok m u free r =
    let Some = neither (ltb 64 (length d.fields)) (any (λ (x : Declaration). ltb 64 (length x.fields)) ds) m in
    let bad : bad_names s earlier d ≡ false = (neither (bad_names s earlier d) (unknown_from s (earlier ++ (d ∷ [])) ds) u).0 in
    let types : NoneOf (λ (x : Field). bad_type s earlier x.desc) d.fields =
    none_of (λ (x : Field). bad_type s earlier x.desc) d.fields
    (neither (bad_name s earlier is_frame (parent_id d.decl.desc)) (any (λ (x : Field). bad_type s earlier x.desc) d.fields) bad).1 in (
      record {
        rows = ok;
        fit =
            fields_fit (setting_of s h (annotate_decl s rows d)) earlier are ok d.fields d.fields
            (none_of (ragged_field s rows) d.fields r.0) types free.0;
        fields-are = annotated-plain s rows d.fields d.fields;
        few = omega (arith, annotated-length s rows d.fields d.fields, ltb-false 64 (length d.fields) Some.0);
      },
      entries-ok s h (earlier ++ (d ∷ [])) (rows ++ ((annotate_decl s rows d).row ∷ [])) ds
          (rows_more earlier rows d (annotate_decl s rows d).row are refl)
          (rows_snoc rows (annotate_decl s rows d).row ok (row_ok s rows d.decl (annotate_fields s rows d.fields d.fields)))
          Some.1 (neither (bad_names s earlier d) (unknown_from s (earlier ++ (d ∷ [])) ds) u).1 free.1 r.1,
    )

-- none of 16 and 3 to 9 is met
module _ (s : Text) (h : Head) (ds : List Declaration) (schema : Schema) where
  passes-tests : verdict s h ds schema ≡ (Ok tt)
      → (keyword_name s h ds ≡ false) × (too_many ds ≡ false) × (unknown_name s ds ≡ false) × (ragged s schema ≡ false)
  unfolding verdict
  passes-tests e =
      let free = refuse-next (keyword_name s h ds) Refusal.Keyword _ e in
      let many = refuse-next (too_many ds) Refusal.TooMany _ free.1 in
      let two = refuse-next (duplicate_name s ds) Refusal.DuplicateName _ many.1 in
      let unknown = refuse-next (unknown_name s ds) Refusal.UnknownName _ two.1 in
      let range = refuse-next (out_of_range ds) Refusal.OutOfRange _ unknown.1 in
      let size = refuse-next (large schema) Refusal.TooLarge _ range.1 in
      let whole = refuse-next (ragged s schema) Refusal.NotWholeBytes _ size.1 in
      (free.0, many.0, unknown.0, whole.0)

-- so each entry is as `EntryOk` says
pub each-ok : (s : Text) (h : Head) (ds : List Declaration) → read_record s ≡ record_is h ds → verdict s h ds (new_schema s ds) ≡ (Ok tt)
    → EntriesOk s h (new_schema s ds)
unfolding ragged too_many
each-ok s h ds r e =
    let p = passes-tests s h ds (new_schema s ds) e in
    entries-ok s h [] [] ds tt tt (neither (ltb 32 (length ds)) (any (λ (d : Declaration). ltb 64 (length d.fields)) ds) p.1).1 p.2
    (subst (RecordFree s) r (record-free s))
    (none_of (λ (x : Entry). any (ragged_field s x.earlier) x.declaration.fields) (new_schema s ds) p.3)

-- ---- the answer

-- what is known of an entry whose fields give these blocks: enough for demand 3
pub record Lowers (s : Text) (h : Head) (e : Entry) (bs : List Block) : Type 0 where
  pub lowers : lower_target s h e ≡ accepted bs
  pub ok : EntryOk s h e

-- what is known of the target of an accepted record
pub record Grounds (s : Text) (bs : List Block) (t : Target) : Type 0 where
  pub is-target : target_of s ≡ Some t
  pub lowered : Lowers s t.head t.entry bs

-- the target is the first entry that is asked for
first-lowered : (s : Text) (h : Head) (bs : List Block) (es : Schema) → EntriesOk s h es → lower_in s h es ≡ accepted bs
    → (t : Target) × (first_target s h es ≡ Some t) × Lowers s t.head t.entry bs
unfolding lower_in first_target
first-lowered s h bs [] k e = impossible (cc)
first-lowered s h bs (d ∷ es) k e = by (λ f. first-lowered s h bs es k.1 f) (is_target s h d) e
  where
    by : (lower_in s h es ≡ accepted bs → (t : Target) × (first_target s h es ≡ Some t) × Lowers s t.head t.entry bs)
        → (b : Bool) → (elim b as (λ _. Outcome) [ true ↦ lower_target s h d | false ↦ lower_in s h es ]) ≡ accepted bs
        → (t : Target)
        × ((elim b as (λ _. Option Target) [ true ↦ Some (record { head = h; entry = d }) | false ↦ first_target s h es ]) ≡ Some t)
        × Lowers s t.head t.entry bs
    by more true f = (record { head = h; entry = d }, refl, record { lowers = f; ok = k.0 })
    by more false f = more f

-- an accepted record is read
read-accepted : (s : Text) (bs : List Block) → answer s ≡ accepted bs → answer_read s (read_record s) ≡ accepted bs
unfolding answer
read-accepted s bs e = by (wrong_length s) e
  where
    by : (b : Bool) → (elim b as (λ _. Outcome) [ true ↦ refused Refusal.RecordLength | false ↦ answer_read s (read_record s) ]) ≡ accepted bs
        → answer_read s (read_record s) ≡ accepted bs
    by true f = impossible (cc)
    by false f = f

pub has-record : (s : Text) (bs : List Block) → answer s ≡ accepted bs → (h : Head) × (ds : List Declaration) × (read_record s ≡ record_is h ds)
has-record s bs e = by (read_record s) (read-accepted s bs e)
  where
    by : (r : RecordRead) → answer_read s r ≡ accepted bs → (h : Head) × (ds : List Declaration) × (r ≡ record_is h ds)
    by no_record f = impossible (cc)
    by (record_is h ds) f = (h, ds, refl)

-- it meets none of the tests, and its target is lowered
record-passed : (s : Text) (bs : List Block) → answer s ≡ accepted bs → (h : Head) (ds : List Declaration) → read_record s ≡ record_is h ds
    → (verdict s h ds (new_schema s ds) ≡ (Ok tt)) × (lower_in s h (new_schema s ds) ≡ accepted bs)
unfolding lower_record
record-passed s bs e h ds r = by (verdict s h ds (new_schema s ds)) (ap (answer_read s) (sym r) ∙ read-accepted s bs e)
  where
    by : (v : Verdict) → (elim v as (λ _. Outcome) [ (Ok tt) ↦ lower_in s h (new_schema s ds) | Err why ↦ refused why ]) ≡ accepted bs
        → (v ≡ (Ok tt)) × (lower_in s h (new_schema s ds) ≡ accepted bs)
    by (Err why) f = impossible (cc)
    by (Ok tt) f = (refl, f)

-- no name of it is a keyword
pub no-keyword : (s : Text) (bs : List Block) → answer s ≡ accepted bs → (h : Head) (ds : List Declaration) → read_record s ≡ record_is h ds
    → keyword_name s h ds ≡ false
no-keyword s bs e h ds r = (passes-tests s h ds (new_schema s ds) (record-passed s bs e h ds r).0).0

pub has-grounds : (s : Text) (bs : List Block) → answer s ≡ accepted bs → (t : Target) × Grounds s bs t
has-grounds s bs e = by (has-record s bs e)
  where
    by : (h : Head) × (ds : List Declaration) × (read_record s ≡ record_is h ds) → (t : Target) × Grounds s bs t
    by (h, ds, r) =
        let p = record-passed s bs e h ds r in
        let t = first-lowered s h bs (new_schema s ds) (each-ok s h ds r p.0) p.1 in
        (t.0, record { is-target = ap (target_in s) r ∙ t.1; lowered = t.2 })

-- there is one target
pub same_target : {a b : Target} → Some a ≡ Some b → a ≡ b
same_target g = cc

pub grounds : (s : Text) (bs : List Block) → answer s ≡ accepted bs → (t : Target) → target_of s ≡ Some t → Grounds s bs t
grounds s bs e t f =
    let h = has-grounds s bs e in
    subst (Grounds s bs) (same_target (sym h.1.is-target ∙ f)) h.1
