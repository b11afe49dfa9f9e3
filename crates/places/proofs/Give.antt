-- The tables that the reader left give the declarations of the record back (`declarations_from` of `tables_from`), where no name is a keyword.
-- Assumes nothing.
use Rattle.std.specs.Prelude.{Some, None, Ok, Err}
use Rattle.definitions.specs.Record.{Read, decl_at, fields_behind, declarations_at, on_read, on_fields, Fields, fields_are, no_fields, Declaration, Declarations, declarations_are, no_declarations, with_declaration}
use Prim.Native.Nat.{ℕ, zero, suc, ◌+◌, ◌*◌, ◌/◌, ◌≤◌, ◌<◌}
use mathlib.Core.Bool.{Bool, true, false}
use mathlib.Core.List.{List, [], ◌∷◌, ◌++◌, append_assoc}
use mathlib.Core.Path.{◌≡◌, refl, sym, ap, ◌∙◌, subst}
use native.Mathlib.Nat.{zero-add}
use native.Mathlib.Numerals.{add-one}
use native.Mathlib.Omega.{arith}
use lib.Dec.{ltb}
use lib.ListN.{length, get_or, take, drop, set}
use lib.Seq.{sets, sets-eq, length-sets, take-set-le, take-add, drop-cons, drop_at, take_at, length-take-le}
use Rattle.definitions.specs.Bytes.{Text, pick}
use Rattle.definitions.specs.Refusals.{any_keyword, decl_names, fields_names, declarations_names, is_frame}
use Rattle.definitions.specs.declared.Field.{Field}
use Rattle.definitions.specs.declared.Decl.{Decl}
use Rattle.keywords.specs.Screens.{screen_decl}
use Rattle.keywords.proofs.Names.{keyword-neither}
use Rattle.tables.specs.Words.{field_words, decl_words}
use Rattle.tables.specs.Tables.{Tables, decl_here, count_here, field_here, fields_from, declaration_in, declarations_from}
use Rattle.tables.proofs.Entries.{field-same, decl-same}
use Rattle.tables.proofs.Again.{get_d-before, here-again, decl-again, count-again}
use Rattle.places.specs.Places.{counted, field_keys, with_values, with_row, given, with_decl, with_fields, screen_fields, decl_read, tables_with, tables_from, up_to_behind}
use Rattle.places.proofs.Ends.{Ends, decl-ends}
use Rattle.places.proofs.Screened.{decl_on, decl-read}
use Rattle.places.proofs.Filling.{length-values, tail_tables}
use Rattle.places.proofs.Keys.{Apart, apart_from_lem, Follow, behind-follow}

-- ---- what the tables hold

abbrev with_rows : List ℕ → ℕ → List Declaration → List ℕ
with_rows t i [] = t
with_rows t i (d ∷ ds) = with_rows (with_row t i d.decl (length d.fields)) (i + 1) ds

abbrev with_all : List ℕ → List Declaration → List ℕ
with_all t [] = t
with_all t (d ∷ ds) = with_all (with_values t d.fields) ds

-- the places of the fields of each declaration from the i-th on: 64 entries for each
abbrev with_places : List ℕ → ℕ → List Declaration → List ℕ
with_places t i [] = t
with_places t i (d ∷ ds) = with_places (sets t (i * 64) (field_keys d.fields)) (i + 1) ds

-- the fields of declarations, those of each from the end of the one before it on
data Spaced : ℕ → List Declaration → ℕ → Type 0 where
  done : {low end : ℕ} → low ≤ end → Spaced low [] end
  more : {low end : ℕ} {d : Declaration} {ds : List Declaration} (mid : ℕ) → Apart low d.fields mid → Spaced mid ds end → Spaced low (d ∷ ds) end

-- the declarations `ds`, that stand from `at` on, written from the i-th row on
record Hold (s : Text) (t : Tables) (i at : ℕ) (ds : List Declaration) (u : Tables) : Type 0 where
  rows_are : u.rows ≡ with_rows t.rows i ds
  values-are : u.values ≡ with_all t.values ds
  fields-are : u.fields ≡ with_places t.fields i ds
  spaced : Spaced at ds (length s)

hold-none : (s : Text) (t : Tables) (i at : ℕ) → at ≤ length s → Hold s t i at [] t
hold-none s t i at h = record { rows_are = refl; values-are = refl; fields-are = refl; spaced = Spaced.done h }

hold-more : (s : Text) (t : Tables) (i at : ℕ) (d : Decl) (xs ys : List Field) (q : ℕ) (ds : List Declaration) (u : Tables) → ys ≡ xs → Apart at xs q
    → Hold s (with_decl (with_fields t i ys) i d (length xs)) (i + 1) q ds u → Hold s t i at (record { decl = d; fields = xs } ∷ ds) u
hold-more s t i at d xs ys q ds u e a h = record {
  rows_are = h.rows_are;
  values-are = h.values-are ∙ ap (λ (l : List Field). with_all (with_values t.values l) ds) e;
  fields-are = h.fields-are ∙ ap (λ (l : List Field). with_places (sets t.fields (i * 64) (field_keys l)) (i + 1) ds) e;
  spaced = Spaced.more q a h.spaced;
}

-- one declaration in front of the others
module _ (s : Text) (fuel i at : ℕ) (t : Tables) {d : Decl} {p : ℕ} (ed : decl_at s at ≡ Some (d, p)) {xs : List Field} {q : ℕ}
    (ef : fields_behind s d.desc p ≡ fields_are xs q) (own : any_keyword s (decl_names d) ≡ false) (theirs : any_keyword s (fields_names xs) ≡ false) where
  decl-free : screen_decl s (decl_at s at) ≡ Some (Ok d, p)
  decl-free = ap (screen_decl s) ed ∙ ap (λ (k : Bool). pick k (Some (Err (is_frame d.desc), p)) (Some (Ok d, p))) own

  fields_free : screen_fields s false 0 (fields_behind s d.desc p) ≡ Some (Some (length xs), q)
  fields_free =
      ap (screen_fields s false 0) ef ∙ ap (λ (k : Bool). counted k (0 + length xs) q) theirs ∙ ap (λ (n : ℕ). counted false n q) (zero-add (length xs))

  one-read : decl_read s false at ≡ Some (Some (length xs), q)
  one-read = decl-read s false at ∙ ap (decl_on s false) decl-free ∙ fields_free

  one_written : tables_with s i at t ≡ with_decl (with_fields t i (up_to_behind s d.desc p)) i d (length xs)
  unfolding tables_with
  one_written = rw (tables_with, decl-free, fields_free)

  then-others : tables_from s (suc fuel) i at t
      ≡ tail_tables s fuel (i + 1) (with_decl (with_fields t i (up_to_behind s d.desc p)) i d (length xs)) q
  unfolding tables_from
  then-others = rw (tables_from, one-read) (ap (λ (u : Tables). tail_tables s fuel (i + 1) u q) one_written)

tables-hold : (s : Text) (fuel i at : ℕ) (t : Tables) (ds : List Declaration) → declarations_at s fuel at ≡ declarations_are ds
    → any_keyword s (declarations_names ds) ≡ false → Hold s t i at ds (tables_from s fuel i at t)
unfolding declarations_at
tables-hold s zero i at t ds e free = absurd (let v : ◌≡◌ {A = ℕ} 0 1 = cc in omega arith)
tables-hold s (suc fuel) i at t ds e free = by (decl_at s at) refl e (tables-hold s fuel)
  where
    Ih : Type 0
    Ih = (j q : ℕ) (u : Tables) (es : List Declaration) → declarations_at s fuel q ≡ declarations_are es → any_keyword s (declarations_names es) ≡ false
        → Hold s u j q es (tables_from s fuel j q u)

    -- the declarations behind the first, and the tables with it
    tail : Bool → ℕ → Declarations
    tail b q = elim b [ true ↦ declarations_at s fuel q | false ↦ declarations_are [] ]

    filled : Bool → ℕ → Tables → Tables
    filled b q u = elim b [ true ↦ tables_from s fuel (i + 1) q u | false ↦ u ]

    on-tail : Ih → (b : Bool) (q : ℕ) → q ≤ length s → (u : Tables) (es : List Declaration) → tail b q ≡ declarations_are es
        → any_keyword s (declarations_names es) ≡ false → Hold s u (i + 1) q es (filled b q u)
    on-tail ih true q l u es h k = ih (i + 1) q u es h k
    on-tail ih false q l u es h k =
        subst (λ (x : List Declaration). Hold s u (i + 1) q x u) (let z : [] ≡ es = cc in z) (hold-none s u (i + 1) q l)

    with_tail : Ih → (d : Decl) (p : ℕ) → decl_at s at ≡ Some (d, p) → (xs : List Field) (q : ℕ) → fields_behind s d.desc p ≡ fields_are xs q
        → (r : Declarations) → tail (ltb q (length s)) q ≡ r → with_declaration (record { decl = d; fields = xs }) r ≡ declarations_are ds
        → Hold s t i at ds (tables_from s (suc fuel) i at t)
    with_tail ih d p ed xs q ef (declarations_are es) er h =
        let all : record { decl = d; fields = xs } ∷ es ≡ ds = cc in
        let own : (any_keyword s (decl_names d) ≡ false) × (any_keyword s (fields_names xs ++ declarations_names es) ≡ false) =
        keyword-neither s (decl_names d) (fields_names xs ++ declarations_names es)
        (ap (λ (l : List Declaration). any_keyword s (declarations_names l)) all ∙ free) in
        let theirs : (any_keyword s (fields_names xs) ≡ false) × (any_keyword s (declarations_names es) ≡ false) =
        keyword-neither s (fields_names xs) (declarations_names es) own.1 in
        let n : Ends (at + 16) (length s) p = decl-ends s at d p ed in
        let b : Follow s (up_to_behind s d.desc p) p xs q = behind-follow s d.desc p xs q ef theirs.0 in
        subst (λ (u : Tables). Hold s t i at ds u) (sym (then-others s fuel i at t ed ef own.0 theirs.0))
        (subst (λ (l : List Declaration). Hold s t i at l (filled (ltb q (length s)) q (next d p xs))) all
        (hold-more s t i at d xs (up_to_behind s d.desc p) q es (filled (ltb q (length s)) q (next d p xs)) b.read
        (apart_from_lem at p q xs (omega (arith, n.least)) b.apart)
        (on-tail ih (ltb q (length s)) q (b.inside n.most) (next d p xs) es er theirs.1)))
      where
        next : Decl → ℕ → List Field → Tables
        next c a ys = with_decl (with_fields t i (up_to_behind s c.desc a)) i c (length ys)
    with_tail ih d p ed xs q ef no_declarations er h = absurd (let v : ◌≡◌ {A = ℕ} 0 1 = cc in omega arith)

    on-fields : Ih → (d : Decl) (p : ℕ) → decl_at s at ≡ Some (d, p) → (f : Fields) → fields_behind s d.desc p ≡ f
        → on_fields f no_declarations (λ xs q. with_declaration (record { decl = d; fields = xs }) (tail (ltb q (length s)) q)) ≡ declarations_are ds
        → Hold s t i at ds (tables_from s (suc fuel) i at t)
    on-fields ih d p ed (fields_are xs q) ef h = with_tail ih d p ed xs q ef (tail (ltb q (length s)) q) refl h
    on-fields ih d p ed no_fields ef h = absurd (let v : ◌≡◌ {A = ℕ} 0 1 = cc in omega arith)

    by : (g : Read Decl) → decl_at s at ≡ g
        → on_read g no_declarations (λ d p.
        on_fields (fields_behind s d.desc p) no_declarations λ xs q. with_declaration (record { decl = d; fields = xs }) (tail (ltb q (length s)) q))
        ≡ declarations_are ds
        → Ih
        → Hold s t i at ds (tables_from s (suc fuel) i at t)
    by (Some (d, p)) ed h ih = on-fields ih d p ed (fields_behind s d.desc p) refl h
    by None ed h ih = absurd (let v : ◌≡◌ {A = ℕ} 0 1 = cc in omega arith)

-- ---- runs of stores

take_below : (l : List ℕ) (i : ℕ) (vs : List ℕ) (n : ℕ) → n ≤ i → take n (sets l i vs) ≡ take n l
take_below l i [] n h = refl
take_below l i (v ∷ vs) n h = take_below (set l i v) (suc i) vs n (omega arith) ∙ take-set-le n l i v h

places-below : (t : List ℕ) (i : ℕ) (ds : List Declaration) (n : ℕ) → n ≤ i * 64 → take n (with_places t i ds) ≡ take n t
places-below t i [] n h = refl
places-below t i (d ∷ ds) n h =
    places-below (sets t (i * 64) (field_keys d.fields)) (i + 1) ds n (omega arith) ∙ take_below t (i * 64) (field_keys d.fields) n h

places-length : (t : List ℕ) (i : ℕ) (ds : List Declaration) → length (with_places t i ds) ≡ length t
places-length t i [] = refl
places-length t i (d ∷ ds) = places-length (sets t (i * 64) (field_keys d.fields)) (i + 1) ds ∙ length-sets t (i * 64) (field_keys d.fields)

-- what stands in an interval is known from what stands up to its end
middle : (b n : ℕ) (l : List ℕ) → b ≤ length l → take n (drop b l) ≡ drop b (take (b + n) l)
middle b n l h = sym (ap (drop b) (take-add b n l) ∙ drop_at (take b l) (take n (drop b l)) b (length-take-le b l h))

keys_length : (xs : List Field) → length (field_keys xs) ≡ length xs
keys_length [] = refl
keys_length (x ∷ xs) = ap suc (keys_length xs)

stored : (t : List ℕ) (b : ℕ) (vs : List ℕ) → b + length vs ≤ length t → take (length vs) (drop b (sets t b vs)) ≡ vs
stored t b vs h =
    ap (λ (l : List ℕ). take (length vs) (drop b l)) (sets-eq vs t b h ∙ append_assoc (take b t) vs (drop (b + length vs) t))
    ∙ ap (take (length vs)) (drop_at (take b t) (vs ++ drop (b + length vs) t) b (length-take-le b t (omega arith)))
    ∙ take_at vs (drop (b + length vs) t) (length vs) refl

-- ---- tables with the same numbers below n

abbrev Same : ℕ → List ℕ → List ℕ → Type 0
Same n a b = (k : ℕ) → k < n → get_or a k 0 ≡ get_or b k 0

field-kept : (a b : List ℕ) (at n : ℕ) → Same n a b → at / 16 * 17 + 17 ≤ n → field_here a at ≡ field_here b at
unfolding field_here
field-kept a b at n e h = field-same a b (at / 16 * 17) (at / 16 * 17) (λ k l. e (at / 16 * 17 + k) (omega (arith, l, h)))

decl-kept : (a b : List ℕ) (i : ℕ) → Same ((i + 1) * 13) a b → decl_here a i ≡ decl_here b i
unfolding decl_here
decl-kept a b i e = decl-same a b (i * 13) (i * 13) (λ k l. e (i * 13 + k) (omega (arith, l)))

count_kept : (a b : List ℕ) (i : ℕ) → Same ((i + 1) * 13) a b → count_here a i ≡ count_here b i
count_kept a b i e = e (i * 13 + 9) (omega arith)

-- ---- the values: fields that are 16 bytes or more apart have numbers of their own

-- what stands at places
abbrev fields_here : List ℕ → List ℕ → List Field
fields_here v [] = []
fields_here v (p ∷ ps) = field_here v p ∷ fields_here v ps

apart-order : (low end : ℕ) (xs : List Field) → Apart low xs end → low ≤ end
apart-order low end [] (Apart.done h) = h
apart-order low end (x ∷ xs) (Apart.more h a) = omega (arith, apart-order (x.key + 16) end xs a)

spaced-order : (low end : ℕ) (ds : List Declaration) → Spaced low ds end → low ≤ end
spaced-order low end [] (Spaced.done h) = h
spaced-order low end (d ∷ ds) (Spaced.more mid a p) = omega (arith, apart-order low mid d.fields a, spaced-order mid end ds p)

values-below : (v : List ℕ) (low end : ℕ) (xs : List Field) → Apart low xs end → Same (low / 16 * 17) (with_values v xs) v
values-below v low end [] a k h = refl
values-below v low end (x ∷ xs) (Apart.more l a) k h =
    values-below (sets v (x.key / 16 * 17) (field_words x)) (x.key + 16) end xs a k (omega arith)
    ∙ get_d-before v (x.key / 16 * 17) (field_words x) k (omega arith)

all-below : (v : List ℕ) (low end : ℕ) (ds : List Declaration) → Spaced low ds end → Same (low / 16 * 17) (with_all v ds) v
all-below v low end [] a k h = refl
all-below v low end (d ∷ ds) (Spaced.more mid a p) k h =
    all-below (with_values v d.fields) mid end ds p k (omega (arith, apart-order low mid d.fields a))
    ∙ values-below v low mid d.fields a k h

fields-kept : (a b : List ℕ) (low end : ℕ) (xs : List Field) → Apart low xs end → Same (end / 16 * 17) a b
    → fields_here a (field_keys xs) ≡ fields_here b (field_keys xs)
fields-kept a b low end [] p e = refl
fields-kept a b low end (x ∷ xs) (Apart.more l p) e =
    rw (field-kept a b x.key (end / 16 * 17) e (omega (arith, apart-order (x.key + 16) end xs p)), fields-kept a b (x.key + 16) end xs p e)

values-back : (v : List ℕ) (low end : ℕ) (xs : List Field) → Apart low xs end → end / 16 * 17 ≤ length v
    → fields_here (with_values v xs) (field_keys xs) ≡ xs
values-back v low end [] a h = refl
values-back v low end (x ∷ xs) (Apart.more l a) h =
    rw (here, values-back v₁ (x.key + 16) end xs a (omega (arith, length-sets v (x.key / 16 * 17) (field_words x))))
  where
    v₁ : List ℕ
    v₁ = sets v (x.key / 16 * 17) (field_words x)

    here : field_here (with_values v₁ xs) x.key ≡ x
    here =
        field-kept (with_values v₁ xs) v₁ x.key ((x.key + 16) / 16 * 17) (values-below v₁ (x.key + 16) end xs a) (omega arith)
        ∙ here-again v x.key x (omega (arith, apart-order (x.key + 16) end xs a))

-- the fields of each declaration are read back at their keys
data Backs (v : List ℕ) : List Declaration → Type 0 where
  done : Backs v []
  more : {d : Declaration} {ds : List Declaration} → fields_here v (field_keys d.fields) ≡ d.fields → Backs v ds → Backs v (d ∷ ds)

all_back : (v : List ℕ) (low end : ℕ) (ds : List Declaration) → Spaced low ds end → end / 16 * 17 ≤ length v → Backs (with_all v ds) ds
all_back v low end [] p h = Backs.done
all_back v low end (d ∷ ds) (Spaced.more mid a p) h =
    Backs.more
    (fields-kept (with_all v₁ ds) v₁ low mid d.fields a (all-below v₁ mid end ds p)
    ∙ values-back v low mid d.fields a (omega (arith, spaced-order mid end ds p)))
    (all_back v₁ mid end ds p (omega (arith, length-values v d.fields)))
  where
    v₁ : List ℕ
    v₁ = with_values v d.fields

-- ---- the rows

rows-below : (t : List ℕ) (i : ℕ) (ds : List Declaration) → Same (i * 13) (with_rows t i ds) t
rows-below t i [] k h = refl
rows-below t i (d ∷ ds) k h =
    rows-below (with_row t i d.decl (length d.fields)) (i + 1) ds k (omega arith)
    ∙ get_d-before t (i * 13) (decl_words d.decl ++ (length d.fields ∷ [])) k h

length-row : (t : List ℕ) (i : ℕ) (d : Decl) (n : ℕ) → length (with_row t i d n) ≡ length t
length-row t i d n = length-sets t (i * 13) (decl_words d ++ (n ∷ []))

-- the counts, also of a declaration with more than 64 fields
pub data Counted (rows : List ℕ) : ℕ → List Declaration → Type 0 where
  done : {i : ℕ} → Counted rows i []
  more : {i : ℕ} {d : Declaration} {ds : List Declaration} → count_here rows i ≡ length d.fields → Counted rows (i + 1) ds → Counted rows i (d ∷ ds)

module _ (t : List ℕ) (i : ℕ) (d : Declaration) (ds : List Declaration) (h : (i + 1) * 13 ≤ length t) where
  first-kept : Same ((i + 1) * 13) (with_rows t i (d ∷ ds)) (with_row t i d.decl (length d.fields))
  first-kept = rows-below (with_row t i d.decl (length d.fields)) (i + 1) ds

  first_count_lem : count_here (with_rows t i (d ∷ ds)) i ≡ length d.fields
  first_count_lem =
      count_kept (with_rows t i (d ∷ ds)) (with_row t i d.decl (length d.fields)) i first-kept
      ∙ count-again t i d.decl (length d.fields) (omega arith)

  first-decl : decl_here (with_rows t i (d ∷ ds)) i ≡ d.decl
  first-decl =
      decl-kept (with_rows t i (d ∷ ds)) (with_row t i d.decl (length d.fields)) i first-kept
      ∙ decl-again t i d.decl (length d.fields) (omega arith)

rows-counted : (ds : List Declaration) (t : List ℕ) (i : ℕ) → (i + length ds) * 13 ≤ length t → Counted (with_rows t i ds) i ds
rows-counted [] t i h = Counted.done
rows-counted (d ∷ ds) t i h =
    Counted.more (first_count_lem t i d ds (omega arith))
    (rows-counted ds (with_row t i d.decl (length d.fields)) (i + 1) (omega (arith, length-row t i d.decl (length d.fields))))

pub counts-give : (s : Text) (fuel at : ℕ) (t : Tables) (ds : List Declaration) → declarations_at s fuel at ≡ declarations_are ds
    → any_keyword s (declarations_names ds) ≡ false → length ds * 13 ≤ length t.rows → Counted (tables_from s fuel 0 at t).rows 0 ds
counts-give s fuel at t ds e free h =
    subst (λ (l : List ℕ). Counted l 0 ds) (sym (tables-hold s fuel 0 at t ds e free).rows_are) (rows-counted ds t.rows 0 (omega arith))

-- ---- each row of the tables is its declaration

data Rows (rows fields : List ℕ) : ℕ → List Declaration → Type 0 where
  done : {i : ℕ} → Rows rows fields i []
  more : {i : ℕ} {d : Declaration} {ds : List Declaration} → decl_here rows i ≡ d.decl → count_here rows i ≡ length d.fields
      → i * 64 + length d.fields ≤ length fields → take (length d.fields) (drop (i * 64) fields) ≡ field_keys d.fields
      → Rows rows fields (i + 1) ds → Rows rows fields i (d ∷ ds)

-- at most 64 fields in each
pub data Short : List Declaration → Type 0 where
  done : Short []
  more : {d : Declaration} {ds : List Declaration} → length d.fields ≤ 64 → Short ds → Short (d ∷ ds)

rows-hold : (ds : List Declaration) (t f : List ℕ) (i : ℕ) → Short ds → (i + length ds) * 13 ≤ length t → (i + length ds) * 64 ≤ length f
    → Rows (with_rows t i ds) (with_places f i ds) i ds
rows-hold [] t f i k lt lf = Rows.done
rows-hold (d ∷ ds) t f i (Short.more small k) lt lf =
    Rows.more (first-decl t i d ds (omega arith)) (first_count_lem t i d ds (omega arith)) long row
    (rows-hold ds (with_row t i d.decl n) f₁ (i + 1) k (omega (arith, length-row t i d.decl n)) (omega (arith, length-sets f (i * 64) keys)))
  where
    keys : List ℕ
    keys = field_keys d.fields

    n : ℕ
    n = length d.fields

    f₁ : List ℕ
    f₁ = sets f (i * 64) keys

    y : List ℕ
    y = with_places f₁ (i + 1) ds

    fits : i * 64 + length keys ≤ length f
    fits = omega (arith, keys_length d.fields)

    long : i * 64 + length d.fields ≤ length y
    long = omega (arith, places-length f₁ (i + 1) ds, length-sets f (i * 64) keys)

    row : take n (drop (i * 64) y) ≡ keys
    row =
        middle (i * 64) n y (omega (arith, places-length f₁ (i + 1) ds, length-sets f (i * 64) keys))
        ∙ ap (drop (i * 64)) (places-below f₁ (i + 1) ds (i * 64 + n) (omega arith))
        ∙ sym (middle (i * 64) n f₁ (omega (arith, length-sets f (i * 64) keys)))
        ∙ ap (λ (m : ℕ). take m (drop (i * 64) f₁)) (sym (keys_length d.fields))
        ∙ stored f (i * 64) keys fits

declaration-is : (a : Decl) (b : List Field) (d : Declaration) → a ≡ d.decl → b ≡ d.fields → record { decl = a; fields = b } ≡ d
declaration-is a b d ea eb = rw (ea, eb)

from-take : (v y : List ℕ) (b n : ℕ) → b + n ≤ length y → fields_from v y b n ≡ fields_here v (take n (drop b y))
unfolding fields_from
from-take v y b zero h = refl
from-take v y b (suc n) h =
    rw (drop-cons y b 0 (omega arith), ← add-one b) (ap (λ (l : List Field). field_here v (get_or y b 0) ∷ l) (from-take v y (b + 1) n (omega arith)))

rows-give : (x v y : List ℕ) (i : ℕ) (ds : List Declaration) → Rows x y i ds → Backs v ds → declarations_from x v y i (length ds) ≡ ds
unfolding declarations_from
rows-give x v y i [] Rows.done Backs.done = refl
rows-give x v y i (d ∷ ds) (Rows.more ex ez ly ey r) (Backs.more hf b) =
    ap (λ (l : List Declaration). declaration_in x v y i ∷ l) (rows-give x v y (i + 1) ds r b)
    ∙ ap (λ (e : Declaration). e ∷ ds)
    (declaration-is (decl_here x i) (fields_from v y (i * 64) (count_here x i)) d ex
    (ap (fields_from v y (i * 64)) ez ∙ from-take v y (i * 64) (length d.fields) ly ∙ ap (fields_here v) ey ∙ hf))

-- THE BRIDGE: tables that are long enough give the declarations of the record back, where no name is a keyword
pub tables-give : (s : Text) (fuel at : ℕ) (t : Tables) (ds : List Declaration) → declarations_at s fuel at ≡ declarations_are ds
    → any_keyword s (declarations_names ds) ≡ false → Short ds → length ds * 13 ≤ length t.rows → length s / 16 * 17 ≤ length t.values
    → length ds * 64 ≤ length t.fields → given (tables_from s fuel 0 at t) (length ds) ≡ ds
tables-give s fuel at t ds e free k lr lv lf =
    rw (h.rows_are, h.values-are, h.fields-are)
    (rows-give (with_rows t.rows 0 ds) (with_all t.values ds) (with_places t.fields 0 ds) 0 ds
    (rows-hold ds t.rows t.fields 0 k (omega arith) (omega arith))
    (all_back t.values at (length s) ds h.spaced lv))
  where
    h : Hold s t 0 at ds (tables_from s fuel 0 at t)
    h = tables-hold s fuel 0 at t ds e free
