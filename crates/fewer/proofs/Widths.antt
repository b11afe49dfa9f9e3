-- Refusal 7: frames with at most 64 fields, each of at most 2 ^ 19 static bits, stay within 2 ^ 31 - 1 bits, where every row before them has at most
-- 2 ^ 29 with its parents: each frame adds at most 2 ^ 25 to what a later one takes from its parent, and there are at most 32.
-- Assumes nothing.
use Rattle.std.specs.Prelude.{Option, Some, None}
use mathlib.Core.Path.{◌≡◌, refl}
use mathlib.Core.Bool.{Bool, true, false, ◌||◌}
use mathlib.Core.List.{List, [], ◌∷◌, ◌++◌}
use Prim.Native.Nat.{ℕ, ◌+◌, ◌-◌, ◌*◌, ◌^◌, ◌≤◌}
use native.Mathlib.Omega.{arith}
use lib.Dec.{ltb}
use lib.ListN.{length}
use borrow.Author.Tests.{ltb-false, le-ltb}
use Rattle.definitions.specs.Bytes.{Text, pick, any}
use Rattle.definitions.specs.Record.{Declaration}
use Rattle.definitions.specs.Sizes.{Row, Annotated, add_size, static_width, same_name, total_size, lookup, parent_of, padding_bits, padded_by, annotate_fields, is_payload, outer_size, fields_size, payloads_size, parent_id, custom_size, decl_size_of, payload_size_of, annotate_decl, annotate_from}
use Rattle.definitions.specs.Refusals.{outside, bad_width, bad_maybe, bad_number, bad_decl, too_large, large_size, large_field, static_sum, large_row, large_entry, large}
use Rattle.definitions.specs.declared.Part.{Part}
use Rattle.definitions.specs.declared.FieldDesc.{FieldDesc}
use Rattle.definitions.specs.declared.Field.{Field}
use Rattle.definitions.specs.declared.DeclDesc.{DeclDesc}
use Rattle.definitions.specs.declared.Size.{Size}
use Rattle.lengths.proofs.Booleans.{neither}
use Rattle.fewer.specs.Sound.{crowded, own_bits, wide, stray, stray_in}
use Rattle.fewer.proofs.Tests.{nor}
use Rattle.fewer.proofs.Kept.{wrong_field, wrong}
use Rattle.fewer.proofs.Rows.{placed, Finds, finds-more, field-width}

-- ---- sizes and their static bits

not-large : (z : Size) → static_width z ≤ 2 ^ 31 - 1 → large_size z ≡ false
not-large (Size.Static bits) h = le-ltb (2 ^ 31 - 1) bits h
not-large Size.Dynamic h = refl
not-large Size.Unknown h = refl

sum-width : (a b : Size) → static_width (add_size a b) ≤ static_width a + static_width b
sum-width Size.Unknown (Size.Static b) = omega arith
sum-width Size.Unknown Size.Dynamic = omega arith
sum-width Size.Unknown Size.Unknown = omega arith
sum-width Size.Dynamic (Size.Static b) = omega arith
sum-width Size.Dynamic Size.Dynamic = omega arith
sum-width Size.Dynamic Size.Unknown = omega arith
sum-width (Size.Static a) (Size.Static b) = omega arith
sum-width (Size.Static a) Size.Dynamic = omega arith
sum-width (Size.Static a) Size.Unknown = omega arith

abbrev padded_bits : Option ℕ → ℕ
padded_bits None = 0
padded_bits (Some bits) = bits

not-padded : (p : Option ℕ) → padded_bits p ≤ 2 ^ 19 → bad_maybe too_large p ≡ false
not-padded None h = refl
not-padded (Some bits) h = le-ltb (2 ^ 31 - 1) bits (omega arith)

-- ---- the fields of one declaration

record Narrow (a : Annotated) : Type 0 where
  size : static_width a.field_size ≤ 2 ^ 19
  padding : padded_bits a.padded_size ≤ 2 ^ 19

abbrev AllNarrow : List Annotated → Type 0
AllNarrow [] = Unit {0}
AllNarrow (a ∷ xs) = Narrow a × AllNarrow xs

fields-narrow : (xs : List Annotated) → AllNarrow xs → any large_field xs ≡ false
fields-narrow [] h = refl
fields-narrow (a ∷ xs) h =
    let n = h.0 in
    nor (large_field a) (any large_field xs)
    (nor (large_size a.field_size) (bad_maybe too_large a.padded_size) (not-large a.field_size (omega (arith, n.size)))
    (not-padded a.padded_size n.padding))
    (fields-narrow xs h.1)

sum-narrow : (xs : List Annotated) → AllNarrow xs → static_sum xs ≤ 2 ^ 19 * length xs
unfolding static_sum
sum-narrow [] h = omega arith
sum-narrow (a ∷ xs) h = let n = h.0.size in omega (arith, sum-narrow xs h.1)

outer-narrow : (z : Size) (p : Option ℕ) → static_width z ≤ 2 ^ 19 → padded_bits p ≤ 2 ^ 19 → static_width (outer_size z p) ≤ 2 ^ 19
outer-narrow z None h k = h
outer-narrow z (Some bits) h k = k

added : (b : Bool) (sum z : Size) (n : ℕ) → static_width z ≤ n → static_width (pick b sum (add_size sum z)) ≤ static_width sum + n
added true sum z n h = omega arith
added false sum z n h = omega (arith, sum-width sum z)

decl-narrow : (sum : Size) (xs : List Annotated) → AllNarrow xs → static_width (fields_size sum xs) ≤ static_width sum + 2 ^ 19 * length xs
unfolding fields_size
decl-narrow sum [] h = omega arith
decl-narrow sum (a ∷ xs) h =
    let z = outer_size a.field_size a.padded_size in
    let n = outer-narrow a.field_size a.padded_size h.0.size h.0.padding in
    omega (arith, added (is_payload a.field.desc) sum z (2 ^ 19) n, decl-narrow (pick (is_payload a.field.desc) sum (add_size sum z)) xs h.1)

picked : (b : Bool) (y z : Size) (n : ℕ) → static_width y ≤ n → static_width z ≤ n → static_width (pick b y z) ≤ n
picked true y z n h k = h
picked false y z n h k = k

payload-narrow : (last : Size) (xs : List Annotated) → static_width last ≤ 2 ^ 19 → AllNarrow xs → static_width (payloads_size last xs) ≤ 2 ^ 19
unfolding payloads_size
payload-narrow last [] e h = e
payload-narrow last (a ∷ xs) e h =
    payload-narrow (pick (is_payload a.field.desc) a.field_size last) xs
    (picked (is_payload a.field.desc) a.field_size last (2 ^ 19) h.0.size e) h.1

-- ---- their numbers are in range

padding-range : (d : FieldDesc) → bad_number d ≡ false → padded_bits (padding_bits d) ≤ 2 ^ 19
padding-range (FieldDesc.Checksum of) e = omega arith
padding-range (FieldDesc.Padding size) e = omega (arith, ltb-false 65535 size (neither (ltb size 0) (ltb 65535 size) e).1)
padding-range (FieldDesc.Size of width) e = omega arith
padding-range (FieldDesc.Count of width) e = omega arith
padding-range (FieldDesc.ElementSize of width) e = omega arith
padding-range FieldDesc.Body e = omega arith
padding-range (FieldDesc.Payload modifier) e = omega arith
padding-range (FieldDesc.FixedScalar width value) e = omega arith
padding-range (FieldDesc.FixedEnum type tag) e = omega arith
padding-range (FieldDesc.Reserved width) e = omega arith
padding-range (FieldDesc.Array id width type modifier size) e = omega arith
padding-range (FieldDesc.Scalar id width) e = omega arith
padding-range (FieldDesc.Flag id) e = omega arith
padding-range (FieldDesc.Typedef id type) e = omega arith

padded-range : (fs : List Field) → any wrong_field fs ≡ false → padded_bits (padded_by fs) ≤ 2 ^ 19
padded-range [] e = omega arith
padded-range (f ∷ fs) e = padding-range f.desc (neither (wrong_field f) (any wrong_field fs) e).0

custom-range : (width : Option ℕ) → bad_maybe (outside 1 4096) width ≡ false → static_width (custom_size width) ≤ 2 ^ 25
custom-range None e = omega arith
custom-range (Some n) e = omega (arith, ltb-false 4096 n (neither (ltb n 1) (ltb 4096 n) e).1)

width-range : (n : ℕ) → bad_width n ≡ false → n ≤ 2 ^ 25
width-range n e = omega (arith, ltb-false 64 n (neither (ltb n 1) (ltb 64 n) e).1)

decl-range : (d : DeclDesc) (sum : Size) → bad_decl d ≡ false → static_width sum ≤ 2 ^ 25 → static_width (decl_size_of d sum) ≤ 2 ^ 25
decl-range (DeclDesc.Checksum width) sum e h = width-range width e
decl-range (DeclDesc.CustomField width) sum e h = custom-range width e
decl-range (DeclDesc.Enum width is_open is_complete) sum e h = width-range width e
decl-range (DeclDesc.Packet parent) sum e h = h
decl-range (DeclDesc.Struct parent) sum e h = h

payload-range : (d : DeclDesc) (last : Size) → static_width last ≤ 2 ^ 19 → static_width (payload_size_of d last) ≤ 2 ^ 19
payload-range (DeclDesc.Checksum width) last h = omega arith
payload-range (DeclDesc.CustomField width) last h = omega arith
payload-range (DeclDesc.Enum width is_open is_complete) last h = omega arith
payload-range (DeclDesc.Packet parent) last h = h
payload-range (DeclDesc.Struct parent) last h = h

-- ---- rows of at most n bits with their parents

abbrev Below : ℕ → List Row → Type 0
Below n [] = Unit {0}
Below n (r ∷ rows) = (own_bits r ≤ n) × Below n rows

pub not_wide : (rows : List Row) → any wide rows ≡ false → Below (2 ^ 29) rows
not_wide [] e = tt
not_wide (r ∷ rows) e = let k = neither (wide r) (any wide rows) e in (ltb-false (2 ^ 29) (own_bits r) k.0, not_wide rows k.1)

below-snoc : (m n : ℕ) (rows : List Row) (r : Row) → m ≤ n → Below m rows → own_bits r ≤ n → Below n (rows ++ (r ∷ []))
below-snoc m n [] r le h k = (k, tt)
below-snoc m n (q ∷ rows) r le h k = let a = h.0 in (omega (arith, a), below-snoc m n rows r le h.1 k)

module _ (t : Text) where
  taken-below : (n : ℕ) (rows : List Row) (name : Part) → Below n rows → static_width (parent_of t rows (Some name)) ≤ n
  unfolding lookup
  taken-below n [] name h = omega arith
  taken-below n (r ∷ rows) name h = by (same_name t r.decl.id name) h.0 (taken-below n rows name h.1)
    where
      taken : Option Row → Size
      taken o = elim o [ Some r ↦ add_size r.decl_size r.parent_size | None ↦ Size.Static 0 ]

      by : (b : Bool) → own_bits r ≤ n → static_width (taken (lookup t rows name)) ≤ n
          → static_width (taken (elim b [ true ↦ Some r | false ↦ lookup t rows name ])) ≤ n
      by true k m = k
      by false k m = m

  parent-below : (n : ℕ) (rows : List Row) (name : Option Part) → Below n rows → static_width (parent_of t rows name) ≤ n
  parent-below n rows None h = omega arith
  parent-below n rows (Some name) h = taken-below n rows name h

  module _ (front rows : List Row) (finds : Finds t front rows) where
    annotated-narrow : (fs later : List Field) → any (stray t front) later ≡ false → any wrong_field later ≡ false
        → AllNarrow (annotate_fields t rows fs later)
    unfolding annotate_fields
    annotated-narrow fs [] e w = tt
    annotated-narrow fs (f ∷ later) e w =
        let k = neither (stray t front f) (any (stray t front) later) e in
        let v = neither (wrong_field f) (any wrong_field later) w in
        let p = placed t front f k.0 in (
          record { size = rw (field-width t front rows finds fs f p.typed) p.narrow; padding = padded-range later v.1 },
          annotated-narrow fs later k.1 v.1,
        )

  annotated-length : (rows : List Row) (fs later : List Field) → length (annotate_fields t rows fs later) ≡ length later
  unfolding annotate_fields
  annotated-length rows fs [] = refl
  annotated-length rows fs (f ∷ later) = cc (annotated-length rows fs later)

  -- ---- the frames, of which each adds a row

  module _ (front : List Row) where
    record Small (n : ℕ) (rows : List Row) (d : Declaration) : Type 0 where
      within : large_entry (annotate_decl t rows d) ≡ false
      row : own_bits (annotate_decl t rows d).row ≤ n + 2 ^ 25

    frame_small : (n : ℕ) (rows : List Row) → Finds t front rows → Below n rows → n ≤ 2 ^ 30 + 2 ^ 29 → (d : Declaration)
        → stray_in t front d ≡ false → crowded d ≡ false → wrong d ≡ false → Small n rows d
    frame_small n rows finds below room d e few w =
        let v = neither (bad_decl d.decl.desc) (any wrong_field d.fields) w in
        let xs : List Annotated = annotate_fields t rows d.fields d.fields in
        let r : Row = (annotate_decl t rows d).row in
        let narrow : AllNarrow xs = annotated-narrow front rows finds d.fields d.fields e v.1 in
        let count : length xs ≤ 64 = omega (arith, annotated-length rows d.fields d.fields, ltb-false 64 (length d.fields) few) in
        let own : static_width r.decl_size ≤ 2 ^ 25 =
        decl-range d.decl.desc (fields_size (Size.Static 0) xs) v.0 (omega (arith, decl-narrow (Size.Static 0) xs narrow)) in
        let above : static_width r.parent_size ≤ n = parent-below n rows (parent_id d.decl.desc) below in
        let inside : static_width r.payload_size ≤ 2 ^ 19 =
        payload-range d.decl.desc (payloads_size (Size.Static 0) xs) (payload-narrow (Size.Static 0) xs (omega arith) narrow) in
        let both : own_bits r ≤ n + 2 ^ 25 = omega (arith, sum-width r.decl_size r.parent_size) in
        let total : static_width (total_size r) ≤ 2 ^ 31 - 1 = omega (arith, sum-width (add_size r.decl_size r.parent_size) r.payload_size) in
        let sum : static_sum xs ≤ 2 ^ 31 - 1 = omega (arith, sum-narrow xs narrow) in
        record {
          within =
              nor (any large_field xs || large_row r) (too_large (static_sum xs))
              (nor (any large_field xs) (large_row r) (fields-narrow xs narrow)
              (nor (large_size r.decl_size || large_size r.parent_size || large_size r.payload_size) (large_size (total_size r))
              (nor (large_size r.decl_size || large_size r.parent_size) (large_size r.payload_size)
              (nor (large_size r.decl_size) (large_size r.parent_size) (not-large r.decl_size (omega arith)) (not-large r.parent_size (omega arith)))
              (not-large r.payload_size (omega arith)))
              (not-large (total_size r) total)))
              (le-ltb (2 ^ 31 - 1) (static_sum xs) sum);
          row = both;
        }

    pub frames_small : (n : ℕ) (rows : List Row) → Finds t front rows → Below n rows → (ds : List Declaration)
        → n + 2 ^ 25 * length ds ≤ 2 ^ 30 + 2 ^ 29
        → any (stray_in t front) ds ≡ false → any crowded ds ≡ false → any wrong ds ≡ false → large (annotate_from t rows ds) ≡ false
    unfolding large annotate_from
    frames_small n rows finds below [] room e few w = refl
    frames_small n rows finds below (d ∷ ds) room e few w =
        let k = neither (stray_in t front d) (any (stray_in t front) ds) e in
        let c = neither (crowded d) (any crowded ds) few in
        let v = neither (wrong d) (any wrong ds) w in
        let r : Row = (annotate_decl t rows d).row in
        let s = frame_small n rows finds below (omega arith) d k.0 c.0 v.0 in
        nor (large_entry (annotate_decl t rows d)) (large (annotate_from t (rows ++ (r ∷ [])) ds)) s.within
        (frames_small (n + 2 ^ 25) (rows ++ (r ∷ [])) (finds-more t front rows r finds)
        (below-snoc n (n + 2 ^ 25) rows r (omega arith) below s.row) ds (omega arith) k.1 c.1 v.1)
