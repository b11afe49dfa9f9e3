-- Each field of the target, by its kind: the lines that it gives are within its share.
-- Assumes nothing.
use Rattle.std.specs.Prelude.{Option, Some, None}
use mathlib.Core.Bool.{Bool, true, false, ◌||◌}
use mathlib.Core.List.{List, [], ◌∷◌}
use mathlib.Core.Path.{◌≡◌, refl}
use Prim.Native.Nat.{ℕ, suc, ◌+◌, ◌/◌, ◌≤◌}
use native.Mathlib.Omega.{arith}
use lib.Dec.{ltb, eqb}
use lib.ListN.{length, length-append}
use borrow.Author.Tests.{ltb-false}
use Rattle.definitions.specs.Bytes.{Text, text, pick}
use Rattle.definitions.specs.Sizes.{Annotated, enum_of, is_bitfield, is_payload_id, has_payload_size, total_of, typed_element, element_size, array_size, first_count, counted_by, same_name, reference, any_reference, annotate_field, padded_by, annotate_fields}
use Rattle.definitions.specs.Sizes as sizes
use Rattle.definitions.specs.Refusals.{bad_number, bad_modifier, bad_maybe, bad_count, bad_width}
use Rattle.definitions.specs.Blocks.{Kind, Elem, Array, named, Block}
use Rattle.definitions.specs.FieldParser.{Setting, FieldParser, Step, go, stop, and_then, new, check_code, written, member, field_name, is_cond_for, enum_kind, kind_of, parse_bit_field, Emit, appends, silent, refuses, on_boundary, on_trailing, get_trailing_size, typedef_by_size, parse_typedef_field, optional_typedef, parse_optional_field, payload_name, payload_by_size, parse_payload_field_lite, size_backing, typed_elem, elem_of, type_name, array_of, with_padding, parse_array_field, parse_other, is_bit, parse_unchecked, emitted, parse, parse_all, done, code_of, lower_fields}
use Rattle.definitions.specs.declared.EnumKind.{EnumKind}
use Rattle.definitions.specs.declared.Part.{Part}
use Rattle.definitions.specs.declared.Modifier.{Modifier}
use Rattle.definitions.specs.declared.Arrays.{Arrays}
use Rattle.definitions.specs.declared.FieldDesc.{FieldDesc}
use Rattle.definitions.specs.declared.Condition.{Condition}
use Rattle.definitions.specs.declared.Field.{Field}
use Rattle.definitions.specs.declared.Size.{Size}
use Rattle.definitions.specs.declared.ElementSize.{ElementSize}
use Rattle.definitions.specs.declared.ArraySize.{ArraySize}
use Rattle.definitions.specs.declared.Reference.{Reference}
use Rattle.definitions.specs.declared.Refusal.{Refusal}
use Rattle.lengths.specs.Shares.{plain_field, bit_field, modifier_line, shape, padded_bytes, share, shares, is_element_size, most_of}
use Rattle.lengths.proofs.Booleans.{impossible, neither}
use Rattle.lengths.proofs.Shapes.{ElemShort, Counted}
use Rattle.lengths.proofs.Others.{Within, sized-payload, payload-up-to, payload-to-end, nested-short, nested-up-to, optional-scalar, optional-open, optional-closed, optional-nested, ArrayShort, Modified, array-short, padded-short}
use Rattle.lengths.proofs.Runs.{KindShort}
use Rattle.lengths.proofs.Names.{MaybeIs, DescIs, CondIs, FieldIs, ShortName}
use Rattle.lengths.proofs.Steps.{fit_length, wider, Holds, StepFits, OutcomeFits, EmitFits, then-fits, step-wider, emitted-fits, check-fits, more_room, bit-fits}

-- ---- names

named-length : (m : Arrays) (x end : Text) → length (named m x end) ≤ 8 + length x + length end
named-length Arrays.Lite x end = simp length-append (omega arith)
named-length Arrays.Full x end = simp length-append (omega arith)

module _ (c : Setting) where
  abbrev Named : Part → Type 0
  Named n = ShortName c.source n

  field-name : (of : Part) → Named of → length (field_name c of) ≤ 32
  field-name of h = by (is_payload_id c.source of)
    where
      by : (b : Bool) → length (pick b (text "payload") (written c of)) ≤ 32
      by true = omega arith
      by false = h

  member-short : (id : Part) → Named id → length (member c id) ≤ 41
  member-short id h = omega (arith, named-length c.options.arrays (written c id) (text "_"), h)

  -- what a bit field's bits are put into
  enum_kind_lem : (id type : Part) (e : Option EnumKind) → Named id → Named type → KindShort (enum_kind (member c id) (written c type) e)
  enum_kind_lem id type (Some kind) h k = by (kind.is_open || kind.is_complete)
    where
      by : (b : Bool) → KindShort (pick b (Kind.open_enum (member c id) (written c type)) (Kind.closed_enum (member c id) (written c type)))
      by true = (omega (arith, member-short id h), k)
      by false = (omega (arith, member-short id h), k)
  enum_kind_lem id type None h k = omega (arith, member-short id h)

  kind-short : (d : FieldDesc) → DescIs Named d → KindShort (kind_of c d)
  unfolding kind_of
  kind-short (FieldDesc.Checksum of) h = tt
  kind-short (FieldDesc.Padding size) h = tt
  kind-short (FieldDesc.Size of width) h =
      omega (arith, named-length c.options.arrays (field_name c of) (text "_size_"), field-name of h)
  kind-short (FieldDesc.Count of width) h = omega (arith, named-length c.options.arrays (written c of) (text "_count_"), h)
  kind-short (FieldDesc.ElementSize of width) h =
      omega (arith, named-length c.options.arrays (field_name c of) (text "_element_size_"), field-name of h)
  kind-short FieldDesc.Body h = tt
  kind-short (FieldDesc.Payload modifier) h = tt
  kind-short (FieldDesc.FixedScalar width value) h = tt
  kind-short (FieldDesc.FixedEnum type tag) h = h
  kind-short (FieldDesc.Reserved width) h = tt
  kind-short (FieldDesc.Array id width type modifier size) h = tt
  kind-short (FieldDesc.Scalar id width) h = by (is_cond_for c id)
    where
      by : (b : Bool) → KindShort (pick b (Kind.condition (written c id)) (Kind.number (member c id)))
      by true = omega (arith, h)
      by false = omega (arith, member-short id h)
  kind-short (FieldDesc.Flag id) h = omega (arith, h)
  kind-short (FieldDesc.Typedef id type) h = enum_kind_lem id type (enum_of c.source c.scope type) h.0 h.1

  -- ---- fields that are no bit fields

  boundary-fits : (n shift : ℕ) (e : Emit) → EmitFits n e → EmitFits n (on_boundary shift e)
  boundary-fits n shift e h = by (eqb shift 0)
    where
      by : (b : Bool) → EmitFits n (elim b [ true ↦ e | false ↦ refuses Refusal.OctetBoundary ])
      by true = h
      by false = refl

  trailing-fits : (n : ℕ) (t : Option ℕ) (f : ℕ → Emit) → ((k : ℕ) → EmitFits n (f k)) → EmitFits n (on_trailing t f)
  trailing-fits n None f h = refl
  trailing-fits n (Some k) f h = h k

  pick-within : (n : ℕ) (b : Bool) (x y : Block) → Within n x → Within n y → Within n (pick b x y)
  pick-within n true x y h k = h
  pick-within n false x y h k = k

  typedef-fits : (id type : Part) (later : List Annotated) (z : Size) → Named id → Named type → EmitFits plain_field (typedef_by_size c id type later z)
  typedef-fits id type later (Size.Static n) h k = nested-short (member c id) (member-short id h) (written c type) k
  typedef-fits id type later Size.Dynamic h k = nested-short (member c id) (member-short id h) (written c type) k
  typedef-fits id type later Size.Unknown h k =
      trailing-fits plain_field (get_trailing_size c.options.trailing later) _
      (λ n. pick-within plain_field (ltb 0 n) _ _
      (nested-up-to (member c id) (member-short id h) (written c type) k (written c id) (n / 8) h)
      (nested-short (member c id) (member-short id h) (written c type) k))

  payload-length : (end : Text) → length (payload_name c end) ≤ 15 + length end
  payload-length end = omega (arith, named-length c.options.arrays (text "payload") end)

  payload-fits : (shift : ℕ) (m : Modifier) (later : List Annotated) → EmitFits plain_field (parse_payload_field_lite c shift m later)
  unfolding parse_payload_field_lite
  payload-fits shift m later = boundary-fits plain_field shift _ (by (has_payload_size c.source c.fields))
    where
      x : length (payload_name c (text "_")) ≤ 41
      x = omega (arith, payload-length (text "_"))

      by : (b : Bool) → EmitFits plain_field (payload_by_size c m later b)
      by true = sized-payload (payload_name c (text "_")) (payload_name c (text "_size_")) m x (omega (arith, payload-length (text "_size_")))
      by false =
          trailing-fits plain_field (get_trailing_size c.options.trailing later) _
          (λ n. pick-within plain_field (ltb 0 n) _ _ (payload-up-to (payload_name c (text "_")) x (n / 8)) (payload-to-end (payload_name c (text "_")) x))

  optional-typedef : (cond : Part) (v : ℕ) (id type : Part) (e : Option EnumKind) → Named cond → Named id → Named type
      → Within plain_field (optional_typedef c cond v id type e)
  optional-typedef cond v id type (Some kind) g h k =
      pick-within plain_field kind.is_open _ _
      (optional-open (member c id) (member-short id h) (written c cond) v g c.options.endianness kind.width (written c type) k)
      (optional-closed (member c id) (member-short id h) (written c cond) v g c.options.endianness kind.width (written c type) k)
  optional-typedef cond v id type None g h k = optional-nested (member c id) (member-short id h) (written c cond) v (written c type) g k

  -- ---- arrays

  elem-short : (width : Option ℕ) (type : Option Part) → MaybeIs Named type → ElemShort (elem_of c width type)
  elem-short (Some w) type h = tt
  elem-short None None h = omega arith
  elem-short None (Some type) h = by (enum_of c.source c.scope type)
    where
      marked : (w : ℕ) (b : Bool) → ElemShort (pick b (Elem.open_enum (written c type) c.options.endianness w) (Elem.closed_enum (written c type) c.options.endianness w))
      marked w true = h
      marked w false = h

      by : (e : Option EnumKind) → ElemShort (typed_elem c.options.endianness (written c type) e)
      by (Some kind) = marked kind.width kind.is_open
      by None = h

  type-short : (type : Option Part) → MaybeIs Named type → length (type_name c type) ≤ 32
  type-short None h = omega arith
  type-short (Some type) h = h

  count-below : (n : ℕ) → bad_count n ≡ false → n ≤ 65535
  count-below n e = ltb-false 65535 n (neither (ltb n 0) (ltb 65535 n) e).1

  modified : (m : Modifier) → bad_modifier m ≡ false → Modified m
  modified Modifier.None e = tt
  modified (Modifier.Plus n) e = count-below n e
  modified (Modifier.Minus n) e = count-below n e

  counted : (id : Part) (size : Option ℕ) → bad_maybe bad_count size ≡ false → Counted (array_size c.source c.fields id size)
  unfolding first_count
  counted id (Some n) e = count-below n e
  counted id None e = by c.fields
    where
      picked : (b : Bool) (x y : ArraySize) → Counted x → Counted y → Counted (pick b x y)
      picked true x y h k = h
      picked false x y h k = k

      one : (r : Option Reference) (other : ArraySize) → Counted other → Counted (counted_by c.source id r other)
      one None other h = h
      one (Some (Reference.Size of width)) other h = picked (same_name c.source of id) _ _ tt h
      one (Some (Reference.Count of)) other h = picked (same_name c.source of id) _ _ tt h
      one (Some (Reference.ElementSize of)) other h = h

      by : (fs : List Field) → Counted (first_count c.source id fs)
      by [] = tt
      by (f ∷ fs) = one (reference f.desc) (first_count c.source id fs) (by fs)

  -- elements whose size the packet gives: an element size field of the target names the array
  given : (id : Part) (fs : List Field) → any_reference (sizes.is_element_size c.source id) fs ≡ true → any_reference is_element_size fs ≡ true
  given id [] e = impossible (cc)
  given id (f ∷ fs) e = by (given id fs) (reference f.desc) e
    where
      by : (any_reference (sizes.is_element_size c.source id) fs ≡ true → any_reference is_element_size fs ≡ true) → (r : Option Reference)
          → (sizes.is_element_size c.source id r || any_reference (sizes.is_element_size c.source id) fs) ≡ true
          → (is_element_size r || any_reference is_element_size fs) ≡ true
      by more None g = more g
      by more (Some (Reference.Size of width)) g = more g
      by more (Some (Reference.Count of)) g = more g
      by more (Some (Reference.ElementSize of)) g = refl

  abbrev most : ℕ
  most = most_of c.fields

  plain-most : plain_field ≤ most
  unfolding most_of
  plain-most = by (any_reference is_element_size c.fields)
    where
      by : (b : Bool) → plain_field ≤ pick b (modifier_line + shape ElementSize.Dynamic) plain_field
      by true = omega arith
      by false = omega arith

  given-most : (id : Part) → any_reference (sizes.is_element_size c.source id) c.fields ≡ true → modifier_line + shape ElementSize.Dynamic ≤ most
  unfolding most_of
  given-most id e = rw (given id c.fields e) (omega arith)

  shape-most : (id : Part) (width : Option ℕ) (type : Option Part)
      → modifier_line + shape (element_size c.source c.scope c.fields id width type) ≤ most
  shape-most id (Some w) type = omega (arith, plain-most)
  shape-most id None None = omega (arith, plain-most)
  shape-most id None (Some type) =
      by (total_of c.source c.scope type) (any_reference (sizes.is_element_size c.source id) c.fields) (given-most id)
    where
      by : (z : Size) (b : Bool) → (b ≡ true → modifier_line + shape ElementSize.Dynamic ≤ most) → modifier_line + shape (typed_element z b) ≤ most
      by (Size.Static n) b h = omega (arith, plain-most)
      by Size.Dynamic true h = omega (arith, h refl)
      by Size.Dynamic false h = omega (arith, plain-most)
      by Size.Unknown true h = omega (arith, h refl)
      by Size.Unknown false h = omega (arith, plain-most)

  array-fits : (padded : Option ℕ) (id : Part) (width : Option ℕ) (type : Option Part) (modifier : Modifier) (size : Option ℕ)
      → Named id → MaybeIs Named type → bad_modifier modifier ≡ false → bad_maybe bad_count size ≡ false
      → EmitFits (most + padded_bytes padded) (parse_array_field c padded id width type modifier size)
  unfolding parse_array_field
  array-fits padded id width type modifier size h k e f = by padded
    where
      array : Array
      array = array_of c id width type size

      short : ArrayShort array
      short = record { id = h; type = type-short type k; elem = elem-short width type k; count = counted id size f }

      by : (p : Option ℕ) → Within (most + padded_bytes p) (with_padding p modifier (size_backing c.source id c.fields) array)
      by None = wider (array-short array short modifier _ (modified modifier e)) (omega (arith, shape-most id width type))
      by (Some bits) =
          wider (padded-short array short (bits / 8) modifier _ (modified modifier e)) (omega (arith, shape-most id width type))

  -- ---- each field, by its kind

  small : (e : Emit) (padded : Option ℕ) → EmitFits plain_field e → EmitFits (most + padded_bytes padded) e
  small (appends b) padded w = wider w (omega (arith, plain-most))
  small silent padded w = tt
  small (refuses why) padded w = w

  other_fits : (shift : ℕ) (a : Annotated) (later : List Annotated) (d : FieldDesc) → DescIs Named d → bad_number d ≡ false
      → EmitFits (share most d + padded_bytes a.padded_size) (parse_other c shift a later d)
  unfolding parse_other parse_typedef_field
  other_fits shift a later (FieldDesc.Checksum of) h e = tt
  other_fits shift a later (FieldDesc.Padding size) h e = tt
  other_fits shift a later (FieldDesc.Size of width) h e = tt
  other_fits shift a later (FieldDesc.Count of width) h e = tt
  other_fits shift a later (FieldDesc.ElementSize of width) h e = tt
  other_fits shift a later FieldDesc.Body h e =
      small (parse_payload_field_lite c shift Modifier.None later) a.padded_size (payload-fits shift Modifier.None later)
  other_fits shift a later (FieldDesc.Payload modifier) h e =
      small (parse_payload_field_lite c shift modifier later) a.padded_size (payload-fits shift modifier later)
  other_fits shift a later (FieldDesc.FixedScalar width value) h e = tt
  other_fits shift a later (FieldDesc.FixedEnum type tag) h e = tt
  other_fits shift a later (FieldDesc.Reserved width) h e = tt
  other_fits shift a later (FieldDesc.Array id width type modifier size) h e =
      let two = neither (bad_maybe bad_width width || bad_modifier modifier) (bad_maybe bad_count size) e in
      let one = neither (bad_maybe bad_width width) (bad_modifier modifier) two.0 in
      array-fits a.padded_size id width type modifier size h.0 h.1 one.1 two.1
  other_fits shift a later (FieldDesc.Scalar id width) h e = tt
  other_fits shift a later (FieldDesc.Flag id) h e = tt
  other_fits shift a later (FieldDesc.Typedef id type) h e =
      small (on_boundary shift (typedef_by_size c id type later a.field_size)) a.padded_size
      (boundary-fits plain_field shift (typedef_by_size c id type later a.field_size) (typedef-fits id type later a.field_size h.0 h.1))

  optional-fits : (cond : Part) (v : ℕ) (d : FieldDesc) (padded : Option ℕ) → Named cond → DescIs Named d
      → EmitFits (share most d + padded_bytes padded) (parse_optional_field c cond v d)
  unfolding parse_optional_field
  optional-fits cond v (FieldDesc.Checksum of) padded g h = refl
  optional-fits cond v (FieldDesc.Padding size) padded g h = refl
  optional-fits cond v (FieldDesc.Size of width) padded g h = refl
  optional-fits cond v (FieldDesc.Count of width) padded g h = refl
  optional-fits cond v (FieldDesc.ElementSize of width) padded g h = refl
  optional-fits cond v FieldDesc.Body padded g h = refl
  optional-fits cond v (FieldDesc.Payload modifier) padded g h = refl
  optional-fits cond v (FieldDesc.FixedScalar width fixed) padded g h = refl
  optional-fits cond v (FieldDesc.FixedEnum type tag) padded g h = refl
  optional-fits cond v (FieldDesc.Reserved width) padded g h = refl
  optional-fits cond v (FieldDesc.Array id width type modifier size) padded g h = refl
  optional-fits cond v (FieldDesc.Scalar id width) padded g h =
      wider (optional-scalar (member c id) (member-short id h) (written c cond) v g c.options.endianness width) (omega (arith, plain-most))
  optional-fits cond v (FieldDesc.Flag id) padded g h = refl
  optional-fits cond v (FieldDesc.Typedef id type) padded g h =
      wider (optional-typedef cond v id type (enum_of c.source c.scope type) g h.0 h.1) (omega (arith, plain-most))

  -- a bit field is no padding
  bit-share : (d : FieldDesc) → is_bitfield c.source c.scope d ≡ true → bit_field ≤ share most d
  bit-share (FieldDesc.Checksum of) e = impossible (cc)
  bit-share (FieldDesc.Padding size) e = impossible (cc)
  bit-share (FieldDesc.Size of width) e = omega (arith, plain-most)
  bit-share (FieldDesc.Count of width) e = omega (arith, plain-most)
  bit-share (FieldDesc.ElementSize of width) e = omega arith
  bit-share FieldDesc.Body e = omega (arith, plain-most)
  bit-share (FieldDesc.Payload modifier) e = omega (arith, plain-most)
  bit-share (FieldDesc.FixedScalar width value) e = omega (arith, plain-most)
  bit-share (FieldDesc.FixedEnum type tag) e = omega (arith, plain-most)
  bit-share (FieldDesc.Reserved width) e = omega (arith, plain-most)
  bit-share (FieldDesc.Array id width type modifier size) e = omega (arith, plain-most)
  bit-share (FieldDesc.Scalar id width) e = omega (arith, plain-most)
  bit-share (FieldDesc.Flag id) e = omega (arith, plain-most)
  bit-share (FieldDesc.Typedef id type) e = omega (arith, plain-most)

  -- ---- all fields

  -- short names, and numbers in their ranges
  abbrev pub Plain : Field → Type 0
  Plain f = FieldIs Named f × (bad_number f.desc ≡ false)

  abbrev pub AllPlain : List Field → Type 0
  AllPlain [] = Unit {0}
  AllPlain (f ∷ fs) = Plain f × AllPlain fs

  unchecked-fits : (shift : ℕ) (a : Annotated) (later : List Annotated) → Plain a.field
      → EmitFits (share most a.field.desc + padded_bytes a.padded_size) (parse_unchecked c shift a later)
  unfolding parse_unchecked
  unchecked-fits shift a later h = by a.field.cond h.0.1
    where
      by : (k : Option Condition) → CondIs Named k → EmitFits (share most a.field.desc + padded_bytes a.padded_size) (elim k [
        | None ↦ parse_other c shift a later a.field.desc
        | Some cond ↦ parse_optional_field c cond.id cond.value a.field.desc
      ])
      by None g = other_fits shift a later a.field.desc h.0.0 h.1
      by (Some cond) g = optional-fits cond.id cond.value a.field.desc a.padded_size g h.0.0

  parse-fits : (n i : ℕ) (p : FieldParser) (a : Annotated) (later : List Annotated) → Plain a.field → Holds n (suc i) p
      → StepFits (n + (share most a.field.desc + padded_bytes a.padded_size)) i (parse c p a later)
  unfolding parse is_bit
  parse-fits n i p a later h g = by (is_bit c a.field) (bit a.field.cond)
    where
      bit : (k : Option Condition) → elim k as (λ _. Bool) [ None ↦ is_bitfield c.source c.scope a.field.desc | Some cond ↦ false ] ≡ true
          → bit_field ≤ share most a.field.desc
      bit None e = bit-share a.field.desc e
      bit (Some cond) e = impossible (cc)

      by : (b : Bool) → (b ≡ true → bit_field ≤ share most a.field.desc)
          → StepFits (n + (share most a.field.desc + padded_bytes a.padded_size)) i (elim b [
            | true ↦ parse_bit_field c p a
            | false ↦ and_then (check_code c p) λ q. emitted q (parse_unchecked c q.shift a later)
          ])
      by true w = step-wider i (parse_bit_field c p a) (bit-fits c n i p a (kind-short a.field.desc h.0.0) g) (omega (arith, w refl))
      by false w =
          then-fits n _ (suc i) i (check_code c p) _ (check-fits c n (suc i) p g)
          (λ q k. emitted-fits n _ i q (parse_unchecked c q.shift a later) k (unchecked-fits q.shift a later h))

  all_fit : (n : ℕ) (p : FieldParser) (xs : List Field) → AllPlain xs → Holds n (length xs) p
      → StepFits (n + shares most xs) 0 (parse_all c p (annotate_fields c.source c.scope c.fields xs))
  unfolding parse_all annotate_fields shares
  all_fit n p [] h g = more_room g (omega arith) (omega arith)
  all_fit n p (f ∷ later) h g =
      let a : Annotated = record { field = f; field_size = annotate_field c.source c.scope c.fields f; padded_size = padded_by later } in
      let m : ℕ = n + (share most f.desc + padded_bytes (padded_by later)) in
      let more : List Annotated = annotate_fields c.source c.scope c.fields later in
      step-wider 0 (and_then (parse c p a more) λ q. parse_all c q more)
      (then-fits m (m + shares most later) (length later) 0 (parse c p a more) (λ q. parse_all c q more)
      (parse-fits n (length later) p a more h.0 g)
      (λ q k. all_fit m q later h.1 k))
      (omega arith)

  -- ---- the outcome

  pub lower-fits : AllPlain c.fields → length c.fields ≤ 64
      → OutcomeFits (shares most c.fields) (lower_fields c (annotate_fields c.source c.scope c.fields c.fields))
  unfolding lower_fields
  lower-fits h few =
      let n : ℕ = shares most c.fields in
      let xs : List Annotated = annotate_fields c.source c.scope c.fields c.fields in
      by (and_then (parse_all c new xs) (done c))
      (then-fits (0 + n) (0 + n) 0 0 (parse_all c new xs) (done c)
      (all_fit 0 new c.fields h
      (record { used = 0; code = tt; room = omega arith; pending = tt; opened = tt; width = omega arith; raws = omega (arith, few) }))
      (λ q k. check-fits c (0 + n) 0 q k))
    where
      by : (s : Step) → StepFits (0 + shares most c.fields) 0 s → OutcomeFits (shares most c.fields) (code_of s)
      by (go p) g = omega (arith, fit_length g.used p.code g.code, g.room)
      by (stop why) g = g
