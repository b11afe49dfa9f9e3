-- Records that say the same are lowered alike: the parser's blocks hold texts, so of related settings and fields each step is one and the same.
-- Assumes nothing.
use Rattle.std.specs.Prelude.{Option, Some, None}
use mathlib.Core.Path.{◌≡◌, refl, ap, ◌∙◌}
use mathlib.Core.List.{List, [], ◌∷◌}
use mathlib.Core.Bool.{Bool, true, false}
use Prim.Native.Nat.{ℕ, ◌+◌}
use Rattle.definitions.specs.Bytes.{Text, text, part}
use Rattle.definitions.specs.Sizes.{Annotated, Entry, Schema, is_array, has_payload_size, enum_of, is_bitfield}
use Rattle.definitions.specs.Blocks.{Bit, Chunk}
use Rattle.definitions.specs.FieldParser.{Setting, FieldParser, Step, go, stop, and_then, new, flushed, check_code, member, field_name, is_cond_of, is_cond_for, kind_of, bit_of, parse_bit_field, Emit, appends, is_array_field, later_size, trailing_from, get_trailing_size, on_trailing, typedef_block, typedef_by_size, parse_typedef_field, optional_typedef, parse_optional_field, payload_name, unsized_payload, payload_by_size, parse_payload_field_lite, size_bits, size_backing, elem_of, type_name, array_of, parse_array_field, parse_other, is_bit, parse_unchecked, emitted, parse, parse_all, Outcome, code_of, lower_fields}
use Rattle.definitions.specs.Answer.{setting_of, lower_target, lower_in}
use Rattle.definitions.specs.All.{Outcomes, with_section, lower_each}
use Rattle.definitions.specs.declared.EnumKind.{EnumKind}
use Rattle.definitions.specs.declared.Part.{Part}
use Rattle.definitions.specs.declared.Modifier.{Modifier}
use Rattle.definitions.specs.declared.Options.{Options}
use Rattle.definitions.specs.declared.Trailing.{Trailing}
use Rattle.definitions.specs.declared.Head.{Head}
use Rattle.definitions.specs.declared.FieldDesc.{FieldDesc}
use Rattle.definitions.specs.declared.Condition.{Condition}
use Rattle.definitions.specs.declared.Field.{Field}
use Rattle.definitions.specs.declared.Size.{Size}
use Rattle.definitions.specs.declared.Reference.{Reference}
use Rattle.lengths.proofs.Booleans.{impossible}
use Rattle.alike.proofs.Same.{SamePart, SameMaybe, SameDesc, SameCond, SameField, SameFields, SameHead}
use Rattle.alike.proofs.Names.{same-name, same-payload-id, any_field, SameReference, same-reference, has-payload-size}
use Rattle.alike.proofs.Sizes.{SameRows, is-array, enum-of, is-bitfield, element-size, array_size_lem, SameAnnotated, SameAnnotateds, SameEntry, SameSchema}
use Rattle.alike.proofs.Refusals.{is-frame, is-target}

pub record SameSetting (c d : Setting) : Type 0 where
  pub scope : SameRows c.source d.source c.scope d.scope
  pub options : c.options ≡ d.options
  pub fields : SameFields c.source d.source c.fields d.fields

-- ---- one step after another

and-then : (x y : Step) (f g : FieldParser → Step) → x ≡ y → ((q : FieldParser) → f q ≡ g q) → and_then x f ≡ and_then y g
and-then x y f g e h = ap (λ (z : Step). and_then z f) e ∙ by y
  where
    by : (z : Step) → and_then z f ≡ and_then z g
    by (go q) = h q
    by (stop why) = refl

on-trailing : (m n : Option ℕ) (f g : ℕ → Emit) → m ≡ n → ((bits : ℕ) → f bits ≡ g bits) → on_trailing m f ≡ on_trailing n g
on-trailing m n f g e h = ap (λ (x : Option ℕ). on_trailing x f) e ∙ by n
  where
    by : (x : Option ℕ) → on_trailing x f ≡ on_trailing x g
    by None = refl
    by (Some bits) = h bits

-- ---- of related settings

module _ (c d : Setting) (same : SameSetting c d) where
  abbrev s : Text
  s = c.source

  abbrev t : Text
  t = d.source

  same-arrays : c.options.arrays ≡ d.options.arrays
  same-arrays = ap (λ (o : Options). o.arrays) same.options

  same-order : c.options.endianness ≡ d.options.endianness
  same-order = ap (λ (o : Options). o.endianness) same.options

  same-trailing : c.options.trailing ≡ d.options.trailing
  same-trailing = ap (λ (o : Options). o.trailing) same.options

  -- ---- names

  same-member : (a b : Part) → SamePart s t a b → member c a ≡ member d b
  same-member a b p = cc (same-arrays)

  field-name : (a b : Part) → SamePart s t a b → field_name c a ≡ field_name d b
  field-name a b p = cc (same-payload-id s t a b p)

  is-cond-for : (a b : Part) → SamePart s t a b → is_cond_for c a ≡ is_cond_for d b
  unfolding is_cond_for
  is-cond-for a b p = any_field s t _ _ (λ f g h. by h.cond) same.fields
    where
      by : {x y : Option Condition} → SameCond s t x y → is_cond_of s a x ≡ is_cond_of t b y
      by SameCond.none = refl
      by (SameCond.some {a = m} {b = n} q) = same-name s t m n a b q p

  enum_type : (a b : Part) → SamePart s t a b → enum_of s c.scope a ≡ enum_of t d.scope b
  enum_type a b p = enum-of s t c.scope d.scope same.scope a b p

  -- ---- bit fields

  kind-of : {x y : FieldDesc} → SameDesc s t x y → kind_of c x ≡ kind_of d y
  unfolding kind_of
  kind-of (SameDesc.checksum p) = refl
  kind-of SameDesc.padding = refl
  kind-of (SameDesc.size {a} {b} p) = cc (same-arrays, field-name a b p)
  kind-of (SameDesc.count {a} {b} p) = cc (same-arrays)
  kind-of (SameDesc.element_size {a} {b} p) = cc (same-arrays, field-name a b p)
  kind-of SameDesc.body = refl
  kind-of SameDesc.payload = refl
  kind-of SameDesc.fixed_scalar = refl
  kind-of (SameDesc.fixed_enum p q) = cc
  kind-of SameDesc.reserved = refl
  kind-of (SameDesc.array p q) = refl
  kind-of (SameDesc.scalar {a} {b} p) = cc (is-cond-for a b p, same-member a b p)
  kind-of (SameDesc.flag p) = cc
  kind-of (SameDesc.typedef {a} {b} {c = m} {d = n} p q) = cc (same-member a b p, enum_type m n q)

  bit-of : (shift : ℕ) (a b : Annotated) → SameAnnotated s t a b → bit_of c shift a ≡ bit_of d shift b
  bit-of shift a b k = cc (kind-of k.field.desc)

  parse-bit : (p : FieldParser) (a b : Annotated) → SameAnnotated s t a b → parse_bit_field c p a ≡ parse_bit_field d p b
  unfolding parse_bit_field
  parse-bit p a b k = cc (bit-of p.shift a b k)

  -- ---- fields that are no bit fields

  is-array-field : (f g : Field) → SameField s t f g → is_array_field f ≡ is_array_field g
  is-array-field f g h = by h.cond
    where
      by : {x y : Option Condition} → SameCond s t x y
          → ◌≡◌ {A = Bool}
          (elim x [ None ↦ is_array f.desc | Some cond ↦ false ])
          (elim y [ None ↦ is_array g.desc | Some cond ↦ false ])
      by SameCond.none = is-array s t h.desc
      by (SameCond.some p) = refl

  later-size : (m : Trailing) (a b : Annotated) → SameAnnotated s t a b → later_size m a ≡ later_size m b
  unfolding later_size
  later-size Trailing.Plain a b k = k.field_size
  later-size Trailing.Padded a b k = cc (is-array-field a.field b.field k.field)

  trailing-from : (m : Trailing) (sum : ℕ) {xs ys : List Annotated} → SameAnnotateds s t xs ys → trailing_from m sum xs ≡ trailing_from m sum ys
  unfolding trailing_from
  trailing-from m sum SameAnnotateds.done = refl
  trailing-from m sum (SameAnnotateds.more {a} {b} {xs} {ys} k ks) = by (later_size m a) (later_size m b) (later-size m a b k) (λ n. trailing-from m n ks)
    where
      by : (x y : Size) → x ≡ y → ((n : ℕ) → trailing_from m n xs ≡ trailing_from m n ys)
          → ◌≡◌ {A = Option ℕ}
          (elim x [ Size.Static bits ↦ trailing_from m (sum + bits) xs | Size.Dynamic ↦ None | Size.Unknown ↦ None ])
          (elim y [ Size.Static bits ↦ trailing_from m (sum + bits) ys | Size.Dynamic ↦ None | Size.Unknown ↦ None ])
      by (Size.Static n) y e h = rw (← e) (h (sum + n))
      by Size.Dynamic y e h = rw (← e)
      by Size.Unknown y e h = rw (← e)

  get-trailing-size : {xs ys : List Annotated} → SameAnnotateds s t xs ys
      → get_trailing_size c.options.trailing xs ≡ get_trailing_size d.options.trailing ys
  get-trailing-size ks = cc (same-trailing, trailing-from d.options.trailing 0 ks)

  typedef-by : (x : Size) (a b m n : Part) → SamePart s t a b → SamePart s t m n → {xs ys : List Annotated} → SameAnnotateds s t xs ys
      → typedef_by_size c a m xs x ≡ typedef_by_size d b n ys x
  typedef-by (Size.Static bits) a b m n p q ks = cc (same-member a b p)
  typedef-by Size.Dynamic a b m n p q ks = cc (same-member a b p)
  typedef-by Size.Unknown a b m n p q ks =
      on-trailing _ _ _ _ (get-trailing-size ks) (λ bits. typedef-block bits)
    where
      typedef-block : (bits : ℕ) → appends (typedef_block c a m bits) ≡ appends (typedef_block d b n bits)
      typedef-block bits = cc (same-member a b p)

  payload-name : (end : Text) → payload_name c end ≡ payload_name d end
  payload-name end = cc (same-arrays)

  payload-by : (modifier : Modifier) {xs ys : List Annotated} → SameAnnotateds s t xs ys → (x : Bool)
      → payload_by_size c modifier xs x ≡ payload_by_size d modifier ys x
  payload-by modifier ks true = cc (payload-name (text "_"), payload-name (text "_size_"))
  payload-by modifier ks false = on-trailing _ _ _ _ (get-trailing-size ks) (λ bits. by bits)
    where
      by : (bits : ℕ) → appends (unsized_payload (payload_name c (text "_")) bits) ≡ appends (unsized_payload (payload_name d (text "_")) bits)
      by bits = ap (λ (x : Text). appends (unsized_payload x bits)) (payload-name (text "_"))

  parse-payload : (shift : ℕ) (modifier : Modifier) {xs ys : List Annotated} → SameAnnotateds s t xs ys
      → parse_payload_field_lite c shift modifier xs ≡ parse_payload_field_lite d shift modifier ys
  unfolding parse_payload_field_lite
  parse-payload shift modifier {xs} {ys} ks = cc (has-payload-size s t same.fields, payload-by modifier ks (has_payload_size t d.fields))

  parse-typedef : (shift : ℕ) (x y : Annotated) → SameAnnotated s t x y → (a b m n : Part) → SamePart s t a b → SamePart s t m n
      → {xs ys : List Annotated} → SameAnnotateds s t xs ys → parse_typedef_field c shift x a m xs ≡ parse_typedef_field d shift y b n ys
  unfolding parse_typedef_field
  parse-typedef shift x y k a b m n p q ks = cc (typedef-by y.field_size a b m n p q ks)

  -- ---- optional fields

  optional-typedef : (value : ℕ) (i j a b m n : Part) → SamePart s t i j → SamePart s t a b → SamePart s t m n → (x : Option EnumKind)
      → optional_typedef c i value a m x ≡ optional_typedef d j value b n x
  optional-typedef value i j a b m n o p q (Some kind) = cc (same-order, same-member a b p)
  optional-typedef value i j a b m n o p q None = cc (same-member a b p)

  parse-optional : (i j : Part) (value : ℕ) → SamePart s t i j → {x y : FieldDesc} → SameDesc s t x y
      → parse_optional_field c i value x ≡ parse_optional_field d j value y
  unfolding parse_optional_field
  parse-optional i j value o (SameDesc.checksum p) = refl
  parse-optional i j value o SameDesc.padding = refl
  parse-optional i j value o (SameDesc.size p) = refl
  parse-optional i j value o (SameDesc.count p) = refl
  parse-optional i j value o (SameDesc.element_size p) = refl
  parse-optional i j value o SameDesc.body = refl
  parse-optional i j value o SameDesc.payload = refl
  parse-optional i j value o SameDesc.fixed_scalar = refl
  parse-optional i j value o (SameDesc.fixed_enum p q) = refl
  parse-optional i j value o SameDesc.reserved = refl
  parse-optional i j value o (SameDesc.array p q) = refl
  parse-optional i j value o (SameDesc.scalar {a} {b} p) = cc (same-order, same-member a b p)
  parse-optional i j value o (SameDesc.flag p) = refl
  parse-optional i j value o (SameDesc.typedef {a} {b} {c = m} {d = n} p q) =
      cc (enum_type m n q, optional-typedef value i j a b m n o p q (enum_of t d.scope n))

  -- ---- arrays

  size-bits : (a b : Part) → SamePart s t a b → {r q : Option Reference} → SameReference s t r q → size_bits s a r ≡ size_bits t b q
  size-bits a b p SameReference.none = refl
  size-bits a b p (SameReference.size {a = m} {b = n} q) = cc (same-name s t m n a b q p)
  size-bits a b p (SameReference.count q) = refl
  size-bits a b p (SameReference.element_size q) = refl

  size-backing : (a b : Part) → SamePart s t a b → {fs gs : List Field} → SameFields s t fs gs → size_backing s a fs ≡ size_backing t b gs
  unfolding size_backing
  size-backing a b p SameFields.done = refl
  size-backing a b p (SameFields.more {f} {g} {fs} {gs} k ks) = by _ _ (size-bits a b p (same-reference s t k.desc)) (size-backing a b p ks)
    where
      by : (x y : Option ℕ) → x ≡ y → size_backing s a fs ≡ size_backing t b gs
          → ◌≡◌ {A = ℕ}
          (elim x [ Some n ↦ n | None ↦ size_backing s a fs ])
          (elim y [ Some n ↦ n | None ↦ size_backing t b gs ])
      by (Some n) y e h = rw (← e)
      by None y e h = rw (← e) h

  elem-of : (width : Option ℕ) {a b : Option Part} → SameMaybe s t a b → elem_of c width a ≡ elem_of d width b
  elem-of (Some width) p = cc (same-order)
  elem-of None SameMaybe.none = refl
  elem-of None (SameMaybe.some {a} {b} p) = cc (same-order, enum_type a b p)

  type-name : {a b : Option Part} → SameMaybe s t a b → type_name c a ≡ type_name d b
  type-name SameMaybe.none = refl
  type-name (SameMaybe.some p) = p

  array-of : (a b : Part) (width : Option ℕ) (m n : Option Part) (size : Option ℕ) → SamePart s t a b → SameMaybe s t m n
      → array_of c a width m size ≡ array_of d b width n size
  array-of a b width m n size p q =
      cc (
        same-arrays,
        type-name q,
        element-size s t c.scope d.scope same.scope c.fields d.fields same.fields a b width p q,
        array_size_lem s t same.fields a b size p,
        elem-of width q,
      )

  parse-array : (padding : Option ℕ) (a b : Part) (width : Option ℕ) (m n : Option Part) (modifier : Modifier) (size : Option ℕ)
      → SamePart s t a b → SameMaybe s t m n
      → parse_array_field c padding a width m modifier size ≡ parse_array_field d padding b width n modifier size
  unfolding parse_array_field
  parse-array padding a b width m n modifier size p q = cc (size-backing a b p same.fields, array-of a b width m n size p q)

  -- ---- one field

  parse-other : (shift : ℕ) (x y : Annotated) → SameAnnotated s t x y → {xs ys : List Annotated} → SameAnnotateds s t xs ys
      → {u v : FieldDesc} → SameDesc s t u v → parse_other c shift x xs u ≡ parse_other d shift y ys v
  unfolding parse_other
  parse-other shift x y k ks (SameDesc.checksum p) = refl
  parse-other shift x y k ks SameDesc.padding = refl
  parse-other shift x y k ks (SameDesc.size p) = refl
  parse-other shift x y k ks (SameDesc.count p) = refl
  parse-other shift x y k ks (SameDesc.element_size p) = refl
  parse-other shift x y k ks SameDesc.body = parse-payload shift Modifier.None ks
  parse-other shift x y k ks (SameDesc.payload {modifier}) = parse-payload shift modifier ks
  parse-other shift x y k ks SameDesc.fixed_scalar = refl
  parse-other shift x y k ks (SameDesc.fixed_enum p q) = refl
  parse-other shift x y k ks SameDesc.reserved = refl
  parse-other shift x y k ks (SameDesc.array {a} {b} {width} {c = m} {d = n} {modifier} {size} p q) =
      cc (parse-array y.padded_size a b width m n modifier size p q)
  parse-other shift x y k ks (SameDesc.scalar p) = refl
  parse-other shift x y k ks (SameDesc.flag p) = refl
  parse-other shift x y k ks (SameDesc.typedef {a} {b} {c = m} {d = n} p q) = parse-typedef shift x y k a b m n p q ks

  is-bit : (f g : Field) → SameField s t f g → is_bit c f ≡ is_bit d g
  unfolding is_bit
  is-bit f g h = by h.cond
    where
      by : {x y : Option Condition} → SameCond s t x y
          → ◌≡◌ {A = Bool}
          (elim x [ None ↦ is_bitfield s c.scope f.desc | Some cond ↦ false ])
          (elim y [ None ↦ is_bitfield t d.scope g.desc | Some cond ↦ false ])
      by SameCond.none = is-bitfield s t c.scope d.scope same.scope h.desc
      by (SameCond.some p) = refl

  parse-unchecked : (shift : ℕ) (a b : Annotated) → SameAnnotated s t a b → {xs ys : List Annotated} → SameAnnotateds s t xs ys
      → parse_unchecked c shift a xs ≡ parse_unchecked d shift b ys
  unfolding parse_unchecked
  parse-unchecked shift a b k {xs} {ys} ks = by k.field.cond
    where
      by : {x y : Option Condition} → SameCond s t x y
          → ◌≡◌ {A = Emit}
          (elim x [ None ↦ parse_other c shift a xs a.field.desc | Some cond ↦ parse_optional_field c cond.id cond.value a.field.desc ])
          (elim y [ None ↦ parse_other d shift b ys b.field.desc | Some cond ↦ parse_optional_field d cond.id cond.value b.field.desc ])
      by SameCond.none = parse-other shift a b k ks k.field.desc
      by (SameCond.some {a = i} {b = j} {value} p) = parse-optional i j value p k.field.desc

  check-code : (p : FieldParser) → check_code c p ≡ check_code d p
  unfolding check_code
  check-code p = by p.unchecked_code p.chunk
    where
      by : (cs : List Chunk) (bs : List Bit) → flushed c p cs bs ≡ flushed d p cs bs
      by [] bs = refl
      by (x ∷ cs) [] = cc same.options
      by (x ∷ cs) (b ∷ bs) = refl

  same-parse : (p : FieldParser) (a b : Annotated) → SameAnnotated s t a b → {xs ys : List Annotated} → SameAnnotateds s t xs ys
      → parse c p a xs ≡ parse d p b ys
  unfolding parse
  same-parse p a b k {xs} {ys} ks = by _ _ (is-bit a.field b.field k.field)
    where
      unchecked : (q : FieldParser) → emitted q (parse_unchecked c q.shift a xs) ≡ emitted q (parse_unchecked d q.shift b ys)
      unchecked q = ap (emitted q) (parse-unchecked q.shift a b k ks)

      by : (x y : Bool) → x ≡ y
          → ◌≡◌ {A = Step}
          (elim x [ true ↦ parse_bit_field c p a | false ↦ and_then (check_code c p) λ q. emitted q (parse_unchecked c q.shift a xs) ])
          (elim y [ true ↦ parse_bit_field d p b | false ↦ and_then (check_code d p) λ q. emitted q (parse_unchecked d q.shift b ys) ])
      by true true e = parse-bit p a b k
      by true false e = impossible (cc)
      by false true e = impossible (cc)
      by false false e = and-then _ _ _ _ (check-code p) (λ q. unchecked q)

  -- ---- all fields

  parse-all : (p : FieldParser) {xs ys : List Annotated} → SameAnnotateds s t xs ys → parse_all c p xs ≡ parse_all d p ys
  unfolding parse_all
  parse-all p SameAnnotateds.done = refl
  parse-all p (SameAnnotateds.more {a} {b} k ks) = and-then _ _ _ _ (same-parse p a b k ks) (λ q. parse-all q ks)

  pub same_lines : {xs ys : List Annotated} → SameAnnotateds s t xs ys → lower_fields c xs ≡ lower_fields d ys
  unfolding lower_fields
  same_lines ks = ap code_of (and-then _ _ _ _ (parse-all new ks) (λ q. check-code q))

-- ---- the target, of heads that choose the same, whatever targets they name

pub same_target : (s t : Text) (h k : Head) → h.options ≡ k.options → {e f : Entry} → SameEntry s t e f → lower_target s h e ≡ lower_target t k f
same_target s t h k o {e} {f} g =
    same_lines (setting_of s h e) (setting_of t k f) (record { scope = g.earlier; options = o; fields = g.declaration.fields }) g.fields

pub same-lowering : (s t : Text) (h k : Head) → SameHead s t h k → {a b : Schema} → SameSchema s t a b → lower_in s h a ≡ lower_in t k b
unfolding lower_in
same-lowering s t h k head SameSchema.done = refl
same-lowering s t h k head (SameSchema.more {e} {f} {a} {b} g ks) =
    by _ _ (is-target s t h k head e f g) (same_target s t h k head.options g) (same-lowering s t h k head ks)
  where
    by : (x y : Bool) → x ≡ y → lower_target s h e ≡ lower_target t k f → lower_in s h a ≡ lower_in t k b
        → ◌≡◌ {A = Outcome} (elim x [ true ↦ lower_target s h e | false ↦ lower_in s h a ]) (elim y [ true ↦ lower_target t k f | false ↦ lower_in t k b ])
    by true true i u v = u
    by true false i u v = impossible (cc)
    by false true i u v = impossible (cc)
    by false false i u v = v

-- ---- each target: its section has a name and blocks, which are texts

pub same-each : (s t : Text) (h k : Head) → h.options ≡ k.options → {a b : Schema} → SameSchema s t a b → lower_each s h a ≡ lower_each t k b
unfolding lower_each
same-each s t h k o SameSchema.done = refl
same-each s t h k o (SameSchema.more {e} {f} {a} {b} g ks) =
    by _ _ (is-frame s t g.row.decl.desc) g.row.decl.id (same_target s t h k o g) (same-each s t h k o ks)
  where
    by : (x y : Bool) → x ≡ y → SamePart s t e.row.decl.id f.row.decl.id → lower_target s h e ≡ lower_target t k f
        → lower_each s h a ≡ lower_each t k b
        → ◌≡◌ {A = Outcomes} (elim x [ true ↦ with_section (part s e.row.decl.id) (lower_target s h e) (lower_each s h a) | false ↦ lower_each s h a ])
        (elim y [ true ↦ with_section (part t f.row.decl.id) (lower_target t k f) (lower_each t k b) | false ↦ lower_each t k b ])
    by true true i n u v = cc
    by true false i n u v = impossible (cc)
    by false true i n u v = impossible (cc)
    by false false i n u v = v
