-- The blocks of every entry that is lowered, so of every accepted record, are as `BlocksOk` asks: what is checked is what is read, names are apart,
-- elements have a size.
-- Assumes nothing.
use Rattle.std.specs.Prelude.{Option, Some, None}
use mathlib.Core.Bool.{Bool, true, false, ◌||◌}
use mathlib.Core.List.{List, [], ◌∷◌, ◌++◌, append_assoc}
use mathlib.Core.Path.{◌≡◌, refl, sym, ap, ◌∙◌, subst}
use Prim.Native.Nat.{ℕ, zero, suc, ◌+◌, ◌/◌, ◌%◌, ◌<◌}
use native.Mathlib.Nat.{add-zero, div-add-mod'}
use native.Mathlib.Omega.{arith}
use lib.Dec.{ltb, eqb}
use borrow.Author.Tests.{ltb-false, eqb-true, eqb-false, not-false}
use Rattle.definitions.specs.Bytes.{Text, text, pick}
use Rattle.definitions.specs.Sizes.{Entry, Row, Annotated, total_size, lookup, desc_enum, enum_of, has_payload_size, any_reference, is_element_size, typed_element, element_size, static_width}
use Rattle.definitions.specs.Refusals.{ragged_size, not_whole, ragged_array, ragged_desc, ragged_field, is_optional}
use Rattle.definitions.specs.Blocks.{span, Kind, Bit, Chunk, chunk_name, Block, Elem, Array, widths, prefix, named}
use Rattle.definitions.specs.FieldParser.{Setting, FieldParser, Step, go, stop, and_then, new, append, flushed, check_code, written, member, field_name, is_cond_for, enum_kind, kind_of, bit_of, open_chunk, close_chunk, parse_bit_field, Emit, appends, silent, refuses, on_boundary, on_trailing, get_trailing_size, typedef_by_size, parse_typedef_field, optional_typedef, parse_optional_field, payload_by_size, parse_payload_field_lite, typed_elem, elem_of, with_padding, parse_array_field, parse_other, is_bit, parse_unchecked, emitted, parse, parse_all, done, Outcome, refused, accepted, code_of, lower_fields}
use Rattle.definitions.specs.declared.EnumKind.{EnumKind}
use Rattle.definitions.specs.declared.Part.{Part}
use Rattle.definitions.specs.declared.Modifier.{Modifier}
use Rattle.definitions.specs.declared.EndiannessValue.{EndiannessValue}
use Rattle.definitions.specs.declared.Arrays.{Arrays}
use Rattle.definitions.specs.declared.Head.{Head}
use Rattle.definitions.specs.declared.FieldDesc.{FieldDesc}
use Rattle.definitions.specs.declared.Condition.{Condition}
use Rattle.definitions.specs.declared.Size.{Size}
use Rattle.definitions.specs.declared.Refusal.{Refusal}
use Rattle.definitions.specs.declared.ElementSize.{ElementSize}
use Rattle.definitions.specs.Answer.{setting_of, answer}
use Rattle.lengths.proofs.Booleans.{neither}
use Rattle.lengths.proofs.Steps.{widths-snoc}
use Rattle.meaning.proofs.Items.{offsets}
use Rattle.meaning.proofs.Wellformed.{Apart, ElemOk, Spares, SparesAll, Shifted, ChunkOk, ChunksOk, BlockOk, BlocksOk, Plain}
use Rattle.meaning.proofs.ChunkNames.{Free, free-ends, raw-free, DescFree}
use Rattle.meaning.proofs.Names.{apart-ends}
use Rattle.meaning.proofs.Entries.{RowsOk, FoundOk, lookup-ok, Fits, AllFit, Lowers, has-grounds}

-- ---- the elements of an array

whole : (n : ℕ) → ragged_size (Size.Static n) ≡ false → 0 < n / 8
whole n e =
    let a : n ≡ 0 → ⊥ = eqb-false n 0 (neither (eqb n 0) (not_whole n) e).0 in
    let b : n % 8 ≡ 0 = eqb-true (n % 8) 0 (not-false (eqb (n % 8) 0) (neither (eqb n 0) (not_whole n) e).1) in
    nonzero (n / 8) (λ z. a (omega (arith, div-add-mod' n 8, z, b)))
  where
    nonzero : (m : ℕ) → (m ≡ 0 → ⊥) → 0 < m
    nonzero zero h = absurd (h refl)
    nonzero (suc m) h = omega arith

-- an element of a type
typed-ok : (o : EndiannessValue) (name : Text) (given : Bool) (f : Option Row) → FoundOk f
    → ragged_size (elim f [ Some r ↦ total_size r | None ↦ Size.Unknown ]) ≡ false
    → ElemOk (typed_element (elim f [ Some r ↦ total_size r | None ↦ Size.Unknown ]) given)
    (typed_elem o name (elim f [ Some r ↦ desc_enum r.decl.desc | None ↦ None ]))
typed-ok o name true None k e = tt
typed-ok o name false None k e = tt
typed-ok o name given (Some r) k e = by (total_size r) refl (desc_enum r.decl.desc) refl e
  where
    by : (z : Size) → total_size r ≡ z → (d : Option EnumKind) → desc_enum r.decl.desc ≡ d → ragged_size z ≡ false
        → ElemOk (typed_element z given) (typed_elem o name d)
    by (Size.Static n) ez (Some kind) ed h = marked kind.is_open
      where
        static : {a b : ℕ} → Size.Static a ≡ Size.Static b → a ≡ b
        static p = cc

        same : n ≡ kind.width
        same = static (sym ez ∙ k kind ed)

        marked : (b : Bool) → ElemOk (ElementSize.Static (n / 8)) (pick b (Elem.open_enum name o kind.width) (Elem.closed_enum name o kind.width))
        marked true = (whole n h, omega (arith, ap (λ (m : ℕ). m / 8) same))
        marked false = (whole n h, omega (arith, ap (λ (m : ℕ). m / 8) same))
    by (Size.Static n) ez None ed h = (whole n h, omega arith)
    by Size.Dynamic ez d ed h = dynamic given
      where
        dynamic : (g : Bool) → ElemOk (typed_element Size.Dynamic g) (typed_elem o name d)
        dynamic true = tt
        dynamic false = tt
    by Size.Unknown ez d ed h = unknown given
      where
        unknown : (g : Bool) → ElemOk (typed_element Size.Unknown g) (typed_elem o name d)
        unknown true = tt
        unknown false = tt

elem_ok : (c : Setting) → RowsOk c.scope → (id : Part) (width : Option ℕ) (type : Option Part)
    → ragged_array c.source c.scope width type ≡ false
    → ElemOk (element_size c.source c.scope c.fields id width type) (elem_of c width type)
elem_ok c h id (Some w) type e = (whole w e, omega arith)
elem_ok c h id None (Some type) e =
    typed-ok c.options.endianness (written c type) (any_reference (is_element_size c.source id) c.fields) (lookup c.source c.scope type)
    (lookup-ok c.source c.scope type h) e
elem_ok c h id None None e = tt

-- ---- the parser's state

offsets-snoc : (cs : List Chunk) (c : Chunk) → offsets (cs ++ (c ∷ [])) ≡ offsets cs + widths c.fields / 8
offsets-snoc [] c = omega arith
offsets-snoc (d ∷ cs) c = omega (arith, offsets-snoc cs c)

blocks-snoc : (bs : List Block) (b : Block) → BlocksOk bs → BlockOk b → BlocksOk (bs ++ (b ∷ []))
blocks-snoc [] b h k = (k, tt)
blocks-snoc (d ∷ bs) b h k = (h.0, blocks-snoc bs b h.1 k)

-- what the run so far has: the bits of the open chunk, the bytes of the pending ones, and blocks that are as asked
pub record Good (p : FieldParser) : Type 0 where
  pub shift_is : p.shift ≡ widths p.chunk
  pub offset-is : p.offset ≡ offsets p.unchecked_code
  pub blocks : BlocksOk p.code
  pub shifts : Shifted 0 p.chunk
  pub spares : (nr : ℕ) → SparesAll (chunk_name nr) p.chunk
  pub pending : ChunksOk p.unchecked_code

abbrev pub GoodStep : Step → Type 0
GoodStep (go p) = Good p
GoodStep (stop n) = Unit {0}

then-good : (s : Step) (f : FieldParser → Step) → GoodStep s → ((q : FieldParser) → Good q → GoodStep (f q)) → GoodStep (and_then s f)
then-good (go p) f h k = k p h
then-good (stop n) f h k = tt

append-good : (p : FieldParser) (b : Block) → Good p → BlockOk b → Good (append p b)
append-good p b g k =
    record {
      shift_is = g.shift_is;
      offset-is = g.offset-is;
      blocks = blocks-snoc p.code b g.blocks k;
      shifts = g.shifts;
      spares = g.spares;
      pending = g.pending;
    }

flushed-good : (c : Setting) (p : FieldParser) (cs : List Chunk) (bs : List Bit) → Good p → GoodStep (flushed c p cs bs)
flushed-good c p [] bs g = g
flushed-good c p (d ∷ ds) [] g =
    record {
      shift_is = g.shift_is;
      offset-is = refl;
      blocks =
          blocks-snoc p.code (Block.checked c.options p.offset p.unchecked_code) g.blocks
          (record { number = g.offset-is; chunks = g.pending });
      shifts = g.shifts;
      spares = g.spares;
      pending = tt;
    }
flushed-good c p (d ∷ ds) (b ∷ bs) g = tt

check-good : (c : Setting) (p : FieldParser) → Good p → GoodStep (check_code c p)
unfolding check_code
check-good c p g = flushed-good c p p.unchecked_code p.chunk g

chunks-snoc : (cs : List Chunk) (c : Chunk) → ChunksOk cs → ChunkOk c → ChunksOk (cs ++ (c ∷ []))
chunks-snoc [] c h k = (k, tt)
chunks-snoc (d ∷ cs) c h k = (h.0, chunks-snoc cs c h.1 k)

shifted-snoc : (s : ℕ) (bs : List Bit) (b : Bit) → Shifted s bs → b.shift ≡ s + widths bs → Shifted s (bs ++ (b ∷ []))
shifted-snoc s [] b h e = (e ∙ add-zero s, tt)
shifted-snoc s (d ∷ bs) b h e = (h.0, shifted-snoc (s + d.width) bs b h.1 (omega (arith, e)))

spares-snoc : (x : Text) (bs : List Bit) (b : Bit) → SparesAll x bs → Spares x b.kind → SparesAll x (bs ++ (b ∷ []))
spares-snoc x [] b h k = (k, tt)
spares-snoc x (d ∷ bs) b h k = (h.0, spares-snoc x bs b h.1 k)

module _ (p : FieldParser) (shift : ℕ) (chunk : List Bit) (g : Good p) (w : shift ≡ widths chunk) (sh : Shifted 0 chunk)
    (sp : (nr : ℕ) → SparesAll (chunk_name nr) chunk) where
  abbrev closed : Chunk
  closed = record { nr = p.chunk_nr; raw_nr = p.raw_nr; fields = chunk }

  push-closed : eqb (shift % 8) 0 ≡ true → (b : Bool) → ltb 64 shift ≡ b
      → GoodStep (elim b [ true ↦ stop Refusal.ScalarTooWide | false ↦ go (close_chunk p shift chunk) ])
  push-closed e true f = tt
  push-closed e false f =
      record {
        shift_is = refl;
        offset-is = omega (arith, offsets-snoc p.unchecked_code closed, g.offset-is, ap (λ (n : ℕ). n / 8) w);
        blocks = g.blocks;
        shifts = tt;
        spares = λ nr. tt;
        pending =
            chunks-snoc p.unchecked_code closed g.pending
            (record {
              whole = omega (arith, w, eqb-true (shift % 8) 0 e);
              small = omega (arith, w, ltb-false 64 shift f);
              shifts = sh;
              spares = sp;
            });
      }

  push-open : (b : Bool) → eqb (shift % 8) 0 ≡ b
      → GoodStep (elim b [
        | true ↦ elim (ltb 64 shift) [ true ↦ stop Refusal.ScalarTooWide | false ↦ go (close_chunk p shift chunk) ]
        | false ↦ go (open_chunk p shift chunk)
      ])
  push-open true e = push-closed e (ltb 64 shift) refl
  push-open false e =
      record { shift_is = w; offset-is = g.offset-is; blocks = g.blocks; shifts = sh; spares = sp; pending = g.pending }

-- no line of a field's kind sets a `chunk` with a number
spares-pick : (x : Text) (b : Bool) (k l : Kind) → Spares x k → Spares x l → Spares x (pick b k l)
spares-pick x true k l h m = h
spares-pick x false k l h m = m

member-free : (c : Setting) (id : Part) → Free (member c id)
member-free c id = free-ends (prefix c.options.arrays) (written c id) 95 (omega arith)

-- a name that ends in `_`
named-free : (m : Arrays) (id end : Text) → Free (named m id (end ++ text "_"))
named-free m id end nr =
    subst (λ (t : Text). Apart (prefix m ++ t) (chunk_name nr)) (append_assoc id end (text "_")) (free-ends (prefix m) (id ++ end) 95 (omega arith) nr)

enum-spares : (c : Setting) (id type : Part) (e : Option EnumKind) (nr : ℕ) → Spares (chunk_name nr) (enum_kind (member c id) (written c type) e)
enum-spares c id type (Some kind) nr =
    spares-pick (chunk_name nr) (kind.is_open || kind.is_complete) (Kind.open_enum (member c id) (written c type)) (Kind.closed_enum (member c id) (written c type))
    (member-free c id nr) (member-free c id nr, λ m k. raw-free m k nr)
enum-spares c id type None nr = member-free c id nr

kind-spares : (c : Setting) (d : FieldDesc) → DescFree c.source d → (nr : ℕ) → Spares (chunk_name nr) (kind_of c d)
unfolding kind_of
kind-spares c (FieldDesc.Checksum of) h nr = tt
kind-spares c (FieldDesc.Padding size) h nr = tt
kind-spares c (FieldDesc.Size of width) h nr = named-free c.options.arrays (field_name c of) (text "_size") nr
kind-spares c (FieldDesc.Count of width) h nr = named-free c.options.arrays (written c of) (text "_count") nr
kind-spares c (FieldDesc.ElementSize of width) h nr = named-free c.options.arrays (field_name c of) (text "_element_size") nr
kind-spares c FieldDesc.Body h nr = tt
kind-spares c (FieldDesc.Payload modifier) h nr = tt
kind-spares c (FieldDesc.FixedScalar width value) h nr = tt
kind-spares c (FieldDesc.FixedEnum type tag) h nr = tt
kind-spares c (FieldDesc.Reserved width) h nr = tt
kind-spares c (FieldDesc.Array id width type modifier size) h nr = tt
kind-spares c (FieldDesc.Scalar id width) h nr =
    spares-pick (chunk_name nr) (is_cond_for c id) (Kind.condition (written c id)) (Kind.number (member c id)) (h nr) (member-free c id nr)
kind-spares c (FieldDesc.Flag id) h nr = h nr
kind-spares c (FieldDesc.Typedef id type) h nr = enum-spares c id type (enum_of c.source c.scope type) nr

bit-good : (c : Setting) (p : FieldParser) (a : Annotated) → DescFree c.source a.field.desc → Good p → GoodStep (parse_bit_field c p a)
unfolding parse_bit_field
bit-good c p a h g =
    push-open p (p.shift + static_width a.field_size) (p.chunk ++ (bit_of c p.shift a ∷ [])) g
    (omega (arith, widths-snoc p.chunk (bit_of c p.shift a), g.shift_is))
    (shifted-snoc 0 p.chunk (bit_of c p.shift a) g.shifts (omega (arith, g.shift_is)))
    (λ nr. spares-snoc (chunk_name nr) p.chunk (bit_of c p.shift a) (g.spares nr) (kind-spares c a.field.desc h nr))
    (eqb ((p.shift + static_width a.field_size) % 8) 0) refl

-- ---- fields that are no bit fields

-- a block as asked, and no checked run
abbrev Other : Block → Type 0
Other b = BlockOk b × Plain b

abbrev pub EmitOk : Emit → Type 0
EmitOk (appends b) = Other b
EmitOk silent = Unit {0}
EmitOk (refuses why) = Unit {0}

emitted-good : (p : FieldParser) (e : Emit) → Good p → EmitOk e → GoodStep (emitted p e)
emitted-good p (appends b) g h = append-good p b g h.0
emitted-good p silent g h = g
emitted-good p (refuses why) g h = tt

boundary-ok : (shift : ℕ) (e : Emit) → EmitOk e → EmitOk (on_boundary shift e)
boundary-ok shift e h = by (eqb shift 0)
  where
    by : (b : Bool) → EmitOk (elim b [ true ↦ e | false ↦ refuses Refusal.OctetBoundary ])
    by true = h
    by false = tt

trailing-ok : (m : Option ℕ) (f : ℕ → Emit) → ((n : ℕ) → EmitOk (f n)) → EmitOk (on_trailing m f)
trailing-ok None f h = tt
trailing-ok (Some n) f h = h n

pick-ok : (b : Bool) (x y : Block) → Other x → Other y → Other (pick b x y)
pick-ok true x y h k = h
pick-ok false x y h k = k

typedef-ok : (c : Setting) (id type : Part) (later : List Annotated) (z : Size) → EmitOk (typedef_by_size c id type later z)
typedef-ok c id type later (Size.Static n) = (tt, (refl, λ o. tt))
typedef-ok c id type later Size.Dynamic = (tt, (refl, λ o. tt))
typedef-ok c id type later Size.Unknown =
    trailing-ok (get_trailing_size c.options.trailing later) _ (λ n. pick-ok (ltb 0 n) _ _ (tt, (refl, λ o. tt)) (tt, (refl, λ o. tt)))

enum_ok : (c : Setting) (cond : Part) (v : ℕ) (id type : Part) (e : Option EnumKind) → Other (optional_typedef c cond v id type e)
enum_ok c cond v id type (Some kind) = pick-ok kind.is_open _ _ (tt, (refl, λ o. tt)) (tt, (refl, λ o. tt))
enum_ok c cond v id type None = (tt, (refl, λ o. tt))

optional-ok : (c : Setting) (cond : Part) (v : ℕ) (d : FieldDesc) → EmitOk (parse_optional_field c cond v d)
unfolding parse_optional_field
optional-ok c cond v (FieldDesc.Checksum of) = tt
optional-ok c cond v (FieldDesc.Padding size) = tt
optional-ok c cond v (FieldDesc.Size of width) = tt
optional-ok c cond v (FieldDesc.Count of width) = tt
optional-ok c cond v (FieldDesc.ElementSize of width) = tt
optional-ok c cond v FieldDesc.Body = tt
optional-ok c cond v (FieldDesc.Payload modifier) = tt
optional-ok c cond v (FieldDesc.FixedScalar width value) = tt
optional-ok c cond v (FieldDesc.FixedEnum type tag) = tt
optional-ok c cond v (FieldDesc.Reserved width) = tt
optional-ok c cond v (FieldDesc.Array id width type modifier size) = tt
optional-ok c cond v (FieldDesc.Scalar id width) = (tt, (refl, λ o. tt))
optional-ok c cond v (FieldDesc.Flag id) = tt
optional-ok c cond v (FieldDesc.Typedef id type) = enum_ok c cond v id type (enum_of c.source c.scope type)

pub payload-span : (m : Arrays) → Apart (named m (text "payload") (text "_")) span
payload-span Arrays.Lite = apart-ends (text "payload") (text "_") (text "spa") (text "n") refl refl
payload-span Arrays.Full = apart-ends (text "output->payload") (text "_") (text "spa") (text "n") refl refl

sized-ok : (c : Setting) (m : Modifier) (later : List Annotated) (b : Bool) → EmitOk (payload_by_size c m later b)
sized-ok c m later true = (payload-span c.options.arrays, (refl, λ o. tt))
sized-ok c m later false =
    trailing-ok (get_trailing_size c.options.trailing later) _
    (λ n. pick-ok (ltb 0 n) _ _ (payload-span c.options.arrays, (refl, λ o. tt)) (payload-span c.options.arrays, (refl, λ o. tt)))

payload-ok : (c : Setting) (shift : ℕ) (m : Modifier) (later : List Annotated) → EmitOk (parse_payload_field_lite c shift m later)
unfolding parse_payload_field_lite
payload-ok c shift m later = boundary-ok shift _ (sized-ok c m later (has_payload_size c.source c.fields))

padding-ok : (p : Option ℕ) (m : Modifier) (w : ℕ) (a : Array) → ElemOk a.element_size a.elem → Other (with_padding p m w a)
padding-ok None m w a h = (h, (refl, λ o. tt))
padding-ok (Some n) m w a h = (h, (refl, λ o. tt))

module _ (c : Setting) (rows : RowsOk c.scope) where
  other-ok : (shift : ℕ) (a : Annotated) (later : List Annotated) (b : Bool) (d : FieldDesc) → ragged_desc c.source c.scope b d ≡ false
      → EmitOk (parse_other c shift a later d)
  unfolding parse_other parse_array_field parse_typedef_field
  other-ok shift a later b (FieldDesc.Checksum of) e = tt
  other-ok shift a later b (FieldDesc.Padding size) e = tt
  other-ok shift a later b (FieldDesc.Size of width) e = tt
  other-ok shift a later b (FieldDesc.Count of width) e = tt
  other-ok shift a later b (FieldDesc.ElementSize of width) e = tt
  other-ok shift a later b FieldDesc.Body e = payload-ok c shift Modifier.None later
  other-ok shift a later b (FieldDesc.Payload modifier) e = payload-ok c shift modifier later
  other-ok shift a later b (FieldDesc.FixedScalar width value) e = tt
  other-ok shift a later b (FieldDesc.FixedEnum type tag) e = tt
  other-ok shift a later b (FieldDesc.Reserved width) e = tt
  other-ok shift a later b (FieldDesc.Array id width type modifier size) e =
      padding-ok a.padded_size modifier _ _ (elem_ok c rows id width type e)
  other-ok shift a later b (FieldDesc.Scalar id width) e = tt
  other-ok shift a later b (FieldDesc.Flag id) e = tt
  other-ok shift a later b (FieldDesc.Typedef id type) e = boundary-ok shift _ (typedef-ok c id type later a.field_size)

  pub unchecked-ok : (shift : ℕ) (a : Annotated) (later : List Annotated) → ragged_field c.source c.scope a.field ≡ false
      → EmitOk (parse_unchecked c shift a later)
  unfolding parse_unchecked
  unchecked-ok shift a later e = by a.field.cond
    where
      by : (k : Option Condition) → EmitOk (elim k [
        | None ↦ parse_other c shift a later a.field.desc
        | Some cond ↦ parse_optional_field c cond.id cond.value a.field.desc
      ])
      by None = other-ok shift a later (is_optional a.field.cond) a.field.desc e
      by (Some cond) = optional-ok c cond.id cond.value a.field.desc

  -- ---- all fields

  parse-good : (p : FieldParser) (a : Annotated) (later : List Annotated) → Fits c a → Good p → GoodStep (parse c p a later)
  unfolding parse
  parse-good p a later h g = by (is_bit c a.field)
    where
      by : (b : Bool) → GoodStep (elim b [
        | true ↦ parse_bit_field c p a
        | false ↦ and_then (check_code c p) λ q. emitted q (parse_unchecked c q.shift a later)
      ])
      by true = bit-good c p a h.free g
      by false =
          then-good (check_code c p) _ (check-good c p g)
          (λ q k. emitted-good q (parse_unchecked c q.shift a later) k (unchecked-ok q.shift a later h.whole))

  all-good : (p : FieldParser) (xs : List Annotated) → AllFit c xs → Good p → GoodStep (parse_all c p xs)
  unfolding parse_all
  all-good p [] h g = g
  all-good p (a ∷ later) h g = then-good (parse c p a later) _ (parse-good p a later h.0 g) (λ q k. all-good q later h.1 k)

-- ---- the answer

abbrev OutcomeOk : Outcome → Type 0
OutcomeOk (refused why) = Unit {0}
OutcomeOk (accepted bs) = BlocksOk bs

code_ok : (s : Step) → GoodStep s → OutcomeOk (code_of s)
code_ok (go p) g = g.blocks
code_ok (stop why) g = tt

lower-ok : (c : Setting) (xs : List Annotated) → RowsOk c.scope → AllFit c xs → OutcomeOk (lower_fields c xs)
unfolding lower_fields
lower-ok c xs rows fit =
    code_ok (and_then (parse_all c new xs) (done c))
    (then-good (parse_all c new xs) (done c)
    (all-good c rows new xs fit (record { shift_is = refl; offset-is = refl; blocks = tt; shifts = tt; spares = λ nr. tt; pending = tt }))
    (λ q g. check-good c q g))

-- of any entry whose fields give these blocks
pub blocks-ok-of : (s : Text) (h : Head) (e : Entry) (bs : List Block) → Lowers s h e bs → BlocksOk bs
blocks-ok-of s h e bs l = subst OutcomeOk l.lowers (lower-ok (setting_of s h e) e.fields l.ok.rows l.ok.fit)

-- so of an accepted record's target
pub blocks-ok : (s : Text) (bs : List Block) → answer s ≡ accepted bs → BlocksOk bs
blocks-ok s bs e =
    let g = has-grounds s bs e in
    blocks-ok-of s g.0.head g.0.entry bs g.1.lowered
