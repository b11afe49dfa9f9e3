-- `FieldParser` looks at the head's `raw` and `products` nowhere but in the lines: with these words taken as others it gives the same refusals, and the
-- same blocks with those words (`fields-by`; of a whole record `record-by`). Blocks that have those words already stay (`blocks-same`), and what is given
-- has them (`blocks-have`).
-- Assumes nothing.
use Rattle.std.specs.Prelude.{Option, Some, None, Ok, Err}
use Rattle.definitions.specs.Refusals.{Verdict, verdict, no_target, is_target}
use mathlib.Core.Bool.{Bool, true, false}
use mathlib.Core.List.{List, [], ◌∷◌, ◌++◌}
use mathlib.Core.Path.{◌≡◌, refl, sym, ap}
use Prim.Native.Nat.{ℕ, ◌+◌, ◌/◌, ◌%◌}
use lib.Dec.{ltb, eqb}
use Rattle.definitions.specs.Bytes.{Text, pick}
use Rattle.definitions.specs.Record.{Declaration}
use Rattle.definitions.specs.Sizes.{Schema, Annotated, enum_of, has_payload_size, static_width}
use Rattle.definitions.specs.Blocks.{Bit, Chunk, Array, Block}
use Rattle.definitions.specs.FieldParser.{Setting, FieldParser, Step, go, stop, and_then, new, flushed, check_code, is_cond_for, kind_of, bit_of, open_chunk, close_chunk, parse_bit_field, Emit, appends, silent, refuses, on_boundary, on_trailing, get_trailing_size, typedef_by_size, parse_typedef_field, optional_typedef, parse_optional_field, payload_by_size, parse_payload_field_lite, elem_of, type_name, array_of, with_padding, parse_array_field, parse_other, is_bit, parse_unchecked, emitted, parse, parse_all, done, Outcome, refused, code_of, lower_fields}
use Rattle.definitions.specs.Answer.{setting_of, lower_target, lower_in, lower_record}
use Rattle.definitions.specs.declared.Raw.{Raw}
use Rattle.definitions.specs.declared.Products.{Products}
use Rattle.definitions.specs.declared.Options.{Options}
use Rattle.definitions.specs.declared.EnumKind.{EnumKind}
use Rattle.definitions.specs.declared.Part.{Part}
use Rattle.definitions.specs.declared.Modifier.{Modifier}
use Rattle.definitions.specs.declared.FieldDesc.{FieldDesc}
use Rattle.definitions.specs.declared.Condition.{Condition}
use Rattle.definitions.specs.declared.Size.{Size}
use Rattle.definitions.specs.declared.Head.{Head}
use Rattle.definitions.specs.declared.Refusal.{Refusal}
use Rattle.alike.specs.Chosen.{options_by, head_by, setting_by, array_by, block_by, blocks_by, outcome_by, BlockHas, BlocksHave}

module _ (raw_as : Raw → Raw) (products_as : Products → Products) where
  blocks-append : (a b : List Block) → blocks_by raw_as products_as (a ++ b) ≡ blocks_by raw_as products_as a ++ blocks_by raw_as products_as b
  blocks-append [] b = refl
  blocks-append (x ∷ a) b = ap (λ (l : List Block). block_by raw_as products_as x ∷ l) (blocks-append a b)

  -- the parser, with its code so
  abbrev parser_by : FieldParser → FieldParser
  parser_by p =
      record {
        offset = p.offset;
        shift = p.shift;
        chunk = p.chunk;
        chunk_nr = p.chunk_nr;
        raw_nr = p.raw_nr;
        unchecked_code = p.unchecked_code;
        code = blocks_by raw_as products_as p.code;
      }

  abbrev step_by : Step → Step
  step_by (go p) = go (parser_by p)
  step_by (stop why) = stop why

  -- what a field comes to
  abbrev emit_by : Emit → Emit
  emit_by (appends b) = appends (block_by raw_as products_as b)
  emit_by silent = silent
  emit_by (refuses why) = refuses why

  on-boundary : (shift : ℕ) (e f : Emit) → e ≡ emit_by f → on_boundary shift e ≡ emit_by (on_boundary shift f)
  on-boundary shift e f h = by (eqb shift 0)
    where
      at : Bool → Emit → Emit
      at b next = elim b [ true ↦ next | false ↦ refuses Refusal.OctetBoundary ]

      by : (b : Bool) → at b e ≡ emit_by (at b f)
      by true = h
      by false = refl

  on-trailing : (m : Option ℕ) (f g : ℕ → Emit) → ((n : ℕ) → f n ≡ emit_by (g n)) → on_trailing m f ≡ emit_by (on_trailing m g)
  on-trailing None f g h = refl
  on-trailing (Some n) f g h = h n

  picked : (b : Bool) (x y : Block) → block_by raw_as products_as x ≡ x → block_by raw_as products_as y ≡ y
      → appends (pick b x y) ≡ emit_by (appends (pick b x y))
  picked true x y h k = ap appends (sym h)
  picked false x y h k = ap appends (sym k)

  module _ (c : Setting) where
    abbrev d : Setting
    d = setting_by raw_as products_as c

    -- ---- fields that are no bit fields

    typedef-by : (id type : Part) (later : List Annotated) (z : Size) → typedef_by_size d id type later z ≡ emit_by (typedef_by_size c id type later z)
    typedef-by id type later (Size.Static n) = refl
    typedef-by id type later Size.Dynamic = refl
    typedef-by id type later Size.Unknown = on-trailing (get_trailing_size c.options.trailing later) _ _ (λ n. picked (ltb 0 n) _ _ refl refl)

    optional-enum : (cond : Part) (v : ℕ) (id type : Part) (e : Option EnumKind)
        → appends (optional_typedef d cond v id type e) ≡ emit_by (appends (optional_typedef c cond v id type e))
    optional-enum cond v id type (Some kind) = picked kind.is_open _ _ refl refl
    optional-enum cond v id type None = refl

    optional-by : (cond : Part) (v : ℕ) (f : FieldDesc) → parse_optional_field d cond v f ≡ emit_by (parse_optional_field c cond v f)
    unfolding parse_optional_field
    optional-by cond v (FieldDesc.Checksum of) = refl
    optional-by cond v (FieldDesc.Padding size) = refl
    optional-by cond v (FieldDesc.Size of width) = refl
    optional-by cond v (FieldDesc.Count of width) = refl
    optional-by cond v (FieldDesc.ElementSize of width) = refl
    optional-by cond v FieldDesc.Body = refl
    optional-by cond v (FieldDesc.Payload modifier) = refl
    optional-by cond v (FieldDesc.FixedScalar width fixed) = refl
    optional-by cond v (FieldDesc.FixedEnum type tag) = refl
    optional-by cond v (FieldDesc.Reserved width) = refl
    optional-by cond v (FieldDesc.Array id width type modifier size) = refl
    optional-by cond v (FieldDesc.Scalar id width) = refl
    optional-by cond v (FieldDesc.Flag id) = refl
    optional-by cond v (FieldDesc.Typedef id type) = optional-enum cond v id type (enum_of c.source c.scope type)

    sized-by : (m : Modifier) (later : List Annotated) (b : Bool) → payload_by_size d m later b ≡ emit_by (payload_by_size c m later b)
    sized-by m later true = refl
    sized-by m later false = on-trailing (get_trailing_size c.options.trailing later) _ _ (λ n. picked (ltb 0 n) _ _ refl refl)

    payload-by : (shift : ℕ) (m : Modifier) (later : List Annotated)
        → parse_payload_field_lite d shift m later ≡ emit_by (parse_payload_field_lite c shift m later)
    unfolding parse_payload_field_lite
    payload-by shift m later = on-boundary shift _ _ (sized-by m later (has_payload_size c.source c.fields))

    elem-by : (width : Option ℕ) (type : Option Part) → elem_of d width type ≡ elem_of c width type
    elem-by (Some w) type = refl
    elem-by None (Some type) = refl
    elem-by None None = refl

    type-by : (type : Option Part) → type_name d type ≡ type_name c type
    type-by None = refl
    type-by (Some type) = refl

    padding-by : (p : Option ℕ) (m : Modifier) (w : ℕ) (a b : Array) → a ≡ array_by products_as b
        → appends (with_padding p m w a) ≡ emit_by (appends (with_padding p m w b))
    padding-by None m w a b e = ap (λ (x : Array). appends (Block.array m w x)) e
    padding-by (Some n) m w a b e = ap (λ (x : Array). appends (Block.padded_array (n / 8) m w x)) e

    array-by : (id : Part) (width : Option ℕ) (type : Option Part) (size : Option ℕ)
        → array_of d id width type size ≡ array_by products_as (array_of c id width type size)
    array-by id width type size = cc (elem-by width type, type-by type)

    other-by : (shift : ℕ) (a : Annotated) (later : List Annotated) (f : FieldDesc)
        → parse_other d shift a later f ≡ emit_by (parse_other c shift a later f)
    unfolding parse_other parse_array_field parse_typedef_field
    other-by shift a later (FieldDesc.Checksum of) = refl
    other-by shift a later (FieldDesc.Padding size) = refl
    other-by shift a later (FieldDesc.Size of width) = refl
    other-by shift a later (FieldDesc.Count of width) = refl
    other-by shift a later (FieldDesc.ElementSize of width) = refl
    other-by shift a later FieldDesc.Body = payload-by shift Modifier.None later
    other-by shift a later (FieldDesc.Payload modifier) = payload-by shift modifier later
    other-by shift a later (FieldDesc.FixedScalar width value) = refl
    other-by shift a later (FieldDesc.FixedEnum type tag) = refl
    other-by shift a later (FieldDesc.Reserved width) = refl
    other-by shift a later (FieldDesc.Array id width type modifier size) =
        padding-by a.padded_size modifier _ _ _ (array-by id width type size)
    other-by shift a later (FieldDesc.Scalar id width) = refl
    other-by shift a later (FieldDesc.Flag id) = refl
    other-by shift a later (FieldDesc.Typedef id type) = on-boundary shift _ _ (typedef-by id type later a.field_size)

    unchecked-by : (shift : ℕ) (a : Annotated) (later : List Annotated) → parse_unchecked d shift a later ≡ emit_by (parse_unchecked c shift a later)
    unfolding parse_unchecked
    unchecked-by shift a later = by a.field.cond
      where
        of : Setting → Option Condition → Emit
        of s k = elim k [
          | None ↦ parse_other s shift a later a.field.desc
          | Some cond ↦ parse_optional_field s cond.id cond.value a.field.desc
        ]

        by : (k : Option Condition) → of d k ≡ emit_by (of c k)
        by None = other-by shift a later a.field.desc
        by (Some cond) = optional-by cond.id cond.value a.field.desc

    emitted-by : (p : FieldParser) (e : Emit) → emitted (parser_by p) (emit_by e) ≡ step_by (emitted p e)
    emitted-by p (appends b) = rw (blocks-append p.code (b ∷ []))
    emitted-by p silent = refl
    emitted-by p (refuses why) = refl

    -- ---- bit fields

    kind-by : (f : FieldDesc) → kind_of d f ≡ kind_of c f
    unfolding kind_of is_cond_for
    kind-by (FieldDesc.Checksum of) = refl
    kind-by (FieldDesc.Padding size) = refl
    kind-by (FieldDesc.Size of width) = refl
    kind-by (FieldDesc.Count of width) = refl
    kind-by (FieldDesc.ElementSize of width) = refl
    kind-by FieldDesc.Body = refl
    kind-by (FieldDesc.Payload modifier) = refl
    kind-by (FieldDesc.FixedScalar width value) = refl
    kind-by (FieldDesc.FixedEnum type tag) = refl
    kind-by (FieldDesc.Reserved width) = refl
    kind-by (FieldDesc.Array id width type modifier size) = refl
    kind-by (FieldDesc.Scalar id width) = refl
    kind-by (FieldDesc.Flag id) = refl
    kind-by (FieldDesc.Typedef id type) = refl

    bits-by : (p : FieldParser) (a : Annotated) → parse_bit_field d (parser_by p) a ≡ step_by (parse_bit_field c p a)
    unfolding parse_bit_field
    bits-by p a = rw (kind-by a.field.desc) (by (eqb (now % 8) 0) (ltb 64 now))
      where
        now : ℕ
        now = p.shift + static_width a.field_size

        chunk : List Bit
        chunk = p.chunk ++ (bit_of c p.shift a ∷ [])

        at : FieldParser → Bool → Bool → Step
        at q b e = elim b [
          | true ↦ elim e [ true ↦ stop Refusal.ScalarTooWide | false ↦ go (close_chunk q now chunk) ]
          | false ↦ go (open_chunk q now chunk)
        ]

        by : (b e : Bool) → at (parser_by p) b e ≡ step_by (at p b e)
        by true true = refl
        by true false = refl
        by false e = refl

    -- ---- all fields

    check-by : (p : FieldParser) → check_code d (parser_by p) ≡ step_by (check_code c p)
    unfolding check_code
    check-by p = by p.unchecked_code p.chunk
      where
        by : (cs : List Chunk) (bs : List Bit) → flushed d (parser_by p) cs bs ≡ step_by (flushed c p cs bs)
        by [] bs = refl
        by (x ∷ cs) [] = rw (blocks-append p.code (Block.checked c.options p.offset p.unchecked_code ∷ []))
        by (x ∷ cs) (b ∷ bs) = refl

    then_by : (x : Step) (f g : FieldParser → Step) → ((q : FieldParser) → f (parser_by q) ≡ step_by (g q))
        → and_then (step_by x) f ≡ step_by (and_then x g)
    then_by (go q) f g h = h q
    then_by (stop why) f g h = refl

    parse-by : (p : FieldParser) (a : Annotated) (later : List Annotated) → parse d (parser_by p) a later ≡ step_by (parse c p a later)
    unfolding parse is_bit
    parse-by p a later = by (is_bit c a.field)
      where
        at : Setting → FieldParser → Bool → Step
        at s q b = elim b [
          | true ↦ parse_bit_field s q a
          | false ↦ and_then (check_code s q) λ r. emitted r (parse_unchecked s r.shift a later)
        ]

        by : (b : Bool) → at d (parser_by p) b ≡ step_by (at c p b)
        by true = bits-by p a
        by false =
            rw (check-by p)
            (then_by (check_code c p) _ _ (λ q. rw (unchecked-by q.shift a later) (emitted-by q (parse_unchecked c q.shift a later))))

    all-by : (p : FieldParser) (xs : List Annotated) → parse_all d (parser_by p) xs ≡ step_by (parse_all c p xs)
    unfolding parse_all
    all-by p [] = refl
    all-by p (a ∷ later) = rw (parse-by p a later) (then_by (parse c p a later) _ _ (λ q. all-by q later))

  code_by : (x : Step) → code_of (step_by x) ≡ outcome_by raw_as products_as (code_of x)
  code_by (go p) = refl
  code_by (stop why) = refl

  -- the target's fields
  pub fields-by : (c : Setting) (xs : List Annotated) → lower_fields (setting_by raw_as products_as c) xs ≡ outcome_by raw_as products_as (lower_fields c xs)
  unfolding lower_fields
  fields-by c xs =
      rw (all-by c new xs, then_by c (parse_all c new xs) (done (setting_by raw_as products_as c)) (done c) (check-by c))
      (code_by (and_then (parse_all c new xs) (done c)))

  -- ---- the record: no refusal over the whole of it looks at these words

  lower_in_lem : (s : Text) (h : Head) (schema : Schema) → lower_in s (head_by raw_as products_as h) schema ≡ outcome_by raw_as products_as (lower_in s h schema)
  unfolding lower_in
  lower_in_lem s h [] = refl
  lower_in_lem s h (e ∷ es) = by (lower_in_lem s h es) (is_target s h e)
    where
      at : Head → Bool → Outcome
      at k b = elim b [ true ↦ lower_target s k e | false ↦ lower_in s k es ]

      by : lower_in s (head_by raw_as products_as h) es ≡ outcome_by raw_as products_as (lower_in s h es)
          → (b : Bool) → at (head_by raw_as products_as h) b ≡ outcome_by raw_as products_as (at h b)
      by rest true = fields-by (setting_of s h e) e.fields
      by rest false = rest

  pub record-by : (s : Text) (h : Head) (ds : List Declaration) (schema : Schema)
      → lower_record s (head_by raw_as products_as h) ds schema ≡ outcome_by raw_as products_as (lower_record s h ds schema)
  unfolding lower_record verdict no_target
  record-by s h ds schema = by (verdict s h ds schema)
    where
      at : Head → Verdict → Outcome
      at k v = elim v [ (Ok tt) ↦ lower_in s k schema | Err why ↦ refused why ]

      by : (v : Verdict) → at (head_by raw_as products_as h) v ≡ outcome_by raw_as products_as (at h v)
      by (Ok tt) = lower_in_lem s h schema
      by (Err why) = refl

  -- ---- blocks that have those words already

  module _ (InRun : Options → Type 0) (InArray : Array → Type 0)
      (run : (o : Options) → InRun o → options_by raw_as products_as o ≡ o) (array : (a : Array) → InArray a → array_by products_as a ≡ a) where
    block_same : (b : Block) → BlockHas InRun InArray b → block_by raw_as products_as b ≡ b
    block_same (Block.checked o n cs) h = ap (λ (p : Options). Block.checked p n cs) (run o h)
    block_same (Block.sized_payload x s m) h = refl
    block_same (Block.payload_up_to x n) h = refl
    block_same (Block.payload_to_end x) h = refl
    block_same (Block.array m w a) h = ap (λ (b : Array). Block.array m w b) (array a h)
    block_same (Block.padded_array p m w a) h = ap (λ (b : Array). Block.padded_array p m w b) (array a h)
    block_same (Block.optional_scalar c v order w x) h = refl
    block_same (Block.optional_open c v order w x type) h = refl
    block_same (Block.optional_closed c v order w x type) h = refl
    block_same (Block.optional_nested c v x type) h = refl
    block_same (Block.nested type x) h = refl
    block_same (Block.nested_up_to id n type x) h = refl

    pub blocks-same : (bs : List Block) → BlocksHave InRun InArray bs → blocks_by raw_as products_as bs ≡ bs
    blocks-same [] h = refl
    blocks-same (b ∷ bs) h = cc (block_same b h.0, blocks-same bs h.1)

  -- ---- what is given has them

  module _ (InRun : Options → Type 0) (InArray : Array → Type 0)
      (run : (o : Options) → InRun (options_by raw_as products_as o)) (array : (a : Array) → InArray (array_by products_as a)) where
    block-has : (b : Block) → BlockHas InRun InArray (block_by raw_as products_as b)
    block-has (Block.checked o n cs) = run o
    block-has (Block.sized_payload x s m) = tt
    block-has (Block.payload_up_to x n) = tt
    block-has (Block.payload_to_end x) = tt
    block-has (Block.array m w a) = array a
    block-has (Block.padded_array p m w a) = array a
    block-has (Block.optional_scalar c v order w x) = tt
    block-has (Block.optional_open c v order w x type) = tt
    block-has (Block.optional_closed c v order w x type) = tt
    block-has (Block.optional_nested c v x type) = tt
    block-has (Block.nested type x) = tt
    block-has (Block.nested_up_to id n type x) = tt

    pub blocks-have : (bs : List Block) → BlocksHave InRun InArray (blocks_by raw_as products_as bs)
    blocks-have [] = tt
    blocks-have (b ∷ bs) = (block-has b, blocks-have bs)
