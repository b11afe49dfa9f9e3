-- What each text in the blocks of an accepted record is: a name of the record, a variable that ends in `_`, or empty. So none is a keyword: the record's
-- own names are none by refusal 16, the variables by their ends. Read `blocks-names-by` and `blocks-names` at the end first.
-- Assumes nothing.
use Rattle.std.specs.Prelude.{Option, Some, None}
use mathlib.Core.Bool.{Bool, true, false, ◌||◌}
use mathlib.Core.List.{List, [], ◌∷◌, ◌++◌}
use mathlib.Core.Path.{◌≡◌, refl, sym, ap, ◌∙◌, subst}
use Prim.Native.Nat.{ℕ, ◌+◌, ◌%◌}
use lib.Dec.{ltb, eqb}
use Rattle.definitions.specs.Bytes.{Text, text, pick, any, part}
use Rattle.definitions.specs.Keywords.{keywords, is_keyword}
use Rattle.definitions.specs.Record.{Declaration, record_is, read_record}
use Rattle.definitions.specs.Sizes.{Row, Annotated, enum_of, has_payload_size, static_width, annotate_decl, annotate_from}
use Rattle.definitions.specs.Refusals.{record_names, is_target}
use Rattle.definitions.specs.Blocks.{Kind, Bit, Chunk, named, Elem, Array, Block}
use Rattle.definitions.specs.FieldParser.{Setting, FieldParser, Step, go, stop, and_then, new, flushed, check_code, written, member, field_name, is_cond_for, enum_kind, kind_of, bit_of, open_chunk, close_chunk, parse_bit_field, Emit, appends, silent, refuses, on_boundary, on_trailing, get_trailing_size, typedef_by_size, parse_typedef_field, optional_typedef, parse_optional_field, payload_name, payload_by_size, parse_payload_field_lite, typed_elem, elem_of, type_name, with_padding, parse_array_field, parse_other, is_bit, parse_unchecked, emitted, parse, parse_all, done, Outcome, refused, accepted, code_of, lower_fields}
use Rattle.definitions.specs.declared.EnumKind.{EnumKind}
use Rattle.definitions.specs.declared.Part.{Part}
use Rattle.definitions.specs.declared.Modifier.{Modifier}
use Rattle.definitions.specs.declared.Arrays.{Arrays}
use Rattle.definitions.specs.declared.EndiannessValue.{EndiannessValue}
use Rattle.definitions.specs.declared.FieldDesc.{FieldDesc}
use Rattle.definitions.specs.declared.Condition.{Condition}
use Rattle.definitions.specs.declared.Size.{Size}
use Rattle.definitions.specs.declared.Head.{Head}
use Rattle.definitions.specs.declared.Refusal.{Refusal}
use Rattle.definitions.specs.Answer.{answer}
use Rattle.lengths.proofs.Booleans.{impossible}
use Rattle.lengths.proofs.Names.{MaybeIs, DescIs, CondIs, FieldsAre, DeclarationsAre}
use Rattle.meaning.specs.Runs.{Target, first_target, target_in, setting}
use Rattle.meaning.proofs.Keywords.{NotKeyword, named-free, names-are, all-usable}
use Rattle.meaning.proofs.Entries.{plain, has-record, no-keyword, has-grounds, same_target}

module _ (P : Text → Type 0) where
  -- ---- the texts of a block

  abbrev pub KindNames : Kind → Type 0
  KindNames (Kind.number x) = P x
  KindNames (Kind.condition x) = P x
  KindNames (Kind.open_enum x type) = P x × P type
  KindNames (Kind.closed_enum x type) = P x × P type
  KindNames (Kind.fixed_scalar n) = Unit {0}
  KindNames (Kind.fixed_enum type tag) = P type × P tag
  KindNames Kind.reserved = Unit {0}

  abbrev pub BitsNames : List Bit → Type 0
  BitsNames [] = Unit {0}
  BitsNames (b ∷ bs) = KindNames b.kind × BitsNames bs

  abbrev pub ChunksNames : List Chunk → Type 0
  ChunksNames [] = Unit {0}
  ChunksNames (c ∷ cs) = BitsNames c.fields × ChunksNames cs

  abbrev pub ElemNames : Elem → Type 0
  ElemNames (Elem.scalar order w) = Unit {0}
  ElemNames (Elem.open_enum type order w) = P type
  ElemNames (Elem.closed_enum type order w) = P type
  ElemNames (Elem.parsed type) = P type

  -- the variables of an array end in `_`, in `_span` or in `_start_size`
  abbrev pub ArrayNames : Array → Type 0
  ArrayNames a = P a.type × ElemNames a.elem

  abbrev pub BlockNames : Block → Type 0
  BlockNames (Block.checked o n cs) = ChunksNames cs
  BlockNames (Block.sized_payload x s m) = P x × P s
  BlockNames (Block.payload_up_to x n) = P x
  BlockNames (Block.payload_to_end x) = P x
  BlockNames (Block.array m w a) = ArrayNames a
  BlockNames (Block.padded_array p m w a) = ArrayNames a
  BlockNames (Block.optional_scalar c v order w x) = P c × P x
  BlockNames (Block.optional_open c v order w x type) = P c × P x × P type
  BlockNames (Block.optional_closed c v order w x type) = P c × P x × P type
  BlockNames (Block.optional_nested c v x type) = P c × P x × P type
  BlockNames (Block.nested type x) = P type × P x
  BlockNames (Block.nested_up_to id n type x) = P type × P x

  abbrev pub BlocksNames : List Block → Type 0
  BlocksNames [] = Unit {0}
  BlocksNames (b ∷ bs) = BlockNames b × BlocksNames bs

  -- ---- the parser's state

  bits-snoc : (bs : List Bit) (b : Bit) → BitsNames bs → KindNames b.kind → BitsNames (bs ++ (b ∷ []))
  bits-snoc [] b h k = (k, tt)
  bits-snoc (d ∷ bs) b h k = (h.0, bits-snoc bs b h.1 k)

  chunks-snoc : (cs : List Chunk) (c : Chunk) → ChunksNames cs → BitsNames c.fields → ChunksNames (cs ++ (c ∷ []))
  chunks-snoc [] c h k = (k, tt)
  chunks-snoc (d ∷ cs) c h k = (h.0, chunks-snoc cs c h.1 k)

  blocks-snoc : (bs : List Block) (b : Block) → BlocksNames bs → BlockNames b → BlocksNames (bs ++ (b ∷ []))
  blocks-snoc [] b h k = (k, tt)
  blocks-snoc (d ∷ bs) b h k = (h.0, blocks-snoc bs b h.1 k)

  -- what was emitted, what is pending and what is open
  record Free (p : FieldParser) : Type 0 where
    code : BlocksNames p.code
    pending : ChunksNames p.unchecked_code
    opened : BitsNames p.chunk

  abbrev FreeStep : Step → Type 0
  FreeStep (go p) = Free p
  FreeStep (stop why) = Unit {0}

  then-free : (s : Step) (f : FieldParser → Step) → FreeStep s → ((q : FieldParser) → Free q → FreeStep (f q)) → FreeStep (and_then s f)
  then-free (go p) f h k = k p h
  then-free (stop why) f h k = tt

  check-free : (c : Setting) (p : FieldParser) → Free p → FreeStep (check_code c p)
  unfolding check_code
  check-free c p g = by p.unchecked_code p.chunk
    where
      by : (cs : List Chunk) (bs : List Bit) → FreeStep (flushed c p cs bs)
      by [] bs = g
      by (d ∷ ds) [] =
          record {
            code = blocks-snoc p.code (Block.checked c.options p.offset p.unchecked_code) g.code g.pending;
            pending = tt;
            opened = g.opened;
          }
      by (d ∷ ds) (b ∷ bs) = tt

  -- ---- bit fields

  -- where P holds of what ends in `_`, of the type of an element that has a width, which is empty, and of each name of the target's fields
  module _ (ended : (m : Arrays) (id end : Text) → P (named m id (end ++ text "_"))) (empty : P []) (c : Setting) where
    abbrev Good : Part → Type 0
    Good n = P (part c.source n)

    pick-kind : (b : Bool) (k l : Kind) → KindNames k → KindNames l → KindNames (pick b k l)
    pick-kind true k l h m = h
    pick-kind false k l h m = m

    member-free : (id : Part) → P (member c id)
    member-free id = ended c.options.arrays (written c id) []

    enum-names : (id type : Part) (e : Option EnumKind) → Good type → KindNames (enum_kind (member c id) (written c type) e)
    enum-names id type (Some kind) k =
        pick-kind (kind.is_open || kind.is_complete) (Kind.open_enum (member c id) (written c type)) (Kind.closed_enum (member c id) (written c type))
        (member-free id, k) (member-free id, k)
    enum-names id type None k = member-free id

    kind-names : (d : FieldDesc) → DescIs Good d → KindNames (kind_of c d)
    unfolding kind_of
    kind-names (FieldDesc.Checksum of) h = tt
    kind-names (FieldDesc.Padding size) h = tt
    kind-names (FieldDesc.Size of width) h = ended c.options.arrays (field_name c of) (text "_size")
    kind-names (FieldDesc.Count of width) h = ended c.options.arrays (written c of) (text "_count")
    kind-names (FieldDesc.ElementSize of width) h = ended c.options.arrays (field_name c of) (text "_element_size")
    kind-names FieldDesc.Body h = tt
    kind-names (FieldDesc.Payload modifier) h = tt
    kind-names (FieldDesc.FixedScalar width value) h = tt
    kind-names (FieldDesc.FixedEnum type tag) h = h
    kind-names (FieldDesc.Reserved width) h = tt
    kind-names (FieldDesc.Array id width type modifier size) h = tt
    kind-names (FieldDesc.Scalar id width) h =
        pick-kind (is_cond_for c id) (Kind.condition (written c id)) (Kind.number (member c id)) h (member-free id)
    kind-names (FieldDesc.Flag id) h = h
    kind-names (FieldDesc.Typedef id type) h = enum-names id type (enum_of c.source c.scope type) h.1

    bit-free : (p : FieldParser) (a : Annotated) → DescIs Good a.field.desc → Free p → FreeStep (parse_bit_field c p a)
    unfolding parse_bit_field
    bit-free p a h g = by (eqb (now % 8) 0) (ltb 64 now)
      where
        now : ℕ
        now = p.shift + static_width a.field_size

        chunk : List Bit
        chunk = p.chunk ++ (bit_of c p.shift a ∷ [])

        names : BitsNames chunk
        names = bits-snoc p.chunk (bit_of c p.shift a) g.opened (kind-names a.field.desc h)

        by : (b d : Bool) → FreeStep (elim b [
          | true ↦ elim d [ true ↦ stop Refusal.ScalarTooWide | false ↦ go (close_chunk p now chunk) ]
          | false ↦ go (open_chunk p now chunk)
        ])
        by true true = tt
        by true false =
            record {
              code = g.code;
              pending = chunks-snoc p.unchecked_code (record { nr = p.chunk_nr; raw_nr = p.raw_nr; fields = chunk }) g.pending names;
              opened = tt;
            }
        by false d = record { code = g.code; pending = g.pending; opened = names }

    -- ---- fields that are no bit fields

    abbrev EmitNames : Emit → Type 0
    EmitNames (appends b) = BlockNames b
    EmitNames silent = Unit {0}
    EmitNames (refuses why) = Unit {0}

    boundary-names : (shift : ℕ) (e : Emit) → EmitNames e → EmitNames (on_boundary shift e)
    boundary-names shift e h = by (eqb shift 0)
      where
        by : (b : Bool) → EmitNames (elim b [ true ↦ e | false ↦ refuses Refusal.OctetBoundary ])
        by true = h
        by false = tt

    trailing-names : (m : Option ℕ) (f : ℕ → Emit) → ((n : ℕ) → EmitNames (f n)) → EmitNames (on_trailing m f)
    trailing-names None f h = tt
    trailing-names (Some n) f h = h n

    pick-block : (b : Bool) (x y : Block) → BlockNames x → BlockNames y → BlockNames (pick b x y)
    pick-block true x y h k = h
    pick-block false x y h k = k

    typedef-names : (id type : Part) (later : List Annotated) (z : Size) → Good type → EmitNames (typedef_by_size c id type later z)
    typedef-names id type later (Size.Static n) k = (k, member-free id)
    typedef-names id type later Size.Dynamic k = (k, member-free id)
    typedef-names id type later Size.Unknown k =
        trailing-names (get_trailing_size c.options.trailing later) _ (λ n. pick-block (ltb 0 n) _ _ (k, member-free id) (k, member-free id))

    optional-enum : (cond : Part) (v : ℕ) (id type : Part) (e : Option EnumKind) → Good cond → Good type → BlockNames (optional_typedef c cond v id type e)
    optional-enum cond v id type (Some kind) h k = pick-block kind.is_open _ _ (h, member-free id, k) (h, member-free id, k)
    optional-enum cond v id type None h k = (h, member-free id, k)

    optional-names : (cond : Part) (v : ℕ) (d : FieldDesc) → Good cond → DescIs Good d → EmitNames (parse_optional_field c cond v d)
    unfolding parse_optional_field
    optional-names cond v (FieldDesc.Checksum of) h k = tt
    optional-names cond v (FieldDesc.Padding size) h k = tt
    optional-names cond v (FieldDesc.Size of width) h k = tt
    optional-names cond v (FieldDesc.Count of width) h k = tt
    optional-names cond v (FieldDesc.ElementSize of width) h k = tt
    optional-names cond v FieldDesc.Body h k = tt
    optional-names cond v (FieldDesc.Payload modifier) h k = tt
    optional-names cond v (FieldDesc.FixedScalar width fixed) h k = tt
    optional-names cond v (FieldDesc.FixedEnum type tag) h k = tt
    optional-names cond v (FieldDesc.Reserved width) h k = tt
    optional-names cond v (FieldDesc.Array id width type modifier size) h k = tt
    optional-names cond v (FieldDesc.Scalar id width) h k = (h, member-free id)
    optional-names cond v (FieldDesc.Flag id) h k = tt
    optional-names cond v (FieldDesc.Typedef id type) h k = optional-enum cond v id type (enum_of c.source c.scope type) h k.1

    payload-free : P (payload_name c (text "_"))
    payload-free = ended c.options.arrays (text "payload") []

    sized-names : (m : Modifier) (later : List Annotated) (b : Bool) → EmitNames (payload_by_size c m later b)
    sized-names m later true = (payload-free, ended c.options.arrays (text "payload") (text "_size"))
    sized-names m later false = trailing-names (get_trailing_size c.options.trailing later) _ (λ n. pick-block (ltb 0 n) _ _ payload-free payload-free)

    payload-names : (shift : ℕ) (m : Modifier) (later : List Annotated) → EmitNames (parse_payload_field_lite c shift m later)
    unfolding parse_payload_field_lite
    payload-names shift m later = boundary-names shift _ (sized-names m later (has_payload_size c.source c.fields))

    type-free : (type : Option Part) → MaybeIs Good type → P (type_name c type)
    type-free None k = empty
    type-free (Some type) k = k

    typed-names : (order : EndiannessValue) (type : Text) (e : Option EnumKind) → P type → ElemNames (typed_elem order type e)
    typed-names order type (Some kind) k = marked kind.is_open
      where
        marked : (b : Bool) → ElemNames (pick b (Elem.open_enum type order kind.width) (Elem.closed_enum type order kind.width))
        marked true = k
        marked false = k
    typed-names order type None k = k

    elem-names : (width : Option ℕ) (type : Option Part) → MaybeIs Good type → ElemNames (elem_of c width type)
    elem-names (Some w) type k = tt
    elem-names None (Some type) k = typed-names c.options.endianness (written c type) (enum_of c.source c.scope type) k
    elem-names None None k = empty

    padding-names : (p : Option ℕ) (m : Modifier) (w : ℕ) (a : Array) → ArrayNames a → BlockNames (with_padding p m w a)
    padding-names None m w a h = h
    padding-names (Some n) m w a h = h

    other-names : (shift : ℕ) (a : Annotated) (later : List Annotated) (d : FieldDesc) → DescIs Good d → EmitNames (parse_other c shift a later d)
    unfolding parse_other parse_array_field parse_typedef_field
    other-names shift a later (FieldDesc.Checksum of) h = tt
    other-names shift a later (FieldDesc.Padding size) h = tt
    other-names shift a later (FieldDesc.Size of width) h = tt
    other-names shift a later (FieldDesc.Count of width) h = tt
    other-names shift a later (FieldDesc.ElementSize of width) h = tt
    other-names shift a later FieldDesc.Body h = payload-names shift Modifier.None later
    other-names shift a later (FieldDesc.Payload modifier) h = payload-names shift modifier later
    other-names shift a later (FieldDesc.FixedScalar width value) h = tt
    other-names shift a later (FieldDesc.FixedEnum type tag) h = tt
    other-names shift a later (FieldDesc.Reserved width) h = tt
    other-names shift a later (FieldDesc.Array id width type modifier size) h =
        padding-names a.padded_size modifier _ _ (type-free type h.1, elem-names width type h.1)
    other-names shift a later (FieldDesc.Scalar id width) h = tt
    other-names shift a later (FieldDesc.Flag id) h = tt
    other-names shift a later (FieldDesc.Typedef id type) h = boundary-names shift _ (typedef-names id type later a.field_size h.1)

    unchecked-names : (shift : ℕ) (a : Annotated) (later : List Annotated) → DescIs Good a.field.desc → CondIs Good a.field.cond
        → EmitNames (parse_unchecked c shift a later)
    unfolding parse_unchecked
    unchecked-names shift a later h k = by a.field.cond k
      where
        by : (d : Option Condition) → CondIs Good d → EmitNames (elim d [
          | None ↦ parse_other c shift a later a.field.desc
          | Some cond ↦ parse_optional_field c cond.id cond.value a.field.desc
        ])
        by None g = other-names shift a later a.field.desc h
        by (Some cond) g = optional-names cond.id cond.value a.field.desc g h

    emitted-free : (p : FieldParser) (e : Emit) → Free p → EmitNames e → FreeStep (emitted p e)
    emitted-free p (appends b) g h = record { code = blocks-snoc p.code b g.code h; pending = g.pending; opened = g.opened }
    emitted-free p silent g h = g
    emitted-free p (refuses why) g h = tt

    -- ---- all fields

    parse-free : (p : FieldParser) (a : Annotated) (later : List Annotated) → DescIs Good a.field.desc → CondIs Good a.field.cond → Free p
        → FreeStep (parse c p a later)
    unfolding parse
    parse-free p a later h k g = by (is_bit c a.field)
      where
        by : (b : Bool) → FreeStep (elim b [
          | true ↦ parse_bit_field c p a
          | false ↦ and_then (check_code c p) λ q. emitted q (parse_unchecked c q.shift a later)
        ])
        by true = bit-free p a h g
        by false =
            then-free (check_code c p) _ (check-free c p g)
            (λ q f. emitted-free q (parse_unchecked c q.shift a later) f (unchecked-names q.shift a later h k))

    all-free : (p : FieldParser) (xs : List Annotated) → FieldsAre Good (plain xs) → Free p → FreeStep (parse_all c p xs)
    unfolding parse_all
    all-free p [] h g = g
    all-free p (a ∷ later) h g =
        then-free (parse c p a later) _ (parse-free p a later h.0.0 h.0.1 g) (λ q k. all-free q later h.1 k)

    abbrev OutcomeNames : Outcome → Type 0
    OutcomeNames (refused why) = Unit {0}
    OutcomeNames (accepted bs) = BlocksNames bs

    code-names : (s : Step) → FreeStep s → OutcomeNames (code_of s)
    code-names (go p) g = g.code
    code-names (stop why) g = tt

    lower-names : (xs : List Annotated) → FieldsAre Good (plain xs) → OutcomeNames (lower_fields c xs)
    unfolding lower_fields
    lower-names xs h =
        code-names (and_then (parse_all c new xs) (done c))
        (then-free (parse_all c new xs) (done c) (all-free new xs h (record { code = tt; pending = tt; opened = tt })) (λ q g. check-free c q g))

-- ---- the answer

-- the names of the target's fields are names of the record
target-names : (Q : Part → Type 0) (s : Text) (h : Head) (rows : List Row) (ds : List Declaration) → DeclarationsAre Q ds
    → (t : Target) → first_target s h (annotate_from s rows ds) ≡ Some t → FieldsAre Q t.entry.declaration.fields
unfolding first_target annotate_from
target-names Q s h rows [] k t e = impossible (cc)
target-names Q s h rows (d ∷ ds) k t e =
    by (target-names Q s h (rows ++ ((annotate_decl s rows d).row ∷ [])) ds k.1 t) (is_target s h (annotate_decl s rows d)) e
  where
    by : (first_target s h (annotate_from s (rows ++ ((annotate_decl s rows d).row ∷ [])) ds) ≡ Some t → FieldsAre Q t.entry.declaration.fields)
        → (b : Bool)
        → (elim b as (λ _. Option Target) [
          | true ↦ Some (record { head = h; entry = annotate_decl s rows d })
          | false ↦ first_target s h (annotate_from s (rows ++ ((annotate_decl s rows d).row ∷ [])) ds)
        ]) ≡ Some t
        → FieldsAre Q t.entry.declaration.fields
    by more true f = subst (λ (u : Target). FieldsAre Q u.entry.declaration.fields) (same_target f) k.0
    by more false f = more f

-- so what holds of each name of the record holds of each text of its blocks
module _ (P : Text → Type 0) (ended : (m : Arrays) (id end : Text) → P (named m id (end ++ text "_"))) (empty : P [])
    (s : Text) (bs : List Block) (e : answer s ≡ accepted bs) (h : Head) (ds : List Declaration) (r : read_record s ≡ record_is h ds) where
  all-names : DeclarationsAre (λ n. P (part s n)) ds → BlocksNames P bs
  all-names k =
      let g = has-grounds s bs e in
      let names : FieldsAre (λ n. P (part s n)) g.0.entry.declaration.fields =
      target-names (λ n. P (part s n)) s h [] ds k g.0 (ap (target_in s) (sym r) ∙ g.1.is-target) in
      subst (OutcomeNames P ended empty (setting s g.0)) g.1.lowered.lowers
      (lower-names P ended empty (setting s g.0) g.0.entry.fields (subst (FieldsAre (λ n. P (part s n))) (sym g.1.lowered.ok.fields-are) names))

-- by a test that no name of the record passes
pub blocks-names-by : (P : Text → Type 0) (f : Text → Bool) → ((t : Text) → f t ≡ false → P t)
    → ((m : Arrays) (id end : Text) → P (named m id (end ++ text "_"))) → P []
    → (s : Text) (bs : List Block) → answer s ≡ accepted bs
    → (h : Head) (ds : List Declaration) → read_record s ≡ record_is h ds → any (λ (n : Part). f (part s n)) (record_names h ds) ≡ false
    → BlocksNames P bs
blocks-names-by P f holds ended empty s bs e h ds r k =
    all-names P ended empty s bs e h ds r
    (names-are s h ds r (λ n. f (part s n)) (λ n. P (part s n)) (λ n g _. holds (part s n) g) k)

-- no keyword
empty-free : NotKeyword []
unfolding keywords is_keyword
empty-free = record { whole = refl; behind = refl }

pub blocks-names : (s : Text) (bs : List Block) → answer s ≡ accepted bs → BlocksNames NotKeyword bs
blocks-names s bs e = by (has-record s bs e)
  where
    by : (h : Head) × (ds : List Declaration) × (read_record s ≡ record_is h ds) → BlocksNames NotKeyword bs
    by (h, ds, r) =
        all-names NotKeyword named-free empty-free s bs e h ds r
        (all-usable s h ds r (no-keyword s bs e h ds r))
