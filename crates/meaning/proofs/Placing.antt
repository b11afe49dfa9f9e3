-- Where the block of a payload without a size field stands in an answer: the code of the parser only grows, and the payload's block counts what the
-- fields behind it come to.
-- Assumes nothing.
use Rattle.std.specs.Prelude.{Option, Some, None}
use mathlib.Core.Path.{◌≡◌, refl, sym, ap, ◌∙◌, subst}
use mathlib.Core.Bool.{Bool, true, false}
use mathlib.Core.List.{List, [], ◌∷◌, ◌++◌, append_assoc, append-nil}
use Prim.Native.Nat.{ℕ, ◌+◌, ◌%◌}
use native.Mathlib.Omega.{arith}
use lib.Dec.{ltb, eqb}
use Rattle.definitions.specs.Bytes.{text, pick}
use Rattle.definitions.specs.Sizes.{Annotated, is_payload, has_payload_size, is_bitfield, static_width, outer_size}
use Rattle.definitions.specs.Blocks.{Bit, Chunk, Block}
use Rattle.definitions.specs.FieldParser.{Setting, FieldParser, Step, go, stop, and_then, new, flushed, check_code, bit_of, open_chunk, close_chunk, parse_bit_field, Emit, appends, silent, refuses, is_array_field, later_size, trailing_from, get_trailing_size, on_trailing, parse_optional_field, payload_name, unsized_payload, payload_by_size, parse_payload_field_lite, parse_other, is_bit, parse_unchecked, emitted, parse, parse_all, done, Outcome, accepted, code_of, lower_fields}
use Rattle.definitions.specs.declared.Modifier.{Modifier}
use Rattle.definitions.specs.declared.Trailing.{Trailing}
use Rattle.definitions.specs.declared.FieldDesc.{FieldDesc}
use Rattle.definitions.specs.declared.Condition.{Condition}
use Rattle.definitions.specs.declared.Field.{Field}
use Rattle.definitions.specs.declared.Size.{Size}
use Rattle.definitions.specs.declared.Refusal.{Refusal}
use Rattle.lengths.proofs.Booleans.{impossible}
use Rattle.meaning.specs.Payloads.{padded_bits, HaveBits}

-- ---- the code only grows

-- by blocks that are P
abbrev pub GrownBy : (List Block → Type 0) → List Block → Step → Type 0
GrownBy P bs (go q) = (more : List Block) × (q.code ≡ bs ++ more) × P more
GrownBy P bs (stop why) = Unit {0}

-- by any blocks
abbrev pub AnyBlocks : List Block → Type 0
AnyBlocks more = Unit {0}

abbrev pub Grown : List Block → Step → Type 0
Grown = GrownBy AnyBlocks

still : (bs : List Block) → (more : List Block) × (bs ≡ bs ++ more) × AnyBlocks more
still bs = ([], sym (append-nil bs), tt)

module _ (P Q R : List Block → Type 0) (join : (a b : List Block) → P a → Q b → R (a ++ b)) where
  pub then_by : (bs : List Block) (s : Step) (f : FieldParser → Step) → GrownBy P bs s → ((q : FieldParser) → GrownBy Q q.code (f q))
      → GrownBy R bs (and_then s f)
  then_by bs (stop why) f h k = tt
  then_by bs (go q) f h k = further (f q) (k q)
    where
      further : (s : Step) → GrownBy Q q.code s → GrownBy R bs s
      further (stop why) g = tt
      further (go r) g = (
        h.0 ++ g.0,
        g.1 ∙ ap (λ (l : List Block). l ++ g.0) h.1 ∙ append_assoc bs h.0 g.0,
        join h.0 g.0 h.2 g.2,
      )

then-grown : (bs : List Block) (s : Step) (f : FieldParser → Step) → Grown bs s → ((q : FieldParser) → Grown q.code (f q)) → Grown bs (and_then s f)
then-grown bs s f h k = then_by AnyBlocks AnyBlocks AnyBlocks (λ a b _ _. tt) bs s f h k

flushed-grown : (c : Setting) (p : FieldParser) (cs : List Chunk) (bs : List Bit) → Grown p.code (flushed c p cs bs)
flushed-grown c p [] bs = still p.code
flushed-grown c p (d ∷ ds) [] = (_, refl, tt)
flushed-grown c p (d ∷ ds) (b ∷ bs) = tt

pub check-grown : (c : Setting) (p : FieldParser) → Grown p.code (check_code c p)
unfolding check_code
check-grown c p = flushed-grown c p p.unchecked_code p.chunk

module _ (p : FieldParser) (shift : ℕ) (chunk : List Bit) where
  closed-grown : (b : Bool) → Grown p.code (elim b [ true ↦ stop Refusal.ScalarTooWide | false ↦ go (close_chunk p shift chunk) ])
  closed-grown true = tt
  closed-grown false = still p.code

  pushed-grown : (b : Bool)
      → Grown p.code (elim b [
        | true ↦ elim (ltb 64 shift) [ true ↦ stop Refusal.ScalarTooWide | false ↦ go (close_chunk p shift chunk) ]
        | false ↦ go (open_chunk p shift chunk)
      ])
  pushed-grown true = closed-grown (ltb 64 shift)
  pushed-grown false = still p.code

bit-grown : (c : Setting) (p : FieldParser) (a : Annotated) → Grown p.code (parse_bit_field c p a)
unfolding parse_bit_field
bit-grown c p a =
    pushed-grown p (p.shift + static_width a.field_size) (p.chunk ++ (bit_of c p.shift a ∷ []))
    (eqb ((p.shift + static_width a.field_size) % 8) 0)

emitted-grown : (q : FieldParser) (e : Emit) → Grown q.code (emitted q e)
emitted-grown q (appends b) = (b ∷ [], refl, tt)
emitted-grown q silent = still q.code
emitted-grown q (refuses why) = tt

pub parse-grown : (c : Setting) (p : FieldParser) (a : Annotated) (later : List Annotated) → Grown p.code (parse c p a later)
unfolding parse
parse-grown c p a later = by (is_bit c a.field)
  where
    by : (b : Bool)
        → Grown p.code (elim b [
          | true ↦ parse_bit_field c p a
          | false ↦ and_then (check_code c p) λ q. emitted q (parse_unchecked c q.shift a later)
        ])
    by true = bit-grown c p a
    by false = then-grown p.code (check_code c p) _ (check-grown c p) (λ q. emitted-grown q (parse_unchecked c q.shift a later))

pub all_grown : (c : Setting) (p : FieldParser) (xs : List Annotated) → Grown p.code (parse_all c p xs)
unfolding parse_all
all_grown c p [] = still p.code
all_grown c p (a ∷ later) = then-grown p.code (parse c p a later) _ (parse-grown c p a later) (λ q. all_grown c q later)

-- ---- the payload's block

-- on from a parser, over these fields, to the end
abbrev pub lower_from : Setting → FieldParser → List Annotated → Outcome
lower_from c p xs = code_of (and_then (parse_all c p xs) (done c))

-- a payload is `Body` or `Payload`
payload-by : (P : FieldDesc → Type 0) → P FieldDesc.Body → ((m : Modifier) → P (FieldDesc.Payload m)) → (d : FieldDesc) → is_payload d ≡ true → P d
payload-by P h k (FieldDesc.Checksum of) e = impossible (cc)
payload-by P h k (FieldDesc.Padding size) e = impossible (cc)
payload-by P h k (FieldDesc.Size of width) e = impossible (cc)
payload-by P h k (FieldDesc.Count of width) e = impossible (cc)
payload-by P h k (FieldDesc.ElementSize of width) e = impossible (cc)
payload-by P h k FieldDesc.Body e = h
payload-by P h k (FieldDesc.Payload modifier) e = k modifier
payload-by P h k (FieldDesc.FixedScalar width value) e = impossible (cc)
payload-by P h k (FieldDesc.FixedEnum type tag) e = impossible (cc)
payload-by P h k (FieldDesc.Reserved width) e = impossible (cc)
payload-by P h k (FieldDesc.Array id width type modifier size) e = impossible (cc)
payload-by P h k (FieldDesc.Scalar id width) e = impossible (cc)
payload-by P h k (FieldDesc.Flag id) e = impossible (cc)
payload-by P h k (FieldDesc.Typedef id type) e = impossible (cc)

no-bit : (c : Setting) (f : Field) → is_payload f.desc ≡ true → is_bit c f ≡ false
unfolding is_bit
no-bit c f e = by f.cond
  where
    by : (k : Option Condition) → elim k as (λ _. Bool) [ None ↦ is_bitfield c.source c.scope f.desc | Some cond ↦ false ] ≡ false
    by None = payload-by (λ d. is_bitfield c.source c.scope d ≡ false) refl (λ m. refl) f.desc e
    by (Some cond) = refl

module _ (c : Setting) (later : List Annotated) where
  -- behind the payload: its block is the last, and counts what the later fields come to
  pub record Placed (q : FieldParser) : Type 0 where
    pub bits : ℕ
    pub counted : get_trailing_size c.options.trailing later ≡ Some bits
    pub pre : List Block
    pub code_is : q.code ≡ pre ++ (unsized_payload (payload_name c (text "_")) bits ∷ [])

  abbrev PlacedStep : Step → Type 0
  PlacedStep (go q) = Placed q
  PlacedStep (stop why) = Unit {0}

  behind-placed : (s : Step) (f : FieldParser → Step) → ((q : FieldParser) → PlacedStep (f q)) → PlacedStep (and_then s f)
  behind-placed (stop why) f k = tt
  behind-placed (go q) f k = k q

  -- the block, or a refusal
  abbrev IsPayload : Emit → Type 0
  IsPayload (appends b) =
      (bits : ℕ) × (get_trailing_size c.options.trailing later ≡ Some bits) × (b ≡ unsized_payload (payload_name c (text "_")) bits)
  IsPayload silent = ⊥
  IsPayload (refuses why) = Unit {0}

  emitted-placed : (q : FieldParser) (e : Emit) → IsPayload e → PlacedStep (emitted q e)
  emitted-placed q (appends b) h =
      record { bits = h.0; counted = h.1; pre = q.code; code_is = ap (λ (d : Block). q.code ++ (d ∷ [])) h.2 }
  emitted-placed q silent h = absurd h
  emitted-placed q (refuses why) h = tt

  -- blocks whose lowering came behind the payload, and went on from there
  pub record LoweredBehind (bs : List Block) : Type 0 where
    pub parser : FieldParser
    pub placed : Placed parser
    pub goes_on : lower_from c parser later ≡ accepted bs
    pub post : List Block
    pub blocks_are : bs ≡ placed.pre ++ (unsized_payload (payload_name c (text "_")) placed.bits ∷ post)

  lowered-behind : (bs : List Block) (q : FieldParser) → Placed q → lower_from c q later ≡ accepted bs → LoweredBehind bs
  lowered-behind bs q h e =
      by (and_then (parse_all c q later) (done c)) (then-grown q.code (parse_all c q later) (done c) (all_grown c q later) (λ r. check-grown c r)) e
    where
      by : (s : Step) → Grown q.code s → code_of s ≡ accepted bs → LoweredBehind bs
      by (stop why) g f = impossible (cc)
      by (go r) g f =
          let same : bs ≡ r.code = cc in
          record {
            parser = q;
            placed = h;
            goes_on = e;
            post = g.0;
            blocks_are = same ∙ g.1 ∙ ap (λ (l : List Block). l ++ g.0) h.code_is ∙ append_assoc h.pre _ g.0;
          }

  module _ (unsized : has_payload_size c.source c.fields ≡ false) where
    lite-payload : (shift : ℕ) (m : Modifier) → IsPayload (parse_payload_field_lite c shift m later)
    unfolding parse_payload_field_lite
    lite-payload shift m = bounded (eqb shift 0)
      where
        trailing : (n : Option ℕ) → get_trailing_size c.options.trailing later ≡ n
            → IsPayload (on_trailing n λ bits. appends (unsized_payload (payload_name c (text "_")) bits))
        trailing None e = tt
        trailing (Some bits) e = (bits, e, refl)

        bounded : (b : Bool)
            → IsPayload (elim b [
              | true ↦ payload_by_size c m later (has_payload_size c.source c.fields)
              | false ↦ refuses Refusal.OctetBoundary
            ])
        bounded true = rw unsized (trailing (get_trailing_size c.options.trailing later) refl)
        bounded false = tt

    unchecked-payload : (shift : ℕ) (a : Annotated) → is_payload a.field.desc ≡ true → IsPayload (parse_unchecked c shift a later)
    unfolding parse_unchecked parse_other parse_optional_field
    unchecked-payload shift a e = by a.field.cond
      where
        by : (k : Option Condition)
            → IsPayload (elim k [
              | None ↦ parse_other c shift a later a.field.desc
              | Some cond ↦ parse_optional_field c cond.id cond.value a.field.desc
            ])
        by None =
            payload-by (λ d. IsPayload (parse_other c shift a later d)) (lite-payload shift Modifier.None) (λ m. lite-payload shift m)
            a.field.desc e
        by (Some cond) = payload-by (λ d. IsPayload (parse_optional_field c cond.id cond.value d)) tt (λ m. tt) a.field.desc e

    payload-placed : (p : FieldParser) (a : Annotated) → is_payload a.field.desc ≡ true → PlacedStep (parse c p a later)
    unfolding parse
    payload-placed p a e =
        subst
        (λ (b : Bool).
        PlacedStep (elim b [
          | true ↦ parse_bit_field c p a
          | false ↦ and_then (check_code c p) λ q. emitted q (parse_unchecked c q.shift a later)
        ]))
        (sym (no-bit c a.field e))
        (behind-placed (check_code c p) _ (λ q. emitted-placed q (parse_unchecked c q.shift a later) (unchecked-payload q.shift a e)))

    all_placed : (bs : List Block) (p : FieldParser) (before : List Annotated) (a : Annotated) → is_payload a.field.desc ≡ true
        → lower_from c p (before ++ (a ∷ later)) ≡ accepted bs → LoweredBehind bs
    unfolding parse_all
    all_placed bs p [] a e f = by (parse c p a later) (payload-placed p a e) f
      where
        by : (s : Step) → PlacedStep s → code_of (and_then (and_then s λ q. parse_all c q later) (done c)) ≡ accepted bs → LoweredBehind bs
        by (stop why) h g = impossible (cc)
        by (go q) h g = lowered-behind bs q h g
    all_placed bs p (b ∷ before) a e f =
        by (λ q g. all_placed bs q before a e g) (parse c p b (before ++ (a ∷ later))) f
      where
        by : ((q : FieldParser) → lower_from c q (before ++ (a ∷ later)) ≡ accepted bs → LoweredBehind bs)
            → (s : Step) → code_of (and_then (and_then s λ q. parse_all c q (before ++ (a ∷ later))) (done c)) ≡ accepted bs → LoweredBehind bs
        by rec (stop why) g = impossible (cc)
        by rec (go q) g = rec q g

    pub payload-lowered : (bs : List Block) (before : List Annotated) (a : Annotated) → is_payload a.field.desc ≡ true
        → lower_fields c (before ++ (a ∷ later)) ≡ accepted bs → LoweredBehind bs
    unfolding lower_fields
    payload-lowered bs before a e f = all_placed bs new before a e f

-- ---- what the later fields count

-- so many bits behind `sum`
abbrev Behind : ℕ → ℕ → List Annotated → Type 0
Behind sum n later = (k : ℕ) × HaveBits later k × (sum + k ≡ n)

module _ (sum n : ℕ) (a : Annotated) (later : List Annotated)
    (rest : (m : ℕ) → trailing_from Trailing.Padded (sum + m) later ≡ Some n → Behind (sum + m) n later) where
  abbrev on_size : Size → Option ℕ
  on_size z = elim z as (λ _. Option ℕ) [
    | Size.Static bits ↦ trailing_from Trailing.Padded (sum + bits) later
    | Size.Dynamic ↦ None
    | Size.Unknown ↦ None
  ]

  static-behind : padded_bits a ≡ None → (z : Size) → a.field_size ≡ z → on_size z ≡ Some n → Behind sum n (a ∷ later)
  static-behind p (Size.Static m) z e =
      let h = rest m e in
      (m + h.0, HaveBits.static p z h.1, omega (arith, h.2))
  static-behind p Size.Dynamic z e = impossible (cc)
  static-behind p Size.Unknown z e = impossible (cc)

  padded-is : (b : Bool) → is_array_field a.field ≡ b → padded_bits a ≡ pick b a.padded_size None
  padded-is b f = ap (λ (d : Bool). pick d a.padded_size None) f

  field-behind : (b : Bool) → is_array_field a.field ≡ b → (m : Option ℕ) → a.padded_size ≡ m
      → on_size (pick b (outer_size a.field_size m) a.field_size) ≡ Some n → Behind sum n (a ∷ later)
  field-behind true f (Some m) g e =
      let h = rest m e in
      (m + h.0, HaveBits.padded (padded-is true f ∙ g) h.1, omega (arith, h.2))
  field-behind true f None g e = static-behind (padded-is true f ∙ g) a.field_size refl e
  field-behind false f m g e = static-behind (padded-is false f) a.field_size refl e

pub counted-bits : (sum n : ℕ) (later : List Annotated) → trailing_from Trailing.Padded sum later ≡ Some n → Behind sum n later
unfolding trailing_from later_size
counted-bits sum n [] e =
    let f : sum ≡ n = cc in
    (0, HaveBits.none, omega (arith, f))
counted-bits sum n (a ∷ later) e =
    field-behind sum n a later (λ m f. counted-bits (sum + m) n later f) (is_array_field a.field) refl a.padded_size refl e
