-- Each later field that is an array with a padding has its block, of that padded size, among those behind the payload's: `array_placed`.
-- Assumes nothing.
use Rattle.std.specs.Prelude.{Option, Some, None}
use mathlib.Core.Path.{◌≡◌, refl, sym, ap, ◌∙◌, subst}
use mathlib.Core.Bool.{Bool, true, false}
use mathlib.Core.List.{List, [], ◌∷◌, ◌++◌, append_assoc}
use Prim.Native.Nat.{ℕ, ◌/◌}
use lib.ListN.{length, drop}
use lib.Seq.{drop_at}
use Rattle.definitions.specs.Bytes.{pick}
use Rattle.definitions.specs.Sizes.{Annotated, is_array, is_bitfield}
use Rattle.definitions.specs.Blocks.{Array, Block}
use Rattle.definitions.specs.FieldParser.{Setting, FieldParser, Step, go, stop, and_then, check_code, parse_bit_field, Emit, appends, silent, refuses, is_array_field, parse_array_field, parse_optional_field, parse_other, is_bit, parse_unchecked, emitted, parse, parse_all, done, accepted, code_of}
use Rattle.definitions.specs.declared.Modifier.{Modifier}
use Rattle.definitions.specs.declared.FieldDesc.{FieldDesc}
use Rattle.definitions.specs.declared.Condition.{Condition}
use Rattle.lengths.proofs.Booleans.{impossible}
use Rattle.meaning.specs.Payloads.{padded_bits, PaddedIn}
use Rattle.meaning.proofs.Placing.{GrownBy, AnyBlocks, Grown, then_by, check-grown, parse-grown, all_grown, LoweredBehind}

-- ---- among more blocks

module _ (n : ℕ) where
  -- an array of so many bits with its padding
  abbrev pub Has : List Block → Type 0
  Has bs = (d : PaddedIn bs) × (d.bytes ≡ n / 8)

  has-behind : (a bs : List Block) → Has bs → Has (a ++ bs)
  has-behind a bs h = (
    record {
      pre = a ++ h.0.pre;
      bytes = h.0.bytes;
      modifier = h.0.modifier;
      bits = h.0.bits;
      array = h.0.array;
      rest = h.0.rest;
      blocks_are = ap (λ (l : List Block). a ++ l) h.0.blocks_are ∙ sym (append_assoc a h.0.pre _);
    },
    h.1,
  )

  has-before : (bs a : List Block) → Has bs → Has (bs ++ a)
  has-before bs a h = (
    record {
      pre = h.0.pre;
      bytes = h.0.bytes;
      modifier = h.0.modifier;
      bits = h.0.bits;
      array = h.0.array;
      rest = h.0.rest ++ a;
      blocks_are = ap (λ (l : List Block). l ++ a) h.0.blocks_are ∙ append_assoc h.0.pre _ a;
    },
    h.1,
  )

  -- ---- the code grows by its block

  abbrev Gains : List Block → Step → Type 0
  Gains = GrownBy Has

  grown-gains : (bs : List Block) (s : Step) (f : FieldParser → Step) → Grown bs s → ((q : FieldParser) → Gains q.code (f q)) → Gains bs (and_then s f)
  grown-gains bs s f h k = then_by AnyBlocks Has Has (λ a b _ g. has-behind a b g) bs s f h k

  gains-grown : (bs : List Block) (s : Step) (f : FieldParser → Step) → Gains bs s → ((q : FieldParser) → Grown q.code (f q)) → Gains bs (and_then s f)
  gains-grown bs s f h k = then_by Has AnyBlocks Has (λ a b g _. has-before a b g) bs s f h k

  -- ---- an array's field

  abbrev IsPadded : Emit → Type 0
  IsPadded (appends b) = (m : Modifier) × (w : ℕ) × (d : Array) × (b ≡ Block.padded_array (n / 8) m w d)
  IsPadded silent = ⊥
  IsPadded (refuses why) = ⊥

  emitted-gains : (q : FieldParser) (e : Emit) → IsPadded e → Gains q.code (emitted q e)
  emitted-gains q (appends b) h = (
    b ∷ [],
    refl,
    (
      record { pre = []; bytes = n / 8; modifier = h.0; bits = h.1; array = h.2; rest = []; blocks_are = ap (λ (d : Block). d ∷ []) h.3 },
      refl,
    ),
  )
  emitted-gains q silent h = absurd h
  emitted-gains q (refuses why) h = absurd h

  module _ (c : Setting) (a : Annotated) (later : List Annotated) (padded : a.padded_size ≡ Some n) where
    -- no bit field, and it emits its block
    abbrev Emits : FieldDesc → Type 0
    Emits d = (is_bitfield c.source c.scope d ≡ false) × ((shift : ℕ) → IsPadded (parse_other c shift a later d))

    array-emits : (d : FieldDesc) → is_array d ≡ true → Emits d
    unfolding parse_other parse_array_field
    array-emits (FieldDesc.Checksum of) e = impossible (cc)
    array-emits (FieldDesc.Padding size) e = impossible (cc)
    array-emits (FieldDesc.Size of width) e = impossible (cc)
    array-emits (FieldDesc.Count of width) e = impossible (cc)
    array-emits (FieldDesc.ElementSize of width) e = impossible (cc)
    array-emits FieldDesc.Body e = impossible (cc)
    array-emits (FieldDesc.Payload modifier) e = impossible (cc)
    array-emits (FieldDesc.FixedScalar width value) e = impossible (cc)
    array-emits (FieldDesc.FixedEnum type tag) e = impossible (cc)
    array-emits (FieldDesc.Reserved width) e = impossible (cc)
    array-emits (FieldDesc.Array id width type modifier size) e =
        (refl, λ shift. subst (λ (m : Option ℕ). IsPadded (parse_array_field c m id width type modifier size)) (sym padded) (_, _, _, refl))
    array-emits (FieldDesc.Scalar id width) e = impossible (cc)
    array-emits (FieldDesc.Flag id) e = impossible (cc)
    array-emits (FieldDesc.Typedef id type) e = impossible (cc)

    parse-gains : (p : FieldParser) → is_array_field a.field ≡ true → Gains p.code (parse c p a later)
    unfolding parse is_bit parse_unchecked
    parse-gains p e = by a.field.cond e
      where
        by : (k : Option Condition) → elim k as (λ _. Bool) [ None ↦ is_array a.field.desc | Some cond ↦ false ] ≡ true
            → Gains p.code (elim (elim k as (λ _. Bool) [ None ↦ is_bitfield c.source c.scope a.field.desc | Some cond ↦ false ]) [
              | true ↦ parse_bit_field c p a
              | false ↦ and_then (check_code c p) λ q. emitted q (elim k [
                | None ↦ parse_other c q.shift a later a.field.desc
                | Some cond ↦ parse_optional_field c cond.id cond.value a.field.desc
              ])
            ])
        by None f =
            let h = array-emits a.field.desc f in
            rw h.0
            (grown-gains p.code (check_code c p) _ (check-grown c p)
            (λ q. emitted-gains q (parse_other c q.shift a later a.field.desc) (h.1 q.shift)))
        by (Some cond) f = impossible (cc)

  all-gains : (c : Setting) (p : FieldParser) (between : List Annotated) (a : Annotated) (behind : List Annotated)
      → is_array_field a.field ≡ true → a.padded_size ≡ Some n → Gains p.code (parse_all c p (between ++ (a ∷ behind)))
  unfolding parse_all
  all-gains c p [] a behind e f = gains-grown p.code (parse c p a behind) _ (parse-gains c a behind f p e) (λ q. all_grown c q behind)
  all-gains c p (b ∷ between) a behind e f =
      grown-gains p.code (parse c p b (between ++ (a ∷ behind))) _ (parse-grown c p b (between ++ (a ∷ behind)))
      (λ q. all-gains c q between a behind e f)

-- ---- behind the payload

-- what follows the same blocks is the same
same-behind : (a s t : List Block) → a ++ s ≡ a ++ t → s ≡ t
same-behind a s t e = sym (drop_at a s (length a) refl) ∙ ap (drop (length a)) e ∙ drop_at a t (length a) refl

array-bits : (n : ℕ) (a : Annotated) → padded_bits a ≡ Some n → (is_array_field a.field ≡ true) × (a.padded_size ≡ Some n)
array-bits n a e = by (is_array_field a.field) e
  where
    by : (b : Bool) → pick b a.padded_size None ≡ Some n → (b ≡ true) × (a.padded_size ≡ Some n)
    by true f = (refl, f)
    by false f = impossible (cc)

pub array_placed : (c : Setting) (later : List Annotated) (bs : List Block) (l : LoweredBehind c later bs)
    → (between : List Annotated) (a : Annotated) (behind : List Annotated) → later ≡ between ++ (a ∷ behind)
    → (n : ℕ) → padded_bits a ≡ Some n → Has n l.post
array_placed c later bs l between a behind are n e =
    by (and_then (parse_all c l.parser later) (done c))
    (gains-grown n l.parser.code (parse_all c l.parser later) (done c)
    (subst (λ (xs : List Annotated). Gains n l.parser.code (parse_all c l.parser xs)) (sym are)
    (all-gains n c l.parser between a behind (array-bits n a e).0 (array-bits n a e).1)) (λ q. check-grown c q))
    l.goes_on
  where
    by : (s : Step) → Gains n l.parser.code s → code_of s ≡ accepted bs → Has n l.post
    by (stop why) g f = impossible (cc)
    by (go r) g f =
        let same : bs ≡ r.code = cc in
        let code : l.parser.code ++ l.post ≡ bs =
        ap (λ (d : List Block). d ++ l.post) l.placed.code_is ∙ append_assoc l.placed.pre _ l.post ∙ sym l.blocks_are in
        subst (Has n) (same-behind l.parser.code g.0 l.post (sym g.1 ∙ sym same ∙ sym code)) g.2
