-- What the plan of a list of fields tells is the stream over the fields, and so the definitions' lowering.
-- Assumes nothing.
use Rattle.std.specs.Prelude.{Ok, Err, Option, Some, None}
use Rattle.definitions.specs.Refusals.{Verdict}
use mathlib.Core.Bool.{Bool, true, false, not}
use mathlib.Core.List.{List, [], ◌∷◌, ◌++◌}
use mathlib.Core.Path.{◌≡◌, refl, sym, ap, ◌∙◌}
use Prim.Native.Nat.{ℕ, ◌+◌, ◌%◌}
use lib.Dec.{eqb, ltb}
use Rattle.definitions.specs.Bytes.{Text}
use Rattle.definitions.specs.Blocks.{Kind, Bit}
use Rattle.definitions.specs.Sizes.{Annotated}
use Rattle.definitions.specs.FieldParser.{Setting, kind_of, is_bit, on_boundary, Emit, appends, lower_fields}
use Rattle.definitions.specs.FieldParser.{parse_typedef_field, parse_payload_field_lite, parse_optional_field, parse_other, parse_unchecked}
use Rattle.definitions.specs.FieldParser as parser
use Rattle.definitions.specs.declared.FieldDesc.{FieldDesc}
use Rattle.definitions.specs.declared.Condition.{Condition}
use Rattle.definitions.specs.declared.Refusal.{Refusal}
use Rattle.stream.specs.Stream.{Result, refuses, writes, ahead, rendered, State, fresh, width_of, run_bits}
use Rattle.stream.specs.Stream.{flushing, emitting, closing, closed, opened, calm, stream}
use Rattle.stream.proofs.Same.{streamed}
use Rattle.plans.specs.Planned.{Said, stops, said_by, Planned, bit, other, aligned, aligned_desc, plans_of, plan_of, bits_ahead}
use Rattle.plans.specs.Told.{Advance, bit_advance, flush_verdict, on_shift, said_advance, other_advance, Told, joined, tell, result_by, result_of}

-- ---- a field that is no bit field, inside a chunk

-- a refusal inside an open chunk, and the same as on a boundary elsewhere
boundary : (shift : ℕ) (e : Emit) → said_by (on_boundary shift e) ≡ on_shift shift true (said_by (on_boundary 0 e))
unfolding on_shift
boundary shift e = by (eqb shift 0)
  where
    by : (b : Bool) → said_by (elim b as (λ _. Emit) [ true ↦ e | false ↦ parser.refuses Refusal.OctetBoundary ])
        ≡ (elim (not b) [ true ↦ stops Refusal.OctetBoundary | false ↦ said_by e ])
    by true = refl
    by false = refl

anywhere : (shift : ℕ) (x : Said) → x ≡ on_shift shift false x
unfolding on_shift
anywhere shift x = refl

other-said : (c : Setting) (shift : ℕ) (a : Annotated) (later : List Annotated) (d : FieldDesc)
    → said_by (parse_other c shift a later d) ≡ on_shift shift (aligned_desc d) (said_by (parse_other c 0 a later d))
unfolding parse_other parse_typedef_field parse_payload_field_lite
other-said c shift a later (FieldDesc.Checksum of) = anywhere shift _
other-said c shift a later (FieldDesc.Padding size) = anywhere shift _
other-said c shift a later (FieldDesc.Size of width) = anywhere shift _
other-said c shift a later (FieldDesc.Count of width) = anywhere shift _
other-said c shift a later (FieldDesc.ElementSize of width) = anywhere shift _
other-said c shift a later FieldDesc.Body = boundary shift _
other-said c shift a later (FieldDesc.Payload modifier) = boundary shift _
other-said c shift a later (FieldDesc.FixedScalar width value) = anywhere shift _
other-said c shift a later (FieldDesc.FixedEnum type tag) = anywhere shift _
other-said c shift a later (FieldDesc.Reserved width) = anywhere shift _
other-said c shift a later (FieldDesc.Array id width type modifier size) = anywhere shift _
other-said c shift a later (FieldDesc.Scalar id width) = anywhere shift _
other-said c shift a later (FieldDesc.Flag id) = anywhere shift _
other-said c shift a later (FieldDesc.Typedef id type) = boundary shift _

said-shifted : (c : Setting) (shift : ℕ) (a : Annotated) (later : List Annotated)
    → said_by (parse_unchecked c shift a later) ≡ on_shift shift (aligned a.field) (said_by (parse_unchecked c 0 a later))
unfolding parse_unchecked
said-shifted c shift a later = by a.field.cond
  where
    by : (x : Option Condition) → said_by (elim x as (λ _. Emit) [
      | None ↦ parse_other c shift a later a.field.desc
      | Some cond ↦ parse_optional_field c cond.id cond.value a.field.desc
    ])
        ≡ on_shift shift (elim x as (λ _. Bool) [ None ↦ aligned_desc a.field.desc | Some cond ↦ false ])
        (said_by (elim x as (λ _. Emit) [
          | None ↦ parse_other c 0 a later a.field.desc
          | Some cond ↦ parse_optional_field c cond.id cond.value a.field.desc
        ]))
    by None = other-said c shift a later a.field.desc
    by (Some cond) = anywhere shift _

-- ---- a field, and then what follows

abbrev step : Advance → (State → Told) → Told
step x f = joined x.verdict x.lines (f x.after)

passed : (t : Text) (next : Told) → result_of (joined (Ok tt) t next) ≡ ahead t (result_of next)
passed t next = by next.verdict
  where
    by : (v : Verdict) → result_by v (t ++ next.lines) ≡ ahead t (result_by v next.lines)
    by (Ok tt) = refl
    by (Err why) = refl

module _ (f : State → Told) where
  step-said : (s : State) (e : Emit) → result_of (step (said_advance s (said_by e)) f) ≡ emitting e (result_of (f s))
  step-said s (appends b) = passed _ (f s)
  step-said s parser.silent = refl
  step-said s (parser.refuses why) = refl

  step_other : (s : State) (must : Bool) (said : Said) (e : Emit) → said_by e ≡ on_shift s.shift must said
      → result_of (step (other_advance s must said) f) ≡ flushing s.pending s.chunk (emitting e (result_of (f (calm s))))
  unfolding other_advance
  step_other s must said e h = by s.pending s.chunk
    where
      emits : result_of (step (said_advance (calm s) (on_shift s.shift must said)) f) ≡ emitting e (result_of (f (calm s)))
      emits = ap (λ (x : Said). result_of (step (said_advance (calm s) x) f)) (sym h) ∙ step-said (calm s) e

      by : (b : Bool) (bs : List Bit) → result_of (step (elim (flush_verdict b bs) as (λ _. Advance) [
        | (Ok tt) ↦ said_advance (calm s) (on_shift s.shift must said)
        | Err why ↦ record { verdict = Err why; lines = []; after = s }
      ]) f) ≡ flushing b bs (emitting e (result_of (f (calm s))))
      by false bs = emits
      by true [] = emits
      by true (b ∷ bs) = refl

-- ---- all fields

bits-ahead : (c : Setting) (xs : List Annotated) → bits_ahead (plans_of c xs) ≡ run_bits c xs
unfolding bits_ahead plans_of plan_of run_bits
bits-ahead c [] = refl
bits-ahead c (a ∷ later) = by (is_bit c a.field) (bits-ahead c later)
  where
    by : (b : Bool) → bits_ahead (plans_of c later) ≡ run_bits c later
        → bits_ahead ((elim b as (λ _. Planned) [
          | true ↦ bit (width_of a) (kind_of c a.field.desc)
          | false ↦ other (aligned a.field) (said_by (parse_unchecked c 0 a later))
        ]) ∷ plans_of c later) ≡ (elim b as (λ _. ℕ) [ true ↦ width_of a + run_bits c later | false ↦ 0 ])
    by true e = ap (λ (n : ℕ). width_of a + n) e
    by false e = refl

module _ (c : Setting) where
  -- what the fields behind a state come to
  abbrev rest : List Annotated → State → Told
  rest later s = tell c.options s (plans_of c later)

  module _ (s : State) (a : Annotated) (later : List Annotated) where
    abbrev kind : Kind
    kind = kind_of c a.field.desc

    step-bit : result_of (rest later (closed c s a)) ≡ stream c (closed c s a) later
        → result_of (rest later (opened c s a)) ≡ stream c (opened c s a) later
        → result_of (step (bit_advance c.options s kind (width_of a) (bits_ahead (plans_of c later))) (rest later))
        ≡ (elim (eqb ((s.shift + width_of a) % 8) 0) as (λ _. Result) [
          | true ↦ elim (ltb 64 (s.shift + width_of a)) as (λ _. Result) [
            | true ↦ refuses Refusal.ScalarTooWide
            | false ↦ ahead (closing c s a later) (stream c (closed c s a) later)
          ]
          | false ↦ stream c (opened c s a) later
        ])
    unfolding bit_advance
    step-bit ec eo = ap (λ (n : ℕ). result_of (step (bit_advance c.options s kind (width_of a) n) (rest later))) (bits-ahead c later)
        ∙ by (eqb ((s.shift + width_of a) % 8) 0) (ltb 64 (s.shift + width_of a))
      where
        by : (b w : Bool) → result_of (step (elim b as (λ _. Advance) [
          | true ↦ elim w as (λ _. Advance) [
            | true ↦ record { verdict = Err Refusal.ScalarTooWide; lines = []; after = s }
            | false ↦ record { verdict = (Ok tt); lines = closing c s a later; after = closed c s a }
          ]
          | false ↦ record { verdict = (Ok tt); lines = []; after = opened c s a }
        ]) (rest later))
            ≡ (elim b as (λ _. Result) [
              | true ↦ elim w as (λ _. Result) [
                | true ↦ refuses Refusal.ScalarTooWide
                | false ↦ ahead (closing c s a later) (stream c (closed c s a) later)
              ]
              | false ↦ stream c (opened c s a) later
            ])
        by true true = refl
        by true false = passed (closing c s a later) (rest later (closed c s a)) ∙ ap (ahead (closing c s a later)) ec
        by false w = eo

  pub tell-streams : (s : State) (xs : List Annotated) → result_of (tell c.options s (plans_of c xs)) ≡ stream c s xs
  unfolding tell plans_of plan_of stream
  tell-streams s [] = by s.pending s.chunk
    where
      by : (b : Bool) (bs : List Bit) → result_by (flush_verdict b bs) [] ≡ flushing b bs (writes [])
      by false bs = refl
      by true [] = refl
      by true (b ∷ bs) = refl
  tell-streams s (a ∷ later) =
      by (is_bit c a.field) (tell-streams (closed c s a) later) (tell-streams (opened c s a) later) (tell-streams (calm s) later)
    where
      by : (b : Bool) → result_of (rest later (closed c s a)) ≡ stream c (closed c s a) later
          → result_of (rest later (opened c s a)) ≡ stream c (opened c s a) later
          → result_of (rest later (calm s)) ≡ stream c (calm s) later
          → result_of (tell c.options s ((elim b as (λ _. Planned) [
            | true ↦ bit (width_of a) (kind_of c a.field.desc)
            | false ↦ other (aligned a.field) (said_by (parse_unchecked c 0 a later))
          ]) ∷ plans_of c later))
          ≡ (elim b as (λ _. Result) [
            | true ↦ elim (eqb ((s.shift + width_of a) % 8) 0) as (λ _. Result) [
              | true ↦ elim (ltb 64 (s.shift + width_of a)) as (λ _. Result) [
                | true ↦ refuses Refusal.ScalarTooWide
                | false ↦ ahead (closing c s a later) (stream c (closed c s a) later)
              ]
              | false ↦ stream c (opened c s a) later
            ]
            | false ↦ flushing s.pending s.chunk (emitting (parse_unchecked c s.shift a later) (stream c (calm s) later))
          ])
      by true ec eo en = step-bit s a later ec eo
      by false ec eo en =
          step_other (rest later) s (aligned a.field) (said_by (parse_unchecked c 0 a later)) (parse_unchecked c s.shift a later)
          (said-shifted c s.shift a later)
          ∙ ap (λ (r : Result). flushing s.pending s.chunk (emitting (parse_unchecked c s.shift a later) r)) en

  -- what the plan tells is the definitions' lowering
  pub told : (xs : List Annotated) → rendered (lower_fields c xs) ≡ result_of (tell c.options fresh (plans_of c xs))
  told xs = streamed c xs ∙ sym (tell-streams fresh xs)
