-- The definitions' step and the stream's, by what the field is.
-- Assumes nothing.
use Rattle.std.proofs.Common.{◌≡◌, ◌+◌, ◌%◌, Bool, true, false, eqb, ltb, List, ◌∷◌}
use Rattle.definitions.specs.Sizes.{Annotated}
use Rattle.definitions.specs.FieldParser.{Setting, FieldParser, and_then, check_code, parse_bit_field, is_bit, parse_unchecked, emitted, parse}
use Rattle.definitions.specs.declared.Refusal.{Refusal}
use Rattle.stream.specs.Stream.{Result, refuses, ahead, State, run_bits, flushing, emitting, width_of, opened, closed, calm, closing, stream}

module _ (c : Setting) (a : Annotated) (later : List Annotated) where
  -- a bit field, by the tests of an octet boundary and of 64 bits
  abbrev pub bit_stream : State → Bool → Bool → Result
  bit_stream s b k = elim b [
    | true ↦ elim k [ true ↦ refuses Refusal.ScalarTooWide | false ↦ ahead (closing c s a later) (stream c (closed c s a) later) ]
    | false ↦ stream c (opened c s a) later
  ]

  pub parse-bit : (p : FieldParser) → is_bit c a.field ≡ true → parse c p a later ≡ parse_bit_field c p a
  unfolding parse
  parse-bit p e = rw (e, parse)

  pub parse-no : (p : FieldParser) → is_bit c a.field ≡ false → parse c p a later ≡ and_then (check_code c p) λ q. emitted q (parse_unchecked c q.shift a later)
  unfolding parse
  parse-no p e = rw (e, parse)

  pub run-bit : is_bit c a.field ≡ true → run_bits c (a ∷ later) ≡ width_of a + run_bits c later
  unfolding run_bits
  run-bit e = rw (e, run_bits)

  pub run-no : is_bit c a.field ≡ false → run_bits c (a ∷ later) ≡ 0
  unfolding run_bits
  run-no e = rw (e, run_bits)

  pub stream-bit : (s : State) → is_bit c a.field ≡ true → stream c s (a ∷ later) ≡ bit_stream s (eqb ((s.shift + width_of a) % 8) 0) (ltb 64 (s.shift + width_of a))
  unfolding stream
  stream-bit s e = rw (e, stream)

  pub stream-no : (s : State) → is_bit c a.field ≡ false
      → stream c s (a ∷ later) ≡ flushing s.pending s.chunk (emitting (parse_unchecked c s.shift a later) (stream c (calm s) later))
  unfolding stream
  stream-no s e = rw (e, stream)
