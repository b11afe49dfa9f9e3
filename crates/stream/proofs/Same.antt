-- The heart: the stream of bytes, and its refusals, are those of the definitions, for all lists of fields.
-- Assumes nothing.
use Rattle.std.proofs.Common.{◌≡◌, ℕ, ◌+◌, ◌/◌, ◌%◌, Bool, true, false, eqb, ltb, List, [], ◌∷◌, ◌++◌, sym, refl, ap, ◌∙◌, append_assoc, append-nil, arith, eqb-true}
use mathlib.Core.List.{concat-ne-nil}
use Rattle.definitions.specs.Bytes.{Text}
use Rattle.definitions.specs.Sizes.{Annotated}
use Rattle.definitions.specs.Lines.{render}
use Rattle.definitions.specs.Blocks.{Bit, Chunk, raws_behind, Block, program}
use Rattle.definitions.specs.FieldParser.{Setting, FieldParser, Step, go, stop, and_then, check_code, next_nr, open_chunk, close_chunk, parse_bit_field, is_bit, parse_unchecked, Emit, appends, silent, emitted, parse_all, code_of, lower_fields}
use Rattle.definitions.specs.FieldParser as parser
use Rattle.definitions.specs.declared.Refusal.{Refusal}
use Rattle.stream.specs.Stream.{Result, refuses, writes, ahead, rendered, State, fresh, run_bits, check_text, chunk_text, block_text, emitting, width_of, grown, closed, closing, stream}
use Rattle.stream.proofs.Steps.{bit_stream, parse-bit, parse-no, run-bit, run-no, stream-bit, stream-no}
use Rattle.stream.proofs.Pieces.{program-more, run-first, run_more}

ahead-ahead : (s t : Text) (r : Result) → ahead s (ahead t r) ≡ ahead (s ++ t) r
ahead-ahead s t (refuses n) = refl
ahead-ahead s t (writes u) = ap writes (sym (append_assoc s t u))

abbrev is_pending : List Chunk → Bool
is_pending [] = false
is_pending (d ∷ ds) = true

pending-more : (ds : List Chunk) (d : Chunk) → is_pending (ds ++ (d ∷ [])) ≡ true
pending-more [] d = refl
pending-more (e ∷ ds) d = refl

module _ (c : Setting) where
  abbrev at : ℕ → ℕ → List Bit → ℕ → ℕ → List Chunk → List Block → FieldParser
  at offset shift chunk nr raws un code =
      record { offset = offset; shift = shift; chunk = chunk; chunk_nr = nr; raw_nr = raws; unchecked_code = un; code = code }

  abbrev seen : ℕ → List Bit → ℕ → ℕ → List Chunk → State
  seen shift chunk nr raws un = record { shift = shift; chunk = chunk; chunk_nr = nr; raw_nr = raws; pending = is_pending un }

  -- what is left of the definitions' way
  abbrev outcome : FieldParser → List Annotated → Result
  outcome p later = rendered (code_of (and_then (parse_all c p later) (check_code c)))

  -- the lines of a run that has begun, with its total
  abbrev pending_text : ℕ → List Chunk → Text
  pending_text n [] = []
  pending_text n (d ∷ ds) = block_text (Block.checked c.options n (d ∷ ds))

  abbrev so_far : ℕ → List Chunk → List Block → Text
  so_far n un code = render (program code) ++ pending_text n un

  -- the run's total, when it has come to an offset and a shift
  abbrev total : ℕ → ℕ → List Annotated → ℕ
  total offset shift later = offset + (shift + run_bits c later) / 8

  record Tidy (offset shift : ℕ) (chunk : List Bit) (un : List Chunk) : Type 0 where
    whole : chunk ≡ [] → shift ≡ 0
    begun : un ≡ [] → offset ≡ 0

  -- the law for a list of fields, at any state of the parser
  abbrev Law : List Annotated → Type 0
  Law later =
      (offset shift : ℕ) (chunk : List Bit) (nr raws : ℕ) (un : List Chunk) (code : List Block) → Tidy offset shift chunk un
      → outcome (at offset shift chunk nr raws un code) later
      ≡ ahead (so_far (total offset shift later) un code) (stream c (seen shift chunk nr raws un) later)

  -- ---- the flush

  flushed-text : (n offset shift : ℕ) (d : Chunk) (ds : List Chunk) (code : List Block) → n ≡ offset
      → so_far 0 [] (code ++ (Block.checked c.options offset (d ∷ ds) ∷ [])) ≡ so_far n (d ∷ ds) code
  flushed-text n offset shift d ds code e =
      append-nil (render (program (code ++ (Block.checked c.options offset (d ∷ ds) ∷ []))))
      ∙ program-more code (Block.checked c.options offset (d ∷ ds))
      ∙ ap (λ (k : ℕ). render (program code) ++ block_text (Block.checked c.options k (d ∷ ds))) (sym e)

  last : Law []
  unfolding parse_all check_code stream run_bits
  last offset shift chunk nr raws [] code t =
      ap writes (sym (append-nil (render (program code) ++ []) ∙ append-nil (render (program code))))
  last offset shift [] nr raws (d ∷ ds) code t =
      ap writes
      (sym (append-nil (so_far (total offset shift []) (d ∷ ds) code)
      ∙ sym (flushed-text (total offset shift []) offset shift d ds code (let e : shift ≡ 0 = t.whole refl in omega arith))
      ∙ append-nil (render (program (code ++ (Block.checked c.options offset (d ∷ ds) ∷ []))))))
  last offset shift (b ∷ bs) nr raws (d ∷ ds) code t = refl

  -- ---- one more field

  module _ (a : Annotated) (later : List Annotated) (behind : Law later) where
    -- a field that is no bit field, where nothing is pending
    emits : (e : Emit) (shift : ℕ) (chunk : List Bit) (nr raws : ℕ) (code : List Block) → (chunk ≡ [] → shift ≡ 0)
        → rendered (code_of (and_then (and_then (emitted (at 0 shift chunk nr raws [] code) e) λ q. parse_all c q later) (check_code c)))
        ≡ ahead (so_far 0 [] code) (emitting e (stream c (seen shift chunk nr raws []) later))
    emits (appends b) shift chunk nr raws code t =
        behind 0 shift chunk nr raws [] (code ++ (b ∷ [])) (record { whole = t; begun = λ h. refl })
        ∙ ap (λ (x : Text). ahead x (stream c (seen shift chunk nr raws []) later))
        (append-nil (render (program (code ++ (b ∷ [])))) ∙ program-more code b
        ∙ ap (λ (x : Text). x ++ block_text b) (sym (append-nil (render (program code)))))
        ∙ sym (ahead-ahead (so_far 0 [] code) (block_text b) (stream c (seen shift chunk nr raws []) later))
    emits silent shift chunk nr raws code t = behind 0 shift chunk nr raws [] code (record { whole = t; begun = λ h. refl })
    emits (parser.refuses n) shift chunk nr raws code t = refl

    -- the definitions' way from a step on
    abbrev after : Step → Result
    after x = rendered (code_of (and_then (and_then x λ q. parse_all c q later) (check_code c)))

    other : is_bit c a.field ≡ false → Law (a ∷ later)
    unfolding parse_all check_code
    other is_no offset shift chunk nr raws [] code t =
        let z : offset ≡ 0 = t.begun refl in
        ap after (parse-no c a later (at offset shift chunk nr raws [] code) is_no)
        ∙ ap (λ (k : ℕ). after (emitted (at k shift chunk nr raws [] code) (parse_unchecked c shift a later))) z
        ∙ emits (parse_unchecked c shift a later) shift chunk nr raws code t.whole
        ∙ ap (ahead (so_far 0 [] code)) (sym (stream-no c a later (seen shift chunk nr raws []) is_no))
    other is_no offset shift [] nr raws (d ∷ ds) code t =
        let z : shift ≡ 0 = t.whole refl in
        let n : total offset shift (a ∷ later) ≡ offset = omega (arith, run-no c a later is_no) in
        ap after (parse-no c a later (at offset shift [] nr raws (d ∷ ds) code) is_no)
        ∙ emits (parse_unchecked c shift a later) shift [] nr raws (code ++ (Block.checked c.options offset (d ∷ ds) ∷ [])) t.whole
        ∙ ap (λ (x : Text). ahead x (emitting (parse_unchecked c shift a later) (stream c (seen shift [] nr raws []) later)))
        (flushed-text (total offset shift (a ∷ later)) offset shift d ds code n)
        ∙ ap (ahead (so_far (total offset shift (a ∷ later)) (d ∷ ds) code)) (sym (stream-no c a later (seen shift [] nr raws (d ∷ ds)) is_no))
    other is_no offset shift (b ∷ bs) nr raws (d ∷ ds) code t =
        ap after (parse-no c a later (at offset shift (b ∷ bs) nr raws (d ∷ ds) code) is_no)
        ∙ ap (ahead (so_far (total offset shift (a ∷ later)) (d ∷ ds) code)) (sym (stream-no c a later (seen shift (b ∷ bs) nr raws (d ∷ ds)) is_no))

    -- the bit field joins the chunk
    module _ (offset shift : ℕ) (chunk : List Bit) (nr raws : ℕ) (un : List Chunk) (code : List Block) (t : Tidy offset shift chunk un) where
      abbrev more : List Bit
      more = grown c (seen shift chunk nr raws un) a

      abbrev is_closed : Chunk
      is_closed = record { nr = nr; raw_nr = raws; fields = more }

      abbrev sum : ℕ
      sum = shift + width_of a

      -- the text so far, when the chunk was closed
      close-text : (ds : List Chunk) → (ds ≡ [] → offset ≡ 0) → sum % 8 ≡ 0
          → so_far (total (offset + sum / 8) 0 later) (ds ++ (is_closed ∷ [])) code
          ≡ so_far (offset + (sum + run_bits c later) / 8) ds code ++ (check_text (is_pending ds) ((sum + run_bits c later) / 8) ++ chunk_text c.options is_closed)
      unfolding check_text
      close-text [] z whole =
          let o : offset ≡ 0 = z refl in
          let e : total (offset + sum / 8) 0 later ≡ (sum + run_bits c later) / 8 = omega arith in
          ap (λ (x : Text). render (program code) ++ x) (run-first c.options (total (offset + sum / 8) 0 later) is_closed
          ∙ ap (λ (k : ℕ). check_text false k ++ chunk_text c.options is_closed) e)
          ∙ ap (λ (x : Text). x ++ (check_text false ((sum + run_bits c later) / 8) ++ chunk_text c.options is_closed)) (sym (append-nil (render (program code))))
      close-text (d ∷ ds) z whole =
          let e : total (offset + sum / 8) 0 later ≡ offset + (sum + run_bits c later) / 8 = omega arith in
          ap (λ (x : Text). render (program code) ++ x) (run_more c.options (total (offset + sum / 8) 0 later) (d ∷ ds) is_closed
          ∙ ap (λ (k : ℕ). block_text (Block.checked c.options k (d ∷ ds)) ++ chunk_text c.options is_closed) e)
          ∙ sym (append_assoc (render (program code)) (block_text (Block.checked c.options (offset + (sum + run_bits c later) / 8) (d ∷ ds))) (chunk_text c.options is_closed))

      -- the goal, with the two tests taken out: an octet boundary, more than 64 bits
      abbrev Goal : Bool → Bool → Type 0
      Goal b k =
          after
          (elim b [
            | true ↦ elim k [ true ↦ stop Refusal.ScalarTooWide | false ↦ go (close_chunk (at offset shift chunk nr raws un code) sum more) ]
            | false ↦ go (open_chunk (at offset shift chunk nr raws un code) sum more)
          ])
          ≡ ahead (so_far (offset + (sum + run_bits c later) / 8) un code) (bit_stream c a later (seen shift chunk nr raws un) b k)

      pushed : (b k : Bool) → (b ≡ true → sum % 8 ≡ 0) → Goal b k
      pushed true true f = refl
      pushed true false f =
          behind (offset + sum / 8) 0 [] (next_nr nr more) (raws_behind raws more) (un ++ (is_closed ∷ [])) code
          (record { whole = λ h. refl; begun = λ h. absurd (concat-ne-nil is_closed un h) })
          ∙ ap (λ (b : Bool). ahead (so_far (total (offset + sum / 8) 0 later) (un ++ (is_closed ∷ [])) code)
          (stream c (record { shift = 0; chunk = []; chunk_nr = next_nr nr more; raw_nr = raws_behind raws more; pending = b }) later)) (pending-more un is_closed)
          ∙ ap (λ (x : Text). ahead x (stream c (closed c (seen shift chunk nr raws un) a) later)) (close-text un t.begun (f refl))
          ∙ sym (ahead-ahead (so_far (offset + (sum + run_bits c later) / 8) un code) (closing c (seen shift chunk nr raws un) a later) (stream c (closed c (seen shift chunk nr raws un) a) later))
      pushed false k f =
          behind offset sum more nr raws un code (record { whole = λ h. absurd (concat-ne-nil _ chunk h); begun = t.begun })

      bit-here : is_bit c a.field ≡ true → outcome (at offset shift chunk nr raws un code) (a ∷ later)
          ≡ ahead (so_far (total offset shift (a ∷ later)) un code) (stream c (seen shift chunk nr raws un) (a ∷ later))
      unfolding parse_all parse_bit_field
      bit-here is_yes =
          let e : offset + (sum + run_bits c later) / 8 ≡ total offset shift (a ∷ later) = ap (λ (k : ℕ). offset + k / 8) (omega (arith, run-bit c a later is_yes)) in
          ap after (parse-bit c a later (at offset shift chunk nr raws un code) is_yes)
          ∙ pushed (eqb (sum % 8) 0) (ltb 64 sum) (eqb-true (sum % 8) 0)
          ∙ ap (λ (k : ℕ). ahead (so_far k un code) (bit_stream c a later (seen shift chunk nr raws un) (eqb (sum % 8) 0) (ltb 64 sum))) e
          ∙ ap (ahead (so_far (total offset shift (a ∷ later)) un code)) (sym (stream-bit c a later (seen shift chunk nr raws un) is_yes))

    by_bit : (b : Bool) → is_bit c a.field ≡ b → Law (a ∷ later)
    by_bit true e = λ offset shift chunk nr raws un code t. bit-here offset shift chunk nr raws un code t e
    by_bit false e = other e

  law : (later : List Annotated) → Law later
  law [] = last
  law (a ∷ later) = by_bit a later (law later) (is_bit c a.field) refl

  -- the stream from the start is the definitions' lowering
  pub streamed : (xs : List Annotated) → rendered (lower_fields c xs) ≡ stream c fresh xs
  unfolding lower_fields
  streamed xs =
      law xs 0 0 [] 0 0 [] [] (record { whole = λ h. refl; begun = λ h. refl }) ∙ nothing-ahead (stream c fresh xs)
    where
      nothing-ahead : (r : Result) → ahead [] r ≡ r
      nothing-ahead (refuses n) = refl
      nothing-ahead (writes u) = refl
