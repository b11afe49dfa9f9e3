-- The numbers of an accepted record's tested enums are 0, 1, 2 and so on through the target.
-- Assumes nothing.
use mathlib.Core.Bool.{Bool, true, false}
use mathlib.Core.List.{List, [], ◌∷◌, ◌++◌, append_assoc, append-nil}
use mathlib.Core.Path.{◌≡◌, refl, sym, ap, ◌∙◌, subst}
use Prim.Native.Nat.{ℕ, suc, ◌+◌, ◌%◌, ◌≤◌}
use native.Mathlib.Omega.{arith}
use lib.Dec.{ltb, eqb}
use lib.ListN.{length, length-append}
use Rattle.definitions.specs.Bytes.{Text}
use Rattle.definitions.specs.Sizes.{Annotated, static_width}
use Rattle.definitions.specs.Blocks.{Kind, Bit, Chunk, next_raw, raws_behind, Block}
use Rattle.definitions.specs.FieldParser.{Setting, FieldParser, Step, go, stop, and_then, new, flushed, check_code, bit_of, open_chunk, close_chunk, parse_bit_field, Emit, appends, silent, refuses, is_bit, parse_unchecked, emitted, parse, parse_all, done, Outcome, refused, accepted, code_of, lower_fields}
use Rattle.definitions.specs.Answer.{answer}
use Rattle.definitions.specs.declared.Refusal.{Refusal}
use Rattle.definitions.proofs.Raws.{raws-most}
use Rattle.meaning.specs.Runs.{block_run, setting}
use Rattle.meaning.proofs.Entries.{RowsOk, AllFit, has-grounds}
use Rattle.meaning.proofs.Accepted.{EmitOk, unchecked-ok}
use Rattle.lengths.proofs.Booleans.{impossible}
use Rattle.numbered.specs.Numbers.{kind_numbers, fields_numbers, chunks_numbers, block_numbers, numbers_in, Counts}

-- ---- counting on

counts-on : (a b c : ℕ) (l m : List ℕ) → Counts a l b → Counts b m c → Counts a (l ++ m) c
counts-on a b c [] m e k = subst (λ (n : ℕ). Counts n m c) (sym e) k
counts-on a b c (n ∷ l) m e k = (e.0, counts-on (a + 1) b c l m e.1 k)

kind-counts : (k : ℕ) (x : Kind) → Counts k (kind_numbers k x) (next_raw k x)
kind-counts k (Kind.number x) = refl
kind-counts k (Kind.condition x) = refl
kind-counts k (Kind.open_enum x type) = refl
kind-counts k (Kind.closed_enum x type) = (refl, refl)
kind-counts k (Kind.fixed_scalar n) = refl
kind-counts k (Kind.fixed_enum type tag) = refl
kind-counts k Kind.reserved = refl

fields-count : (k : ℕ) (bs : List Bit) → Counts k (fields_numbers k bs) (raws_behind k bs)
fields-count k [] = refl
fields-count k (b ∷ bs) =
    counts-on k (next_raw k b.kind) (raws_behind k (b ∷ bs)) (kind_numbers k b.kind) (fields_numbers (next_raw k b.kind) bs)
    (kind-counts k b.kind) (fields-count (next_raw k b.kind) bs)

-- ---- one more at the end

chunks-snoc : (cs : List Chunk) (c : Chunk) → chunks_numbers (cs ++ (c ∷ [])) ≡ chunks_numbers cs ++ fields_numbers c.raw_nr c.fields
chunks-snoc [] c = append-nil (fields_numbers c.raw_nr c.fields)
chunks-snoc (d ∷ cs) c =
    ap (λ (l : List ℕ). fields_numbers d.raw_nr d.fields ++ l) (chunks-snoc cs c)
    ∙ sym (append_assoc (fields_numbers d.raw_nr d.fields) (chunks_numbers cs) (fields_numbers c.raw_nr c.fields))

blocks-snoc : (bs : List Block) (b : Block) → numbers_in (bs ++ (b ∷ [])) ≡ numbers_in bs ++ block_numbers b
blocks-snoc [] b = append-nil (block_numbers b)
blocks-snoc (d ∷ bs) b =
    ap (λ (l : List ℕ). block_numbers d ++ l) (blocks-snoc bs b) ∙ sym (append_assoc (block_numbers d) (numbers_in bs) (block_numbers b))

-- ---- the parser's state, with m fields to come: the numbers in its code and then in what is pending count up to its own

record Counted (m : ℕ) (p : FieldParser) : Type 0 where
  counts : Counts 0 (numbers_in p.code ++ chunks_numbers p.unchecked_code) p.raw_nr
  few : p.raw_nr + length p.chunk + m ≤ 64

abbrev CountedStep : ℕ → Step → Type 0
CountedStep m (go p) = Counted m p
CountedStep m (stop why) = Unit {0}

then-counted : (m n : ℕ) (s : Step) (f : FieldParser → Step) → CountedStep m s → ((q : FieldParser) → Counted m q → CountedStep n (f q))
    → CountedStep n (and_then s f)
then-counted m n (go p) f h k = k p h
then-counted m n (stop why) f h k = tt

-- what is pending goes into the code
check-counted : (c : Setting) (m : ℕ) (p : FieldParser) → Counted m p → CountedStep m (check_code c p)
unfolding check_code
check-counted c m p h = by p.unchecked_code p.chunk
  where
    flushes : Counts 0 (numbers_in (p.code ++ (Block.checked c.options p.offset p.unchecked_code ∷ [])) ++ []) p.raw_nr
    flushes =
        subst (λ (l : List ℕ). Counts 0 l p.raw_nr)
        (sym (append-nil (numbers_in (p.code ++ (Block.checked c.options p.offset p.unchecked_code ∷ [])))
        ∙ blocks-snoc p.code (Block.checked c.options p.offset p.unchecked_code))) h.counts

    by : (cs : List Chunk) (bs : List Bit) → CountedStep m (flushed c p cs bs)
    by [] bs = h
    by (d ∷ ds) [] = record { counts = flushes; few = h.few }
    by (d ∷ ds) (b ∷ bs) = tt

-- a chunk closes
close-counted : (p : FieldParser) (shift : ℕ) (chunk : List Bit) → Counts 0 (numbers_in p.code ++ chunks_numbers p.unchecked_code) p.raw_nr
    → Counts 0 (numbers_in p.code ++ chunks_numbers (close_chunk p shift chunk).unchecked_code) (raws_behind p.raw_nr chunk)
close-counted p shift chunk h =
    subst (λ (l : List ℕ). Counts 0 l (raws_behind p.raw_nr chunk))
    (append_assoc (numbers_in p.code) (chunks_numbers p.unchecked_code) (fields_numbers p.raw_nr chunk)
    ∙ ap (λ (l : List ℕ). numbers_in p.code ++ l)
    (sym (chunks-snoc p.unchecked_code (record { nr = p.chunk_nr; raw_nr = p.raw_nr; fields = chunk }))))
    (counts-on 0 p.raw_nr (raws_behind p.raw_nr chunk) (numbers_in p.code ++ chunks_numbers p.unchecked_code) (fields_numbers p.raw_nr chunk)
    h (fields-count p.raw_nr chunk))

bit-counted : (c : Setting) (m : ℕ) (p : FieldParser) (a : Annotated) → Counted (suc m) p → CountedStep m (parse_bit_field c p a)
unfolding parse_bit_field
bit-counted c m p a h = by (eqb (now % 8) 0) (ltb 64 now)
  where
    now : ℕ
    now = p.shift + static_width a.field_size

    chunk : List Bit
    chunk = p.chunk ++ (bit_of c p.shift a ∷ [])

    longer : length chunk ≡ length p.chunk + 1
    longer = length-append p.chunk (bit_of c p.shift a ∷ [])

    by : (b d : Bool) → CountedStep m (elim b [
      | true ↦ elim d [ true ↦ stop Refusal.ScalarTooWide | false ↦ go (close_chunk p now chunk) ]
      | false ↦ go (open_chunk p now chunk)
    ])
    by true true = tt
    by true false =
        record { counts = close-counted p now chunk h.counts; few = omega (arith, raws-most p.raw_nr chunk, longer, h.few) }
    by false d = record { counts = h.counts; few = omega (arith, longer, h.few) }

-- a block that is no checked run has none
no-numbers : (b : Block) → block_run b ≡ [] → block_numbers b ≡ []
no-numbers (Block.checked o n cs) e = impossible (cc)
no-numbers (Block.sized_payload x s m) e = refl
no-numbers (Block.payload_up_to x n) e = refl
no-numbers (Block.payload_to_end x) e = refl
no-numbers (Block.array m w a) e = refl
no-numbers (Block.padded_array p m w a) e = refl
no-numbers (Block.optional_scalar c v order w x) e = refl
no-numbers (Block.optional_open c v order w x type) e = refl
no-numbers (Block.optional_closed c v order w x type) e = refl
no-numbers (Block.optional_nested c v x type) e = refl
no-numbers (Block.nested type x) e = refl
no-numbers (Block.nested_up_to id n type x) e = refl

emitted-counted : (m : ℕ) (p : FieldParser) (e : Emit) → EmitOk e → Counted (suc m) p → CountedStep m (emitted p e)
emitted-counted m p (appends b) ok h =
    record {
      counts =
          subst (λ (l : List ℕ). Counts 0 (l ++ chunks_numbers p.unchecked_code) p.raw_nr)
          (sym (blocks-snoc p.code b
          ∙ ap (λ (l : List ℕ). numbers_in p.code ++ l) (no-numbers b ok.1.0)
          ∙ append-nil (numbers_in p.code))) h.counts;
      few = omega (arith, h.few);
    }
emitted-counted m p silent ok h = record { counts = h.counts; few = omega (arith, h.few) }
emitted-counted m p (refuses why) ok h = tt

-- ---- all fields

module _ (c : Setting) (rows : RowsOk c.scope) where
  all-counted : (p : FieldParser) (xs : List Annotated) → AllFit c xs → Counted (length xs) p → CountedStep 0 (parse_all c p xs)
  unfolding parse_all parse
  all-counted p [] fit h = h
  all-counted p (a ∷ later) fit h =
      then-counted (length later) 0 (parse c p a later) (λ q. parse_all c q later) (by (is_bit c a.field)) (λ q k. all-counted q later fit.1 k)
    where
      by : (b : Bool) → CountedStep (length later) (elim b [
        | true ↦ parse_bit_field c p a
        | false ↦ and_then (check_code c p) λ q. emitted q (parse_unchecked c q.shift a later)
      ])
      by true = bit-counted c (length later) p a h
      by false =
          then-counted (suc (length later)) (length later) (check_code c p) _ (check-counted c (suc (length later)) p h)
          (λ q k. emitted-counted (length later) q (parse_unchecked c q.shift a later) (unchecked-ok c rows q.shift a later fit.0.whole) k)

-- ---- the answer

abbrev OutcomeCounted : Outcome → Type 0
OutcomeCounted (refused why) = Unit {0}
OutcomeCounted (accepted bs) = (n : ℕ) × (n ≤ 64) × Counts 0 (numbers_in bs) n

-- nothing is pending at the end
ended : (c : Setting) (p : FieldParser) → Counted 0 p → OutcomeCounted (code_of (check_code c p))
unfolding check_code
ended c p h = by p.unchecked_code refl p.chunk (check-counted c 0 p h)
  where
    by : (cs : List Chunk) → p.unchecked_code ≡ cs → (bs : List Bit) → CountedStep 0 (flushed c p cs bs) → OutcomeCounted (code_of (flushed c p cs bs))
    by [] e bs k = (
      p.raw_nr,
      omega (arith, h.few),
      subst (λ (l : List ℕ). Counts 0 l p.raw_nr)
          (ap (λ (cs : List Chunk). numbers_in p.code ++ chunks_numbers cs) e ∙ append-nil (numbers_in p.code)) k.counts,
    )
    by (d ∷ ds) e [] k = (
      p.raw_nr,
      omega (arith, h.few),
      subst (λ (l : List ℕ). Counts 0 l p.raw_nr)
          (append-nil (numbers_in (p.code ++ (Block.checked c.options p.offset p.unchecked_code ∷ [])))) k.counts,
    )
    by (d ∷ ds) e (b ∷ bs) k = tt

lower-counted : (c : Setting) → RowsOk c.scope → (xs : List Annotated) → AllFit c xs → length xs ≤ 64 → OutcomeCounted (lower_fields c xs)
unfolding lower_fields
lower-counted c rows xs fit few = by (parse_all c new xs) (all-counted c rows new xs fit (record { counts = refl; few = omega (arith, few) }))
  where
    by : (s : Step) → CountedStep 0 s → OutcomeCounted (code_of (and_then s (done c)))
    by (go p) k = ended c p k
    by (stop why) k = tt

pub blocks-counted : (s : Text) (bs : List Block) → answer s ≡ accepted bs → (n : ℕ) × (n ≤ 64) × Counts 0 (numbers_in bs) n
blocks-counted s bs e =
    let h = has-grounds s bs e in
    let l = h.1.lowered in
    subst OutcomeCounted l.lowers (lower-counted (setting s h.0) l.ok.rows h.0.entry.fields l.ok.fit l.ok.few)
