-- The parser's steps: what it has emitted, holds pending and has in its open chunk is within the shares of the fields so far. No refusal
-- is 15 or 19.
-- Assumes nothing.
use mathlib.Core.Bool.{Bool, true, false, ◌||◌}
use mathlib.Core.List.{List, [], ◌∷◌, ◌++◌}
use mathlib.Core.Path.{◌≡◌, refl, sym, subst}
use Prim.Native.Nat.{ℕ, suc, ◌+◌, ◌*◌, ◌%◌, ◌≤◌, ◌<◌}
use native.Mathlib.Omega.{arith}
use lib.Dec.{ltb, eqb}
use lib.ListN.{length, length-append}
use borrow.Author.Tests.{ltb-false, eqb-false}
use Rattle.definitions.specs.Sizes.{Annotated, static_width}
use Rattle.definitions.specs.Refusals.{number}
use Rattle.definitions.specs.Lines.{render}
use Rattle.definitions.specs.Blocks.{Bit, Chunk, widths, Block, program}
use Rattle.definitions.specs.FieldParser.{Setting, FieldParser, Step, go, stop, and_then, flushed, check_code, kind_of, bit_of, open_chunk, close_chunk, parse_bit_field, Emit, appends, silent, refuses, emitted, Outcome, refused, accepted}
use Rattle.definitions.specs.declared.Refusal.{Refusal}
use Rattle.definitions.proofs.Raws.{raws-most}
use Rattle.lengths.specs.Shares.{bit_field}
use Rattle.lengths.proofs.Booleans.{neither}
use Rattle.lengths.proofs.Others.{Within}
use Rattle.lengths.proofs.Runs.{KindShort, BitShort, AllShort, ChunkShort, ChunksShort, bits_in, checked-short}

-- ---- blocks

-- blocks within n bytes
abbrev pub Fit : ℕ → List Block → Type 0
Fit n [] = Unit {0}
Fit n (b ∷ bs) = (k : ℕ) × (m : ℕ) × Within k b × Fit m bs × (k + m ≤ n)

fit-snoc : (n k : ℕ) (bs : List Block) (b : Block) → Fit n bs → Within k b → Fit (n + k) (bs ++ (b ∷ []))
fit-snoc n k [] b f w = (k, 0, w, tt, omega arith)
fit-snoc n k (d ∷ bs) b (j, m, v, f, h) w = (j, m + k, v, fit-snoc m k bs b f w, omega (arith, h))

pub fit_length : (n : ℕ) (bs : List Block) → Fit n bs → length (render (program bs)) ≤ n
fit_length n [] f = omega arith
fit_length n (b ∷ bs) (k, m, w, f, h) = omega (arith, w.before (program bs), fit_length m bs f, h)

pub wider : {k n : ℕ} {b : Block} → Within k b → k ≤ n → Within n b
wider w h = record { before = λ l. omega (arith, w.before l, h) }

-- ---- the parser's state

-- a refusal of the record's own: none that an output buffer (15) or a section (19) brings
abbrev pub Own : Refusal → Type 0
Own why = (eqb (number why) 15 || eqb (number why) 19) ≡ false

-- its number is neither
pub own-number : (why : Refusal) → Own why → (number why ≡ 15 → ⊥) × (number why ≡ 19 → ⊥)
own-number why k =
    let b = neither (eqb (number why) 15) (eqb (number why) 19) k in
    (eqb-false (number why) 15 b.0, eqb-false (number why) 19 b.1)

-- within n bytes, with m fields to come
pub record Holds (n m : ℕ) (p : FieldParser) : Type 0 where
  pub used : ℕ
  pub code : Fit used p.code
  pub room : used + bit_field * (bits_in p.unchecked_code + length p.chunk) ≤ n
  pub pending : ChunksShort p.unchecked_code
  pub opened : AllShort p.shift p.chunk
  pub width : widths p.chunk ≤ p.shift
  pub raws : p.raw_nr + length p.chunk + m ≤ 64

abbrev pub StepFits : ℕ → ℕ → Step → Type 0
StepFits n m (go p) = Holds n m p
StepFits n m (stop why) = Own why

abbrev pub OutcomeFits : ℕ → Outcome → Type 0
OutcomeFits n (refused why) = Own why
OutcomeFits n (accepted bs) = length (render (program bs)) ≤ n

abbrev pub EmitFits : ℕ → Emit → Type 0
EmitFits n (appends b) = Within n b
EmitFits n silent = Unit {0}
EmitFits n (refuses why) = Own why

pub then-fits : (m n i j : ℕ) (s : Step) (f : FieldParser → Step) → StepFits m i s → ((q : FieldParser) → Holds m i q → StepFits n j (f q))
    → StepFits n j (and_then s f)
then-fits m n i j (go p) f h k = k p h
then-fits m n i j (stop why) f h k = h

-- more bytes, and no more fields to come
pub more_room : {m n i j : ℕ} {p : FieldParser} → Holds m i p → m ≤ n → j ≤ i → Holds n j p
more_room g h e = record {
  used = g.used;
  code = g.code;
  room = omega (arith, g.room, h);
  pending = g.pending;
  opened = g.opened;
  width = g.width;
  raws = omega (arith, g.raws, e);
}

pub step-wider : {m n : ℕ} (i : ℕ) (s : Step) → StepFits m i s → m ≤ n → StepFits n i s
step-wider i (go p) g h = more_room g h (omega arith)
step-wider i (stop why) g h = g

pub emitted-fits : (m n i : ℕ) (p : FieldParser) (e : Emit) → Holds m (suc i) p → EmitFits n e → StepFits (m + n) i (emitted p e)
emitted-fits m n i p (appends b) g w = record {
  used = g.used + n;
  code = fit-snoc g.used n p.code b g.code w;
  room = omega (arith, g.room);
  pending = g.pending;
  opened = g.opened;
  width = g.width;
  raws = omega (arith, g.raws);
}
emitted-fits m n i p silent g w = more_room g (omega arith) (omega arith)
emitted-fits m n i p (refuses why) g w = w

-- a run that is flushed pays for its block
some_bits : (d : Chunk) (ds : List Chunk) → ChunksShort (d ∷ ds) → 0 < bits_in (d ∷ ds)
some_bits d ds h = omega (arith, h.0.some)

pub check-fits : (c : Setting) (n i : ℕ) (p : FieldParser) → Holds n i p → StepFits n i (check_code c p)
unfolding check_code
check-fits c n i p g = by p.unchecked_code refl p.chunk
  where
    by : (cs : List Chunk) → p.unchecked_code ≡ cs → (bs : List Bit) → StepFits n i (flushed c p cs bs)
    by [] e bs = g
    by (d ∷ ds) e [] =
        let some : 0 < bits_in p.unchecked_code = subst (λ (cs : List Chunk). 0 < bits_in cs) (sym e) (some_bits d ds (subst ChunksShort e g.pending)) in
        record {
          used = g.used + bit_field * bits_in p.unchecked_code;
          code =
              fit-snoc g.used (bit_field * bits_in p.unchecked_code) p.code _ g.code
              (checked-short c.options p.offset p.unchecked_code g.pending some);
          room = omega (arith, g.room);
          pending = tt;
          opened = g.opened;
          width = g.width;
          raws = g.raws;
        }
    by (d ∷ ds) e (b ∷ bs) = refl

-- ---- bit fields

short-snoc : (m n : ℕ) (bs : List Bit) (b : Bit) → m ≤ n → AllShort m bs → BitShort n b → AllShort n (bs ++ (b ∷ []))
short-snoc m n [] b e h k = (k, tt)
short-snoc m n (d ∷ bs) b e h k =
    (record { kind = h.0.kind; place = omega (arith, e, h.0.place) }, short-snoc m n bs b e h.1 k)

short-more : (m n : ℕ) (bs : List Bit) → m ≤ n → AllShort m bs → AllShort n bs
short-more m n [] e h = tt
short-more m n (b ∷ bs) e h = (record { kind = h.0.kind; place = omega (arith, e, h.0.place) }, short-more m n bs e h.1)

pub widths-snoc : (bs : List Bit) (b : Bit) → widths (bs ++ (b ∷ [])) ≡ widths bs + b.width
widths-snoc [] b = omega arith
widths-snoc (d ∷ bs) b = omega (arith, widths-snoc bs b)

chunks-snoc : (cs : List Chunk) (c : Chunk) → ChunksShort cs → ChunkShort c → ChunksShort (cs ++ (c ∷ []))
chunks-snoc [] c h k = (k, tt)
chunks-snoc (d ∷ cs) c h k = (h.0, chunks-snoc cs c h.1 k)

bits-snoc : (cs : List Chunk) (c : Chunk) → bits_in (cs ++ (c ∷ [])) ≡ bits_in cs + length c.fields
bits-snoc [] c = omega arith
bits-snoc (d ∷ cs) c = omega (arith, bits-snoc cs c)

pub bit-fits : (c : Setting) (n i : ℕ) (p : FieldParser) (a : Annotated) → KindShort (kind_of c a.field.desc) → Holds n (suc i) p
    → StepFits (n + bit_field) i (parse_bit_field c p a)
unfolding parse_bit_field
bit-fits c n i p a k g = boundary (eqb (now % 8) 0)
  where
    now : ℕ
    now = p.shift + static_width a.field_size

    bit : Bit
    bit = bit_of c p.shift a

    grown : List Bit
    grown = p.chunk ++ (bit ∷ [])

    short : AllShort now grown
    short = short-snoc p.shift now p.chunk bit (omega arith) g.opened (record { kind = k; place = omega arith })

    wide : widths grown ≤ now
    wide = omega (arith, widths-snoc p.chunk bit, g.width)

    longer : length grown ≡ length p.chunk + 1
    longer = simp length-append

    closed : Chunk
    closed = record { nr = p.chunk_nr; raw_nr = p.raw_nr; fields = grown }

    close : (b : Bool) → ltb 64 now ≡ b → StepFits (n + bit_field) i (elim b [ true ↦ stop Refusal.ScalarTooWide | false ↦ go (close_chunk p now grown) ])
    close true e = refl
    close false e = record {
      used = g.used;
      code = g.code;
      room = omega (arith, g.room, longer, bits-snoc p.unchecked_code closed);
      pending =
          chunks-snoc p.unchecked_code closed g.pending
          (record {
            bits = short-more now 64 grown (ltb-false 64 now e) short;
            width = omega (arith, wide, ltb-false 64 now e);
            some = omega (arith, longer);
            raws = omega (arith, longer, g.raws);
          });
      opened = tt;
      width = omega arith;
      raws = omega (arith, raws-most p.raw_nr grown, longer, g.raws);
    }

    boundary : (b : Bool) → StepFits (n + bit_field) i (elim b [
      | true ↦ elim (ltb 64 now) [ true ↦ stop Refusal.ScalarTooWide | false ↦ go (close_chunk p now grown) ]
      | false ↦ go (open_chunk p now grown)
    ])
    boundary true = close (ltb 64 now) refl
    boundary false = record {
      used = g.used;
      code = g.code;
      room = omega (arith, g.room, longer);
      pending = g.pending;
      opened = short;
      width = wide;
      raws = omega (arith, longer, g.raws);
    }
