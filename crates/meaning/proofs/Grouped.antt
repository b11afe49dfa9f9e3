-- The checked runs of an entry that is lowered, as an accepted record's target is, are the runs of its bit fields, in order, and they read in the
-- file's order.
-- Assumes nothing.
use mathlib.Core.Bool.{Bool, true, false}
use mathlib.Core.List.{List, [], ◌∷◌, ◌++◌, append_assoc, append-nil}
use mathlib.Core.Path.{◌≡◌, refl, sym, ap, ◌∙◌, subst}
use Prim.Native.Nat.{ℕ, ◌+◌, ◌%◌}
use native.Mathlib.Nat.{add-zero}
use native.Mathlib.Omega.{arith}
use lib.Dec.{ltb, eqb}
use Rattle.definitions.specs.Bytes.{Text}
use Rattle.definitions.specs.Sizes.{Entry, Annotated, static_width}
use Rattle.definitions.specs.Refusals.{ragged_field}
use Rattle.definitions.specs.Blocks.{Bit, Chunk, Block}
use Rattle.definitions.specs.FieldParser.{Setting, FieldParser, Step, go, stop, and_then, new, append, flushed, check_code, bit_of, kind_of, open_chunk, close_chunk, parse_bit_field, Emit, appends, silent, refuses, is_bit, parse_unchecked, emitted, parse, parse_all, done, Outcome, refused, accepted, code_of, lower_fields}
use Rattle.definitions.specs.Answer.{setting_of}
use Rattle.definitions.specs.declared.Options.{Options}
use Rattle.definitions.specs.declared.Head.{Head}
use Rattle.definitions.specs.declared.Field.{Field}
use Rattle.definitions.specs.declared.Refusal.{Refusal}
use Rattle.meaning.specs.Rule.{width_of, bits_in, end_run, gather, runs}
use Rattle.meaning.specs.Runs.{fields_of, block_run, runs_in, placed, placed_run, placed_runs}
use Rattle.meaning.proofs.Entries.{plain, RowsOk, AllFit, Lowers}
use Rattle.meaning.proofs.Wellformed.{OptionsOf, AllOptions, Plain}
use Rattle.meaning.proofs.Accepted.{EmitOk, unchecked-ok}

-- ---- one more at the end

runs-snoc : (bs : List Block) (b : Block) → runs_in (bs ++ (b ∷ [])) ≡ runs_in bs ++ block_run b
runs-snoc [] b = append-nil (block_run b)
runs-snoc (d ∷ bs) b =
    ap (λ (l : List (List (List Bit))). block_run d ++ l) (runs-snoc bs b) ∙ sym (append_assoc (block_run d) (runs_in bs) (block_run b))

chunk-snoc : (cs : List Chunk) (c : Chunk) → fields_of (cs ++ (c ∷ [])) ≡ fields_of cs ++ (c.fields ∷ [])
chunk-snoc [] c = refl
chunk-snoc (d ∷ cs) c = ap (λ (l : List (List Bit)). d.fields ∷ l) (chunk-snoc cs c)

group-snoc : (c : Setting) (gs : List (List Field)) (g : List Field) → placed_run c (gs ++ (g ∷ [])) ≡ placed_run c gs ++ (placed c 0 g ∷ [])
group-snoc c [] g = refl
group-snoc c (f ∷ gs) g = ap (λ (l : List (List Bit)). placed c 0 f ∷ l) (group-snoc c gs g)

options-snoc : (o : Options) (bs : List Block) (b : Block) → AllOptions o bs → OptionsOf o b → AllOptions o (bs ++ (b ∷ []))
options-snoc o [] b h k = (k, tt)
options-snoc o (d ∷ bs) b h k = (h.0, options-snoc o bs b h.1 k)

bits-snoc : (c : Setting) (g : List Field) (f : Field) → bits_in c (g ++ (f ∷ [])) ≡ bits_in c g + width_of c f
bits-snoc c [] f = omega arith
bits-snoc c (d ∷ g) f = omega (arith, bits-snoc c g f)

-- a field behind s bits, of so many bits
abbrev bit_at : Setting → ℕ → ℕ → Field → Bit
bit_at c s w f = record { shift = s; width = w; kind = kind_of c f.desc }

placed_snoc : (c : Setting) (s : ℕ) (g : List Field) (f : Field) → placed c s (g ++ (f ∷ [])) ≡ placed c s g ++ (bit_at c (s + bits_in c g) (width_of c f) f ∷ [])
placed_snoc c s [] f = ap (λ (n : ℕ). bit_at c n (width_of c f) f ∷ []) (sym (add-zero s))
placed_snoc c s (d ∷ g) f =
    let e : (s + width_of c d) + bits_in c g ≡ s + (width_of c d + bits_in c g) = omega arith in
    ap (λ (l : List Bit). bit_at c s (width_of c d) d ∷ l)
    (placed_snoc c (s + width_of c d) g f ∙ ap (λ (n : ℕ). placed c (s + width_of c d) g ++ (bit_at c n (width_of c f) f ∷ [])) e)

-- ---- the pending chunks become a run

end-placed : (c : Setting) (gs : List (List Field)) (rs : List (List (List Field)))
    → placed_runs c (end_run gs rs) ≡ end_run (placed_run c gs) [] ++ placed_runs c rs
end-placed c [] rs = refl
end-placed c (g ∷ gs) rs = refl

-- from p to q nothing is left pending and the open chunk stays
record Flushed (o : Options) (p q : FieldParser) : Type 0 where
  chunk : q.chunk ≡ p.chunk
  shift : q.shift ≡ p.shift
  pending : fields_of q.unchecked_code ≡ []
  code : runs_in q.code ≡ runs_in p.code ++ end_run (fields_of p.unchecked_code) []
  options : AllOptions o p.code → AllOptions o q.code

abbrev FlushedStep : Options → FieldParser → Step → Type 0
FlushedStep o p (go q) = Flushed o p q
FlushedStep o p (stop why) = Unit {0}

flushed-run : (c : Setting) (p : FieldParser) (cs : List Chunk) → p.unchecked_code ≡ cs → (bs : List Bit) → FlushedStep c.options p (flushed c p cs bs)
flushed-run c p [] e bs =
    record {
      chunk = refl;
      shift = refl;
      pending = ap fields_of e;
      code =
          sym (append-nil (runs_in p.code)) ∙ ap (λ (l : List Chunk). runs_in p.code ++ end_run (fields_of l) []) (sym e);
      options = λ h. h;
    }
flushed-run c p (d ∷ ds) e [] =
    record {
      chunk = refl;
      shift = refl;
      pending = refl;
      code =
          runs-snoc p.code (Block.checked c.options p.offset p.unchecked_code)
          ∙ ap (λ (l : List Chunk). runs_in p.code ++ (fields_of l ∷ [])) e
          ∙ ap (λ (l : List Chunk). runs_in p.code ++ end_run (fields_of l) []) (sym e);
      options = λ k. options-snoc c.options p.code (Block.checked c.options p.offset p.unchecked_code) k refl;
    }
flushed-run c p (d ∷ ds) e (b ∷ bs) = tt

check-run : (c : Setting) (p : FieldParser) → FlushedStep c.options p (check_code c p)
unfolding check_code
check-run c p = flushed-run c p p.unchecked_code refl p.chunk

-- a block of another field behind
append-flushed : (o : Options) (p q : FieldParser) (b : Block) → Plain b → Flushed o p q → Flushed o p (append q b)
append-flushed o p q b h f =
    record {
      chunk = f.chunk;
      shift = f.shift;
      pending = f.pending;
      code = runs-snoc q.code b ∙ ap (λ (l : List (List (List Bit))). runs_in q.code ++ l) h.0 ∙ append-nil (runs_in q.code) ∙ f.code;
      options = λ k. options-snoc o q.code b (f.options k) (h.1 o);
    }

-- ---- all the fields

module _ (c : Setting) (rows : RowsOk c.scope) where
  abbrev o : Options
  o = c.options

  -- these runs are added to the code
  abbrev Adds : List Block → List (List (List Field)) → Step → Type 0
  Adds bs rs (go q) = (runs_in q.code ≡ runs_in bs ++ placed_runs c rs) × (AllOptions o bs → AllOptions o q.code)
  Adds bs rs (stop why) = Unit {0}

  -- the fields of the open chunk, and the groups of the pending ones
  record Gathering (p : FieldParser) (gathered : List Field) (closed : List (List Field)) : Type 0 where
    chunk : p.chunk ≡ placed c 0 gathered
    shift : p.shift ≡ bits_in c gathered
    pending : fields_of p.unchecked_code ≡ placed_run c closed

  -- behind a flush: the run that it made, then these
  flushed-adds : (p q : FieldParser) (closed : List (List Field)) → fields_of p.unchecked_code ≡ placed_run c closed → Flushed o p q
      → (rs : List (List (List Field))) (s : Step) → Adds q.code rs s → Adds p.code (end_run closed rs) s
  flushed-adds p q closed e f rs (stop why) m = tt
  flushed-adds p q closed e f rs (go r) m = (
    m.0
        ∙ ap (λ (l : List (List (List Bit))). l ++ placed_runs c rs) f.code
        ∙ append_assoc (runs_in p.code) (end_run (fields_of p.unchecked_code) []) (placed_runs c rs)
        ∙ ap (λ (g : List (List Bit)). runs_in p.code ++ (end_run g [] ++ placed_runs c rs)) e
        ∙ ap (λ (l : List (List (List Bit))). runs_in p.code ++ l) (sym (end-placed c closed rs)),
    λ k. m.1 (f.options k),
  )

  -- at the end
  ended : (p : FieldParser) (closed : List (List Field)) → fields_of p.unchecked_code ≡ placed_run c closed → (s : Step) → FlushedStep o p s
      → Adds p.code (end_run closed []) s
  ended p closed e (stop why) f = tt
  ended p closed e (go q) f = flushed-adds p q closed e f [] (go q) (sym (append-nil (runs_in q.code)), λ k. k)

  module _ (p : FieldParser) (a : Annotated) (gathered : List Field) (closed : List (List Field)) (later : List Annotated)
      (gathers : Gathering p gathered closed)
      (rec : (q : FieldParser) (g : List Field) (gs : List (List Field)) → Gathering q g gs
      → Adds q.code (gather c g gs (plain later)) (and_then (parse_all c q later) (done c))) where
    abbrev more : List Field
    more = gathered ++ (a.field ∷ [])

    abbrev now : ℕ
    now = p.shift + static_width a.field_size

    abbrev grown : List Bit
    grown = p.chunk ++ (bit_of c p.shift a ∷ [])

    -- on from what the field comes to
    abbrev on : Step → Step
    on s = and_then (and_then s λ q. parse_all c q later) (done c)

    -- the runs from a bit field on, by the test of the octet boundary
    abbrev ahead : Bool → List (List (List Field))
    ahead b = elim b as (λ _. List (List (List Field))) [
      | true ↦ gather c [] (closed ++ (more ∷ [])) (plain later)
      | false ↦ gather c more closed (plain later)
    ]

    module _ (wide : static_width a.field_size ≡ width_of c a.field) where
      shift-now : bits_in c more ≡ now
      shift-now = omega (arith, bits-snoc c gathered a.field, gathers.shift)

      chunk-now : grown ≡ placed c 0 more
      chunk-now =
          let e : p.shift ≡ 0 + bits_in c gathered = omega (arith, gathers.shift) in
          ap (λ (l : List Bit). l ++ (bit_of c p.shift a ∷ [])) gathers.chunk
          ∙ ap (λ (n : ℕ). placed c 0 gathered ++ (bit_at c n (static_width a.field_size) a.field ∷ [])) e
          ∙ ap (λ (w : ℕ). placed c 0 gathered ++ (bit_at c (0 + bits_in c gathered) w a.field ∷ [])) wide
          ∙ sym (placed_snoc c 0 gathered a.field)

      pending-now : fields_of (close_chunk p now grown).unchecked_code ≡ placed_run c (closed ++ (more ∷ []))
      pending-now =
          chunk-snoc p.unchecked_code (record { nr = p.chunk_nr; raw_nr = p.raw_nr; fields = grown })
          ∙ ap (λ (l : List (List Bit)). l ++ (grown ∷ [])) gathers.pending
          ∙ ap (λ (x : List Bit). placed_run c closed ++ (x ∷ [])) chunk-now
          ∙ sym (group-snoc c closed more)

      closes : (b : Bool)
          → Adds p.code (gather c [] (closed ++ (more ∷ [])) (plain later))
          (on (elim b [ true ↦ stop Refusal.ScalarTooWide | false ↦ go (close_chunk p now grown) ]))
      closes true = tt
      closes false =
          rec (close_chunk p now grown) [] (closed ++ (more ∷ [])) (record { chunk = refl; shift = refl; pending = pending-now })

      -- at an octet boundary or not
      bounded : (b : Bool)
          → Adds p.code (ahead b)
          (on (elim b [
            | true ↦ elim (ltb 64 now) [ true ↦ stop Refusal.ScalarTooWide | false ↦ go (close_chunk p now grown) ]
            | false ↦ go (open_chunk p now grown)
          ]))
      bounded true = closes (ltb 64 now)
      bounded false =
          rec (open_chunk p now grown) more closed (record { chunk = chunk-now; shift = sym shift-now; pending = gathers.pending })

      bit-adds : Adds p.code (ahead (eqb (bits_in c more % 8) 0)) (on (parse_bit_field c p a))
      unfolding parse_bit_field
      bit-adds =
          subst (λ (n : ℕ). Adds p.code (ahead (eqb (n % 8) 0)) (on (parse_bit_field c p a)))
          (sym shift-now) (bounded (eqb (now % 8) 0))

    -- any other field: the run ends
    behind : (q : FieldParser) → Flushed o p q
        → Adds p.code (end_run closed (gather c gathered [] (plain later))) (and_then (parse_all c q later) (done c))
    behind q f =
        flushed-adds p q closed gathers.pending f (gather c gathered [] (plain later)) (and_then (parse_all c q later) (done c))
        (rec q gathered [] (record { chunk = f.chunk ∙ gathers.chunk; shift = f.shift ∙ gathers.shift; pending = f.pending }))

    emitted-adds : (q : FieldParser) → Flushed o p q → (e : Emit) → EmitOk e
        → Adds p.code (end_run closed (gather c gathered [] (plain later))) (on (emitted q e))
    emitted-adds q f (appends b) ok = behind (append q b) (append-flushed o p q b ok.1 f)
    emitted-adds q f silent ok = behind q f
    emitted-adds q f (refuses why) ok = tt

    other-adds : ragged_field c.source c.scope a.field ≡ false → (s : Step) → FlushedStep o p s
        → Adds p.code (end_run closed (gather c gathered [] (plain later)))
        (on (and_then s λ q. emitted q (parse_unchecked c q.shift a later)))
    other-adds whole (stop why) f = tt
    other-adds whole (go q) f = emitted-adds q f (parse_unchecked c q.shift a later) (unchecked-ok c rows q.shift a later whole)

    field-adds : ragged_field c.source c.scope a.field ≡ false → (b : Bool) → (b ≡ true → static_width a.field_size ≡ width_of c a.field)
        → Adds p.code
        (elim b [
          | true ↦ elim (eqb (bits_in c more % 8) 0) [
            | true ↦ gather c [] (closed ++ (more ∷ [])) (plain later)
            | false ↦ gather c more closed (plain later)
          ]
          | false ↦ end_run closed (gather c gathered [] (plain later))
        ])
        (on (elim b [
          | true ↦ parse_bit_field c p a
          | false ↦ and_then (check_code c p) λ q. emitted q (parse_unchecked c q.shift a later)
        ]))
    field-adds whole true wide = bit-adds (wide refl)
    field-adds whole false wide = other-adds whole (check_code c p) (check-run c p)

  all-adds : (p : FieldParser) (gathered : List Field) (closed : List (List Field)) (xs : List Annotated) → AllFit c xs → Gathering p gathered closed
      → Adds p.code (gather c gathered closed (plain xs)) (and_then (parse_all c p xs) (done c))
  unfolding gather parse_all parse
  all-adds p gathered closed [] fit h = ended p closed h.pending (check_code c p) (check-run c p)
  all-adds p gathered closed (a ∷ later) fit h =
      field-adds p a gathered closed later h (λ q g gs k. all-adds q g gs later fit.1 k) fit.0.whole (is_bit c a.field) fit.0.wide

-- ---- the answer

-- the checked runs are the runs of the fields, with the head's choices
pub record Shaped (c : Setting) (bs : List Block) : Type 0 where
  pub runs_are : runs_in bs ≡ placed_runs c (runs c)
  pub options : AllOptions c.options bs

abbrev OutcomeShaped : Setting → Outcome → Type 0
OutcomeShaped c (refused why) = Unit {0}
OutcomeShaped c (accepted bs) = Shaped c bs

lower-shaped : (c : Setting) → RowsOk c.scope → (xs : List Annotated) → AllFit c xs → plain xs ≡ c.fields → OutcomeShaped c (lower_fields c xs)
unfolding lower_fields
lower-shaped c rows xs fit are =
    by (and_then (parse_all c new xs) (done c))
    (subst (λ (fs : List Field). Adds c rows [] (gather c [] [] fs) (and_then (parse_all c new xs) (done c))) are
    (all-adds c rows new [] [] xs fit (record { chunk = refl; shift = refl; pending = refl })))
  where
    by : (s : Step) → Adds c rows [] (runs c) s → OutcomeShaped c (code_of s)
    by (stop why) m = tt
    by (go p) m = record { runs_are = m.0; options = m.1 tt }

-- of any entry whose fields give these blocks
pub shaped_of : (s : Text) (h : Head) (e : Entry) (bs : List Block) → Lowers s h e bs → Shaped (setting_of s h e) bs
shaped_of s h e bs l =
    subst (OutcomeShaped (setting_of s h e)) l.lowers (lower-shaped (setting_of s h e) l.ok.rows e.fields l.ok.fit l.ok.fields-are)
