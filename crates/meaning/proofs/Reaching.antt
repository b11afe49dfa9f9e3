-- How a run of a whole answer comes to a checked run and to a bit field in it, and what it finds there.
-- Assumes nothing.
use mathlib.Core.Path.{◌≡◌, refl, sym, ap, ◌∙◌, subst}
use mathlib.Core.List.{List, [], ◌∷◌, ◌++◌, append_assoc, append-nil}
use Prim.Native.Nat.{ℕ, ◌+◌, ◌*◌, ◌-◌, ◌/◌, ◌≤◌}
use native.Mathlib.Omega.{arith}
use lib.ListN.{length, drop, length-drop}
use Rattle.definitions.specs.Bytes.{Text}
use Rattle.definitions.specs.Sizes.{Entry}
use Rattle.definitions.specs.Lines.{Expr, Line, Stmt}
use Rattle.definitions.specs.Blocks.{span, Chunk, widths, chunk_name, chunk_lines, chunks_lines, check_size, body, Block, program}
use Rattle.definitions.specs.FieldParser.{Setting, kind_of, accepted}
use Rattle.definitions.specs.Answer.{answer}
use Rattle.definitions.specs.declared.Options.{Options}
use Rattle.definitions.specs.declared.Head.{Head}
use Rattle.meaning.specs.Machine.{Reply, State, start, Standing, running, fetch, run}
use Rattle.meaning.specs.Rule.{Octets, width_of, bits_in}
use Rattle.meaning.specs.Runs.{CheckedRun, run_lines, behind_run, all_widths, Passes, ComeTo, RunToItsEnd, placed}
use Rattle.meaning.specs.Places.{BitField, group_of, group_chunk, ChunkOf, at_chunk, lines_ahead, source, own_lines, behind_field, at_field, ruled, Holds, Given}
use Rattle.meaning.proofs.Items.{offsets}
use Rattle.meaning.proofs.Wellformed.{SparesAll, ChunkOk, ChunksOk, CheckedOk, BlocksOk}
use Rattle.meaning.proofs.Wp.{Post, wp_lines, held}
use Rattle.meaning.proofs.Entries.{Lowers, has-grounds}
use Rattle.meaning.proofs.Accepted.{blocks-ok-of}
use Rattle.meaning.proofs.Passing.{Through, Passed, passed, passes-hold, run-add, body-append, body-length}
use Rattle.meaning.proofs.Whole.{reach, block-ok, octets-inside}
use Rattle.meaning.proofs.Moves.{eight-widths, Moved, chunks-then, run_moved}
use Rattle.meaning.proofs.Values.{taken-is-fetched, placed-widths, at-chunk, Taken, ahead-taken, own-holds}

-- ---- a checked run

-- of any entry whose fields give these blocks
pub checked-ok-of : (s : Text) (h : Head) (e : Entry) (bs : List Block) → Lowers s h e bs → (r : CheckedRun bs) → CheckedOk r.number r.chunks
checked-ok-of s h e bs l r =
    block-ok r.pre (Block.checked r.options r.number r.chunks) r.post (subst BlocksOk r.blocks_are (blocks-ok-of s h e bs l))

-- so of an accepted record's target
pub checked-ok : (s : Text) (bs : List Block) → answer s ≡ accepted bs → (r : CheckedRun bs) → CheckedOk r.number r.chunks
checked-ok s bs e =
    let g = has-grounds s bs e in
    checked-ok-of s g.0.head g.0.entry bs g.1.lowered

pub number-widths : (n : ℕ) (cs : List Chunk) → CheckedOk n cs → (n ≡ all_widths cs / 8) × (8 * n ≡ all_widths cs)
number-widths n cs ok =
    let w : 8 * n ≡ all_widths cs = omega (arith, ok.number, eight-widths cs ok.chunks) in
    (omega (arith, w), w)

-- passed without a `return false`, it has read and skipped `number` bytes
pub ended-moved : (bs : List Block) (r : CheckedRun bs) → CheckedOk r.number r.chunks → (σ τ : State) → Passes (run_lines r) (behind_run r) σ τ
    → Moved r.number σ τ
ended-moved bs r ok σ τ p =
    passes-hold (run_lines r) (Moved r.number σ) (behind_run r) σ τ (run_moved r.options r.number r.chunks ok σ) p

module _ (bs : List Block) (r : CheckedRun bs) (σ υ : State) (k : ℕ) (l : List Stmt) (came : run k σ (program bs) ≡ running υ l) where
  -- a run that has come to the check or further stood before it
  pub stood_before : length l ≤ length (body (run_lines r) (behind_run r)) → Through (program bs) (body (run_lines r) (behind_run r)) σ k υ l
  stood_before h =
      subst (λ (ds : List Block). Through (program ds) (body (run_lines r) (behind_run r)) σ k υ l) (sym r.blocks_are)
      (reach r.pre (Block.checked r.options r.number r.chunks ∷ r.post) k σ υ l
      (subst (λ (ds : List Block). run k σ (program ds) ≡ running υ l) r.blocks_are came) h)

  -- one that has come behind it passed all of it without a `return false`
  passed-all : CheckedOk r.number r.chunks → length l ≤ length (behind_run r) → RunToItsEnd bs r σ k
  passed-all ok h =
      let t = stood_before (omega (arith, body-length (run_lines r) (behind_run r))) in
      let p =
      passed (run_lines r) (Moved r.number t.state) (behind_run r) l t.state υ t.more
      (run_moved r.options r.number r.chunks ok t.state) t.goes h in
      record {
        steps = t.steps;
        within = omega (arith, t.count);
        before = t.state;
        stood = t.comes;
        after = p.state;
        passed = p.through-all;
      }

-- at the present step or at an earlier one
pub come-behind : (bs : List Block) (r : CheckedRun bs) → CheckedOk r.number r.chunks → (σ : State) (k : ℕ) → ComeTo (behind_run r) bs σ k → RunToItsEnd bs r σ k
come-behind bs r ok σ k m =
    let p : RunToItsEnd bs r σ m.steps = passed-all bs r σ m.state m.steps m.left m.stood ok m.short in
    record {
      steps = p.steps;
      within = omega (arith, p.within, m.within);
      before = p.before;
      stood = p.stood;
      after = p.after;
      passed = p.passed;
    }

-- ---- a bit field's chunk in its run

chunks-split : (o : Options) (a b : List Chunk) → chunks_lines o (a ++ b) ≡ chunks_lines o a ++ chunks_lines o b
chunks-split o [] b = refl
chunks-split o (c ∷ a) b =
    rw (chunks-split o a b) (sym (append_assoc (chunk_lines o c) (chunks_lines o a) (chunks_lines o b)))

pub chunk-at : (a : List Chunk) (c : Chunk) (b : List Chunk) → ChunksOk (a ++ (c ∷ b)) → ChunkOk c
chunk-at [] c b h = h.0
chunk-at (d ∷ a) c b h = chunk-at a c b h.1

offsets-split : (a : List Chunk) (c : Chunk) (b : List Chunk) → offsets (a ++ (c ∷ b)) ≡ offsets a + (widths c.fields / 8 + offsets b)
offsets-split [] c b = omega arith
offsets-split (d ∷ a) c b = omega (arith, offsets-split a c b)

module _ (bs : List Block) (c : Setting) (d : BitField c) (h : ChunkOf bs c d) (ok : CheckedOk h.in_run.number h.in_run.chunks) where
  abbrev its : Chunk
  its = group_chunk c h.nr h.raw_nr (group_of d)

  -- the check and the chunks before its own
  abbrev before : List Line
  before = check_size (Expr.lit h.in_run.number) ∷ chunks_lines c.options h.earlier

  run-split : body (run_lines h.in_run) (behind_run h.in_run) ≡ body before (at_chunk bs c d h)
  run-split =
      ap (λ (o : Options). body (check_size (Expr.lit h.in_run.number) ∷ chunks_lines o h.in_run.chunks) (behind_run h.in_run)) h.options_are
      ∙ ap (λ (ls : List Line). body (check_size (Expr.lit h.in_run.number) ∷ ls) (behind_run h.in_run))
      (ap (chunks_lines c.options) h.chunks_are ∙ chunks-split c.options h.earlier (its ∷ h.later))
      ∙ body-append before _ (behind_run h.in_run)

  -- there are bytes enough for its chunk
  abbrev Enough : Post
  Enough τ = bits_in c (group_of d) / 8 ≤ held τ

  abbrev Here : State → Post
  Here ρ τ = Enough τ × (τ.spans span ≡ drop (all_widths h.earlier / 8) (ρ.spans span))

  front-ok : (a b : List Chunk) → ChunksOk (a ++ b) → ChunksOk a
  front-ok [] b k = tt
  front-ok (x ∷ a) b k = (k.0, front-ok a b k.1)

  earlier-octets : offsets h.earlier ≡ all_widths h.earlier / 8
  earlier-octets = omega (arith, eight-widths h.earlier (front-ok h.earlier (its ∷ h.later) (subst ChunksOk h.chunks_are ok.chunks)))

  before-enough : (σ : State) → wp_lines before (Here σ) σ
  before-enough σ = (
    λ _. tt,
    λ le.
        let sum : offsets h.in_run.chunks ≡ offsets h.earlier + (widths (placed c 0 (group_of d)) / 8 + offsets h.later) =
        ap offsets h.chunks_are ∙ offsets-split h.earlier its h.later in
        let w : widths (placed c 0 (group_of d)) / 8 ≡ bits_in c (group_of d) / 8 = ap (λ (n : ℕ). n / 8) (placed-widths c 0 (group_of d)) in
        subst (λ (ls : List Line). wp_lines ls (Here σ) σ) (append-nil (chunks_lines c.options h.earlier))
        (chunks-then c.options h.earlier [] (Here σ) σ (omega (arith, ok.number, sum))
        (λ τ e. (
          enough h.in_run.number (offsets h.earlier) (widths (placed c 0 (group_of d)) / 8) (offsets h.later) (bits_in c (group_of d) / 8) (held σ) (held τ)
              (ok.number ∙ sum) w le (ap length e.0 ∙ length-drop (offsets h.earlier) (σ.spans span)),
          e.0 ∙ ap (λ (n : ℕ). drop n (σ.spans span)) earlier-octets,
        ))),
  )
    where
      enough : (n a b z m s t : ℕ) → n ≡ a + (b + z) → b ≡ m → n ≤ s → t ≡ s - a → m ≤ t
      enough n a b z m s t p q le e = omega arith

  field_in_run : length (at_field bs c d h) ≤ length (body (run_lines h.in_run) (behind_run h.in_run))
  field_in_run =
      omega (
        arith,
        ap length run-split,
        body-length before (at_chunk bs c d h),
        ap length (at-chunk bs c d h),
        body-length (lines_ahead bs c d h) (at_field bs c d h),
      )

  chunk-in-field : length (at_field bs c d h) ≤ length (at_chunk bs c d h)
  chunk-in-field = omega (arith, ap length (at-chunk bs c d h), body-length (lines_ahead bs c d h) (at_field bs c d h))

  spares : SparesAll (chunk_name h.nr) (placed c 0 (group_of d))
  spares = (chunk-at h.earlier its h.later (subst ChunksOk h.chunks_are ok.chunks)).spares h.nr

  -- from where it stands before the chunk: the lines ahead of the field, and its own
  module _ (σ : State) (k steps more : ℕ) (found υ : State) (l : List Stmt) (count : steps + more ≡ k)
      (stood : run steps σ (program bs) ≡ running found (at_chunk bs c d h)) (goes : run more found (at_chunk bs c d h) ≡ running υ l)
      (short : length l ≤ length (at_field bs c d h)) (octets : Octets (found.spans span)) (room : Enough found)
      (check_steps : ℕ) (early : check_steps ≤ steps) (ρ : State) (stood_before : run check_steps σ (program bs) ≡ running ρ (body (run_lines h.in_run) (behind_run h.in_run)))
      (place : found.spans span ≡ drop (all_widths h.earlier / 8) (ρ.spans span)) where
    from_field : Passed (lines_ahead bs c d h) (Taken bs c d h found octets room spares) (at_field bs c d h) found more υ l → Given bs c d h σ k
    from_field q =
        record {
          lines_are = at-chunk bs c d h;
          check_steps = check_steps;
          at_check = ρ;
          stood_before = stood_before;
          steps = steps;
          check_first = early;
          within = omega arith;
          found = found;
          stood = stood;
          place = place;
          at = q.state;
          passed = q.through-all;
          takes = fetched q.state q.holds;
          holds = λ τ m. passes-hold (own_lines bs c d h) (Holding found) (behind_field bs c d h) q.state τ (own-holds bs c d h found octets room spares q.state q.holds) m;
        }
      where
        Holding : State → Post
        Holding f τ = Holds τ (kind_of c d.field.desc) (width_of c d.field) (ruled c d (f.spans span))

        fetched : (at : State) → Taken bs c d h found octets room spares at
            → (τ : State) × ((f : ℕ → State → Standing) → fetch at (source bs c d h) f ≡ f (ruled c d (found.spans span)) τ)
        fetched at t =
            let f = taken-is-fetched at (source bs c d h) t.1 in
            (f.0, λ g. f.1 g ∙ ap (λ (n : ℕ). g n f.0) t.0)

    from-chunk : Given bs c d h σ k
    from-chunk =
        from_field
        (passed (lines_ahead bs c d h) (Taken bs c d h found octets room spares) (at_field bs c d h) l found υ more (ahead-taken bs c d h found octets room spares)
        (subst (λ (ls : List Stmt). run more found ls ≡ running υ l) (at-chunk bs c d h) goes) short)

  -- a run that has come to the field's own lines, or further
  module _ (frame : List ℕ) (octets : Octets frame) (vars : Text → ℕ) (replies : List Reply) (k : ℕ) (υ : State) (l : List Stmt)
      (came : run k (start frame vars replies) (program bs) ≡ running υ l) (short : length l ≤ length (at_field bs c d h)) where
    abbrev σ : State
    σ = start frame vars replies

    stood-there : (steps more : ℕ) (ρ : State) → run steps σ (program bs) ≡ running ρ (body (run_lines h.in_run) (behind_run h.in_run))
        → Passed before (Here ρ) (at_chunk bs c d h) ρ more υ l → (found : State) → run (length before) ρ (body before (at_chunk bs c d h)) ≡ running found (at_chunk bs c d h)
        → run (steps + length before) σ (program bs) ≡ running found (at_chunk bs c d h)
    stood-there steps more ρ comes p found e =
        run-add steps (length before) σ ρ (program bs) (body (run_lines h.in_run) (behind_run h.in_run)) comes
        ∙ ap (run (length before) ρ) run-split
        ∙ e

    from-run : (t : Through (program bs) (body (run_lines h.in_run) (behind_run h.in_run)) σ k υ l)
        → Passed before (Here t.state) (at_chunk bs c d h) t.state t.more υ l → Given bs c d h σ k
    from-run t p =
        from-chunk σ k (t.steps + length before) p.more p.state υ l (omega (arith, t.count, p.count)) (stood p) p.goes short (bytes p) p.holds.0 t.steps (omega arith) t.state t.comes
        p.holds.1
      where
        stood : (q : Passed before (Here t.state) (at_chunk bs c d h) t.state t.more υ l) → run (t.steps + length before) σ (program bs) ≡ running q.state (at_chunk bs c d h)
        stood q = stood-there t.steps t.more t.state t.comes q q.state q.comes

        bytes : (q : Passed before (Here t.state) (at_chunk bs c d h) t.state t.more υ l) → Octets (q.state.spans span)
        bytes q = octets-inside frame octets vars replies (t.steps + length before) (program bs) (at_chunk bs c d h) q.state (stood q)

    from-through : Through (program bs) (body (run_lines h.in_run) (behind_run h.in_run)) σ k υ l → Given bs c d h σ k
    from-through t =
        from-run t
        (passed before (Here t.state) (at_chunk bs c d h) l t.state υ t.more (before-enough t.state)
        (subst (λ (ls : List Stmt). run t.more t.state ls ≡ running υ l) run-split t.goes) (omega (arith, chunk-in-field)))

    at-present : Given bs c d h σ k
    at-present = from-through (stood_before bs h.in_run σ υ k l came (omega (arith, field_in_run)))

  -- at the present step or at an earlier one
  pub given-bits : (frame : List ℕ) → Octets frame → (vars : Text → ℕ) (replies : List Reply) (k : ℕ)
      → ComeTo (at_field bs c d h) bs (start frame vars replies) k → Given bs c d h (start frame vars replies) k
  given-bits frame octets vars replies k m =
      let g : Given bs c d h (start frame vars replies) m.steps =
      at-present frame octets vars replies m.steps m.state m.left m.stood m.short in
      record {
        lines_are = g.lines_are;
        check_steps = g.check_steps;
        at_check = g.at_check;
        stood_before = g.stood_before;
        steps = g.steps;
        check_first = g.check_first;
        within = omega (arith, g.within, m.within);
        found = g.found;
        stood = g.stood;
        place = g.place;
        at = g.at;
        passed = g.passed;
        takes = g.takes;
        holds = g.holds;
      }
