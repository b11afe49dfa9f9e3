-- Where a bit field of the target stands in a checked run, the lines ahead of it, its own and those behind, and what it holds behind its own.
-- Assumes nothing.
use Rattle.std.specs.Prelude.{◌≡◌, Bool, true, false, List, [], ◌∷◌, ◌++◌, ℕ, ◌+◌, ◌/◌, ◌≤◌, take, drop}
use Rattle.definitions.specs.Bytes.{pick}
use Rattle.definitions.specs.Lines.{Src, Before, Line, Stmt}
use Rattle.definitions.specs.Blocks.{span, Kind, Chunk, get_cxx_scalar_type, read_of, mask, raw_name, next_raw, raws_behind, is_reserved, chunk_name, kind_lines, bits_lines, chunk_lines, chunks_lines, body, Block, program}
use Rattle.definitions.specs.FieldParser.{Setting, kind_of}
use Rattle.definitions.specs.declared.Field.{Field}
use Rattle.meaning.specs.Machine.{State, Standing, running, fetch, run}
use Rattle.meaning.specs.Rule.{width_of, bits_in, runs, field_value}
use Rattle.meaning.specs.Runs.{CheckedRun, run_lines, behind_run, all_widths, Passes, fields_of, runs_in, placed, placed_run, placed_runs}

-- a bit field of the target in its group, in its run; not a reserved one, which gets no value
pub record BitField (c : Setting) : Type 0 where
  pub runs_before : List (List (List Field))
  pub groups_before : List (List Field)
  pub before : List Field
  pub field : Field
  pub after : List Field
  pub groups_after : List (List Field)
  pub runs_after : List (List (List Field))
  pub runs_are : runs c ≡ runs_before ++ ((groups_before ++ ((before ++ (field ∷ after)) ∷ groups_after)) ∷ runs_after)
  pub has_value : is_reserved (kind_of c field.desc) ≡ false

-- its group
abbrev pub group_of : {c : Setting} → BitField c → List Field
group_of d = d.before ++ (d.field ∷ d.after)

-- the chunk of a group, by its numbers
abbrev pub group_chunk : Setting → ℕ → ℕ → List Field → Chunk
group_chunk c nr raw_nr g = record { nr = nr; raw_nr = raw_nr; fields = placed c 0 g }

-- its chunk: that of its group, in the checked run that is its run: as many runs are ahead of it, with the same chunks, and its other chunks are those of
-- the groups before and after
pub record ChunkOf (bs : List Block) (c : Setting) (d : BitField c) : Type 0 where
  pub in_run : CheckedRun bs
  pub earlier : List Chunk
  pub nr : ℕ
  pub raw_nr : ℕ
  pub later : List Chunk
  pub chunks_are : in_run.chunks ≡ earlier ++ (group_chunk c nr raw_nr (group_of d) ∷ later)
  pub runs_ahead : runs_in in_run.pre ≡ placed_runs c d.runs_before
  pub groups_ahead : fields_of earlier ≡ placed_run c d.groups_before
  pub groups_behind : fields_of later ≡ placed_run c d.groups_after
  pub options_are : in_run.options ≡ c.options

-- the only field of its group
abbrev pub alone : List Field → List Field → Bool
alone [] [] = true
alone [] (f ∷ fs) = false
alone (f ∷ fs) [] = false
alone (f ∷ fs) (g ∷ gs) = false

module _ (bs : List Block) (c : Setting) (d : BitField c) (h : ChunkOf bs c d) where
  -- the lines of its chunk and all that follow
  abbrev pub at_chunk : List Stmt
  at_chunk =
      body (chunk_lines c.options (group_chunk c h.nr h.raw_nr (group_of d)) ++ chunks_lines c.options h.later) (behind_run h.in_run)

  -- those ahead of its own: the read of its chunk, and its group's fields before it
  abbrev pub lines_ahead : List Line
  lines_ahead =
      pick (alone d.before d.after) []
      (Line.set (Before.chunk (get_cxx_scalar_type (bits_in c (group_of d)))) (chunk_name h.nr) (read_of span c.options.endianness (bits_in c (group_of d)))
      ∷ bits_lines c.options.raw (chunk_name h.nr) h.raw_nr (placed c 0 d.before))

  -- how many tested enums are ahead of it: those that its chunk's number counts, and those of its group
  abbrev pub raws_ahead : ℕ
  raws_ahead = raws_behind h.raw_nr (placed c 0 d.before)

  -- where its first line takes its value from: alone it is read, else cut out of its chunk's variable
  abbrev pub source : Src
  source =
      pick (alone d.before d.after) (read_of span c.options.endianness (bits_in c (group_of d)))
      (Src.bits (chunk_name h.nr) (bits_in c d.before) (mask (width_of c d.field)))

  -- its own lines: what is done with that value
  abbrev pub own_lines : List Line
  own_lines = kind_lines (raw_name c.options.raw raws_ahead) source (kind_of c d.field.desc)

  -- the lines behind its own, and all that follow
  abbrev pub behind_field : List Stmt
  behind_field =
      body
      (bits_lines c.options.raw (chunk_name h.nr) (next_raw raws_ahead (kind_of c d.field.desc))
      (placed c (bits_in c d.before + width_of c d.field) d.after)
      ++ chunks_lines c.options h.later)
      (behind_run h.in_run)

  -- its own lines and all that follow
  abbrev pub at_field : List Stmt
  at_field = body own_lines behind_field

-- the value that the rule gives it, where these are the bytes of the span before its chunk is read: as many octets as its group fills are its group's
abbrev pub ruled : (c : Setting) → BitField c → List ℕ → ℕ
ruled c d bytes = field_value c.options.endianness (take (bits_in c (group_of d) / 8) bytes) (bits_in c d.before) (width_of c d.field)

-- behind the lines of a field of so many bits: its variable holds v; v is the fixed value. A condition of more than 8 bits is left out
abbrev pub Holds : State → Kind → ℕ → ℕ → Type 0
Holds σ (Kind.number x) width v = σ.vars x ≡ v
Holds σ (Kind.condition x) width v = width ≤ 8 → σ.vars x ≡ v
Holds σ (Kind.open_enum x type) width v = σ.vars x ≡ v
Holds σ (Kind.closed_enum x type) width v = σ.vars x ≡ v
Holds σ (Kind.fixed_scalar n) width v = v ≡ n
Holds σ (Kind.fixed_enum type tag) width v = Unit {0}
Holds σ Kind.reserved width v = Unit {0}

-- what the lines give the field in a run from the state σ that has come to it within k steps
pub record Given (bs : List Block) (c : Setting) (d : BitField c) (h : ChunkOf bs c d) (σ : State) (k : ℕ) : Type 0 where
  -- the lines of its chunk are those ahead of its own, its own, and those behind
  pub lines_are : at_chunk bs c d h ≡ body (lines_ahead bs c d h) (at_field bs c d h)
  -- the run stood before the check of the field's run
  pub check_steps : ℕ
  pub at_check : State
  pub stood_before : run check_steps σ (program bs) ≡ running at_check (body (run_lines h.in_run) (behind_run h.in_run))
  -- and then, after so many steps in all, before the lines of its chunk
  pub steps : ℕ
  pub check_first : check_steps ≤ steps
  pub within : steps ≤ k
  pub found : State
  pub stood : run steps σ (program bs) ≡ running found (at_chunk bs c d h)
  -- where the span had lost the octets of the run's chunks before it, and no others
  pub place : found.spans span ≡ drop (all_widths h.earlier / 8) (at_check.spans span)
  -- then it passed the lines ahead of the field's own
  pub at : State
  pub passed : Passes (lines_ahead bs c d h) (at_field bs c d h) found at
  -- there the first of its own takes the rule's value out of the octets in front of the span, to put it into a variable or to compare it
  pub takes : (τ : State) × ((f : ℕ → State → Standing) → fetch at (source bs c d h) f ≡ f (ruled c d (found.spans span)) τ)
  -- and wherever its own lines are passed, it holds that value
  pub holds : (τ : State) → Passes (own_lines bs c d h) (behind_field bs c d h) at τ
      → Holds τ (kind_of c d.field.desc) (width_of c d.field) (ruled c d (found.spans span))
