-- Checked runs of bit fields (document 01, 'Lowering'): where one stands among the blocks of an answer, its lines, the widths of its chunks, and what
-- it is to be run to its end.
-- Assumes nothing.
use Rattle.std.specs.Prelude.{Option, Some, None, ◌≡◌, true, false, List, [], ◌∷◌, ◌++◌, ℕ, ◌+◌, ◌≤◌, length}
use Rattle.definitions.specs.Bytes.{Text}
use Rattle.definitions.specs.Record.{RecordRead, record_is, no_record, read_record}
use Rattle.definitions.specs.Sizes.{Schema, Entry, new_schema}
use Rattle.definitions.specs.Refusals.{is_target}
use Rattle.definitions.specs.Lines.{Expr, Line, Stmt}
use Rattle.definitions.specs.Blocks.{check_size, Bit, Chunk, widths, chunks_lines, body, Block, program}
use Rattle.definitions.specs.FieldParser.{Setting, kind_of}
use Rattle.definitions.specs.Answer.{setting_of}
use Rattle.definitions.specs.declared.Options.{Options}
use Rattle.definitions.specs.declared.Head.{Head}
use Rattle.definitions.specs.declared.Field.{Field}
use Rattle.meaning.specs.Machine.{State, running, excusing, exec, run}
use Rattle.meaning.specs.Rule.{width_of}

-- ---- a checked run: "That check, with its checked number, and the lines flushed behind it are one checked run."

pub record CheckedRun (bs : List Block) : Type 0 where
  pub pre : List Block
  -- the head's choices
  pub options : Options
  -- the checked number
  pub number : ℕ
  pub chunks : List Chunk
  pub post : List Block
  pub blocks_are : bs ≡ pre ++ (Block.checked options number chunks ∷ post)

-- its lines
abbrev pub run_lines : {bs : List Block} → CheckedRun bs → List Line
run_lines r = check_size (Expr.lit r.number) ∷ chunks_lines r.options r.chunks

-- the lines behind it
abbrev pub behind_run : {bs : List Block} → CheckedRun bs → List Stmt
behind_run r = program r.post

-- the sum of the widths of its chunks
abbrev pub all_widths : List Chunk → ℕ
all_widths [] = 0
all_widths (c ∷ cs) = widths c.fields + all_widths cs

-- "all of it is passed without a `return false`": lines b, before the lines l, are run one after the other from the state σ to the state τ, and each
-- leads to the next one
abbrev pub Passes : List Line → List Stmt → State → State → Type 0
Passes [] l σ τ = σ ≡ τ
Passes (x ∷ b) l σ τ = (ρ : State) × (exec excusing σ x (body b l) ≡ running ρ (body b l)) × Passes b l ρ τ

-- within k steps from the state σ, a run of all the lines has come to a place: at one of these steps, the last or an earlier one, no more lines were left
-- than stand at that place and behind it. (Inside a later loop more may be left again.)
pub record ComeTo (place : List Stmt) (bs : List Block) (σ : State) (k : ℕ) : Type 0 where
  pub steps : ℕ
  pub within : steps ≤ k
  pub state : State
  pub left : List Stmt
  pub stood : run steps σ (program bs) ≡ running state left
  pub short : length left ≤ length place

-- in a run of all the lines from the state σ, r was run to its end: within k steps the run stood before the check, and passed all of r
pub record RunToItsEnd (bs : List Block) (r : CheckedRun bs) (σ : State) (k : ℕ) : Type 0 where
  pub steps : ℕ
  pub within : steps ≤ k
  pub before : State
  pub stood : run steps σ (program bs) ≡ running before (body (run_lines r) (behind_run r))
  pub after : State
  pub passed : Passes (run_lines r) (behind_run r) before after

-- ---- the chunks of the checked runs of an answer

-- the fields of chunks
abbrev pub fields_of : List Chunk → List (List Bit)
fields_of [] = []
fields_of (c ∷ cs) = c.fields ∷ fields_of cs

-- of a block: only a checked one is a run
abbrev pub block_run : Block → List (List (List Bit))
block_run (Block.checked o n cs) = fields_of cs ∷ []
block_run (Block.sized_payload x s m) = []
block_run (Block.payload_up_to x n) = []
block_run (Block.payload_to_end x) = []
block_run (Block.array m w a) = []
block_run (Block.padded_array p m w a) = []
block_run (Block.optional_scalar c v order w x) = []
block_run (Block.optional_open c v order w x type) = []
block_run (Block.optional_closed c v order w x type) = []
block_run (Block.optional_nested c v x type) = []
block_run (Block.nested type x) = []
block_run (Block.nested_up_to id n type x) = []

-- the checked runs, in order: each the list of its chunks, and these as lists of their fields
abbrev pub runs_in : List Block → List (List (List Bit))
runs_in [] = []
runs_in (b ∷ bs) = block_run b ++ runs_in bs

-- a group's fields as a chunk has them: each behind s bits and those of the fields before it, with its declared width
abbrev pub placed : Setting → ℕ → List Field → List Bit
placed c s [] = []
placed c s (f ∷ g) = record { shift = s; width = width_of c f; kind = kind_of c f.desc } ∷ placed c (s + width_of c f) g

-- the groups of a run, and all runs
abbrev pub placed_run : Setting → List (List Field) → List (List Bit)
placed_run c [] = []
placed_run c (g ∷ gs) = placed c 0 g ∷ placed_run c gs

abbrev pub placed_runs : Setting → List (List (List Field)) → List (List (List Bit))
placed_runs c [] = []
placed_runs c (r ∷ rs) = placed_run c r ∷ placed_runs c rs

-- ---- the target of a record

-- the head of the record, and the entry of its target in the tables
pub record Target : Type 0 where
  pub head : Head
  pub entry : Entry

-- the first packet or struct with the name that the head asks for
unfoldable pub first_target : Text → Head → Schema → Option Target
first_target s h [] = None
first_target s h (e ∷ es) = elim (is_target s h e) [ true ↦ Some (record { head = h; entry = e }) | false ↦ first_target s h es ]

-- of what was read, and of the record's bytes
abbrev pub target_in : Text → RecordRead → Option Target
target_in s no_record = None
target_in s (record_is h ds) = first_target s h (new_schema s ds)

abbrev pub target_of : Text → Option Target
target_of s = target_in s (read_record s)

-- what its fields are lowered with
abbrev pub setting : Text → Target → Setting
setting s t = setting_of s t.head t.entry
