-- The by-value plan as what its entries stand for, in a record with its options.
-- Assumes nothing.
use Rattle.std.specs.Prelude.{false, List, [], ◌∷◌, ◌≡◌, ℕ, zero, suc, ◌+◌, ◌-◌, ◌<◌, ◌^◌, get_or}
use Rattle.definitions.specs.Bytes.{Text, text}
use Rattle.definitions.specs.declared.Options.{Options}
use Rattle.definitions.specs.declared.Part.{Part}
use Rattle.bit_fields.specs.Kinds.{kind_in}
use Rattle.bit_fields.specs.declared.KindAt.{KindAt}
use Rattle.emits.specs.declared.EmitAt.{EmitAt}
use Rattle.emits.specs.BlockOf.{emit_of, EmitFits}
use Rattle.plans.specs.Planned.{said_by, Planned, bit, other}
use Rattle.plans.specs.declared.PlanAt.{PlanAt}

-- an entry that no field has
abbrev pub no_plan : PlanAt
no_plan = PlanAt.Other false EmitAt.Silent

-- outside the array nothing is read
abbrev pub any_plan : PlanAt
any_plan = PlanAt.Bit 0 0 KindAt.Reserved

abbrev pub entry_at : List PlanAt → ℕ → PlanAt
entry_at plan k = get_or plan k any_plan

-- `bits` gives the bits of an array's size variable: they are not written
abbrev pub planned_in : Options → Text → (Part → ℕ) → PlanAt → Planned
planned_in o s bits (PlanAt.Bit width later kind) = bit width (kind_in o.arrays s (text "payload") kind)
planned_in o s bits (PlanAt.Other must emit) = other must (said_by (emit_of s (text "payload") o bits emit))

-- m entries from number k on
unfoldable pub plans_from : Options → Text → (Part → ℕ) → List PlanAt → ℕ → ℕ → List Planned
plans_from o s bits plan k zero = []
plans_from o s bits plan k (suc m) = planned_in o s bits (entry_at plan k) ∷ plans_from o s bits plan (k + 1) m

-- ---- what a driver asks of a plan of n entries

-- the bits of the bit fields among m entries from number k on, up to the next other
abbrev pub run_by : PlanAt → ℕ → ℕ
run_by (PlanAt.Bit width later kind) behind = width + behind
run_by (PlanAt.Other must emit) behind = 0

unfoldable pub run_at : List PlanAt → ℕ → ℕ → ℕ
run_at plan k zero = 0
run_at plan k (suc m) = run_by (entry_at plan k) (run_at plan (k + 1) m)

-- the bits of all bit fields among them
abbrev pub width_by : PlanAt → ℕ
width_by (PlanAt.Bit width later kind) = width
width_by (PlanAt.Other must emit) = 0

unfoldable pub widths_at : List PlanAt → ℕ → ℕ → ℕ
widths_at plan k zero = 0
widths_at plan k (suc m) = width_by (entry_at plan k) + widths_at plan (k + 1) m

-- the bits behind a bit field are those of its run; the bytes of a block are numbers of the machine
abbrev pub SoundBy : PlanAt → ℕ → Type 0
SoundBy (PlanAt.Bit width later kind) behind = later ≡ behind
SoundBy (PlanAt.Other must emit) behind = EmitFits emit

pub record Sound (plan : List PlanAt) (n : ℕ) : Type 0 where
  pub sum : widths_at plan 0 n < 2 ^ 31
  pub entries : (k : ℕ) → k < n → SoundBy (entry_at plan k) (run_at plan (k + 1) (n - (k + 1)))
