-- The verdict of a plan without its lines: what the fields come to by the bits and the number of fields of the open chunk. proofs/Verdicts has the law that
-- it is the verdict of what the plan tells.
-- Assumes nothing.
use Rattle.std.specs.Prelude.{Result, Ok, Err, Bool, true, false, List, ℕ, zero, suc, ◌+◌, ◌%◌, ◌<◌, ◌^◌, eqb, ltb}
use Rattle.definitions.specs.Refusals.{Verdict, on_ok}
use Rattle.definitions.specs.declared.Refusal.{Refusal}
use Rattle.emits.specs.declared.EmitAt.{EmitAt}
use Rattle.plans.specs.Plans.{entry_at, width_by}
use Rattle.plans.specs.declared.PlanAt.{PlanAt}
use Rattle.chunks.specs.Steps.{code_verdict}
use Rattle.parser.specs.Driver.{misplaced}
use Rattle.verdicts.specs.declared.Tally.{Tally}

abbrev pub no_tally : Tally
no_tally = record { shift = 0; len = 0; pending = false }

-- ---- one field

abbrev pub emit_verdict : EmitAt → Verdict
emit_verdict (EmitAt.Appends block) = (Ok tt)
emit_verdict EmitAt.Silent = (Ok tt)
emit_verdict (EmitAt.Refuses why) = Err why

-- 10 and 11, and then what it emits
abbrev pub other_verdict : Tally → Bool → EmitAt → Verdict
other_verdict t must emit =
    on_ok (code_verdict t.pending t.len) λ _.
    elim (misplaced must t.shift) [ true ↦ Err Refusal.OctetBoundary | false ↦ emit_verdict emit ]

-- 12: an octet boundary with more than 64 bits; by whether it is a boundary, and whether there are more
abbrev pub bit_by : Tally → ℕ → Bool → Bool → Result Tally Refusal
bit_by t width true true = Err Refusal.ScalarTooWide
bit_by t width true false = Ok (record { shift = 0; len = 0; pending = true })
bit_by t width false wide = Ok (record { shift = t.shift + width; len = t.len + 1; pending = t.pending })

abbrev pub bit_counted : Tally → ℕ → Result Tally Refusal
bit_counted t width = bit_by t width (eqb ((t.shift + width) % 8) 0) (ltb 64 (t.shift + width))

-- the tally behind a field, or its refusal
abbrev pub counted : Tally → PlanAt → Result Tally Refusal
counted t (PlanAt.Bit width later kind) = bit_counted t width
counted t (PlanAt.Other must emit) =
    on_ok (other_verdict t must emit) λ _. Ok (record { shift = t.shift; len = t.len; pending = false })

-- ---- m entries from number k on

unfoldable pub verdict_from : List PlanAt → Tally → ℕ → ℕ → Verdict
verdict_from plan t k zero = code_verdict t.pending t.len
verdict_from plan t k (suc m) = on_ok (counted t (entry_at plan k)) λ u. verdict_from plan u (k + 1) m

-- the sum of bits is a number of the machine
abbrev pub BitsFit : Tally → PlanAt → Type 0
BitsFit t here = t.shift + width_by here < 2 ^ 64
