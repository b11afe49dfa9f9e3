-- A plan with the entries of specs/Entries stands for what the fields come to; its bits are those of the runs, and its numbers fit.
-- Assumes nothing.
use mathlib.Core.Bool.{Bool, true, false}
use mathlib.Core.List.{List, [], ◌∷◌}
use mathlib.Core.Path.{◌≡◌, refl, sym, ap, ◌∙◌}
use Prim.Native.Nat.{ℕ, zero, suc, ◌+◌, ◌-◌, ◌<◌, ◌≤◌, ◌^◌}
use native.Mathlib.Omega.{arith}
use Rattle.definitions.specs.Sizes.{Annotated}
use Rattle.definitions.specs.Refusals.{static_sum}
use Rattle.definitions.specs.FieldParser.{Setting, kind_of, is_bit, parse_unchecked, Emit, size_backing}
use Rattle.definitions.specs.declared.Options.{Options}
use Rattle.definitions.specs.declared.Part.{Part}
use Rattle.stream.specs.Stream.{run_bits, width_of}
use Rattle.tables.specs.Tables.{Tables, fields_of}
use Rattle.field_kinds.proofs.Agree.{kinds-agree}
use Rattle.emits.specs.Target.{setting_at, rest_at, field_in, annotated_at, Fine}
use Rattle.emits.proofs.Rests.{rest-step, rest_end}
use Rattle.emits.proofs.Fines.{sum-fine}
use Rattle.fields.proofs.Answers.{answer-agrees, answer-fits}
use Rattle.plans.specs.Planned.{Planned, bit, other, aligned, said_by, plan_of, plans_of}
use Rattle.plans.specs.Plans.{entry_at, planned_in, plans_from, run_by, run_at, width_by, widths_at, SoundBy}
use Rattle.plans.specs.declared.PlanAt.{PlanAt}
use Rattle.planner.specs.Entries.{plan_by, plan_at, Entries, IsPlan}

module _ (t : Tables) (i n : ℕ) (o : Options) where
  abbrev c : Setting
  c = setting_at t i n o

  abbrev rest : ℕ → List Annotated
  rest = rest_at t i n

  abbrev here : ℕ → Annotated
  here = annotated_at t i n

  abbrev backing : Part → ℕ
  backing id = size_backing t.source id (fields_of t i n)

  abbrev is-bit : ℕ → Bool
  is-bit k = is_bit c (field_in t i n k)

  step : (k : ℕ) → k < n → rest k ≡ here k ∷ rest (k + 1)
  step k h = rest-step t.source t.rows t.values t.fields i n k h

  end : (k : ℕ) → n ≤ k → rest k ≡ []
  end k h = rest_end t.source t.rows t.values t.fields i n k h

  -- ---- one entry

  entry-stands : (k : ℕ) → planned_in o t.source backing (plan_at t i n o k) ≡ plan_of c (here k) (rest (k + 1))
  unfolding plan_at plan_of
  entry-stands k = by (is-bit k)
    where
      by : (b : Bool) → planned_in o t.source backing (plan_by t i n o k b) ≡ elim b [
        | true ↦ bit (width_of (here k)) (kind_of c (field_in t i n k).desc)
        | false ↦ other (aligned (field_in t i n k)) (said_by (parse_unchecked c 0 (here k) (rest (k + 1))))
      ]
      by true = ap (bit (width_of (here k))) (kinds-agree c (field_in t i n k).desc)
      by false =
          ap (λ (e : Emit). other (aligned (field_in t i n k)) (said_by e))
          (answer-agrees t.source t.rows t.values t.fields i n k o)

  -- the run from field k on
  entry-run : (k : ℕ) → run_by (plan_at t i n o k) (run_bits c (rest (k + 1))) ≡ run_bits c (here k ∷ rest (k + 1))
  unfolding plan_at run_bits
  entry-run k = by (is-bit k)
    where
      by : (b : Bool) → run_by (plan_by t i n o k b) (run_bits c (rest (k + 1))) ≡ elim b [ true ↦ width_of (here k) + run_bits c (rest (k + 1)) | false ↦ 0 ]
      by true = refl
      by false = refl

  entry-width : (k : ℕ) → width_by (plan_at t i n o k) ≤ width_of (here k)
  unfolding plan_at
  entry-width k = by (is-bit k)
    where
      by : (b : Bool) → width_by (plan_by t i n o k b) ≤ width_of (here k)
      by true = omega arith
      by false = omega arith

  entry-sound : Fine t i n → (k : ℕ) → k < n → SoundBy (plan_at t i n o k) (run_bits c (rest (k + 1)))
  unfolding plan_at
  entry-sound fine k h = by (is-bit k)
    where
      by : (b : Bool) → SoundBy (plan_by t i n o k b) (run_bits c (rest (k + 1)))
      by true = refl
      by false = answer-fits t.source t.rows t.values t.fields i n k o fine h

  -- ---- the m entries from number k on

  module _ (plan : List PlanAt) (entries : Entries t i n o plan) where
    all-stand : (k m : ℕ) → k + m ≡ n → plans_from o t.source backing plan k m ≡ plans_of c (rest k)
    unfolding plans_from plans_of
    all-stand k zero e = ap (plans_of c) (sym (end k (omega arith)))
    all-stand k (suc m) e =
        ap (λ (p : PlanAt). planned_in o t.source backing p ∷ plans_from o t.source backing plan (k + 1) m) (entries.planned k (omega arith))
        ∙ ap (λ (p : Planned). p ∷ plans_from o t.source backing plan (k + 1) m) (entry-stands k)
        ∙ ap (λ (ps : List Planned). plan_of c (here k) (rest (k + 1)) ∷ ps) (all-stand (k + 1) m (omega arith))
        ∙ ap (plans_of c) (sym (step k (omega arith)))

    all-run : (k m : ℕ) → k + m ≡ n → run_at plan k m ≡ run_bits c (rest k)
    unfolding run_at run_bits
    all-run k zero e = ap (run_bits c) (sym (end k (omega arith)))
    all-run k (suc m) e =
        ap (λ (p : PlanAt). run_by p (run_at plan (k + 1) m)) (entries.planned k (omega arith))
        ∙ ap (run_by (plan_at t i n o k)) (all-run (k + 1) m (omega arith))
        ∙ entry-run k
        ∙ ap (run_bits c) (sym (step k (omega arith)))

    -- the widths are among the static sizes
    all-widths : (k m : ℕ) → k + m ≡ n → widths_at plan k m ≤ static_sum (rest k)
    unfolding widths_at static_sum
    all-widths k zero e = omega arith
    all-widths k (suc m) e =
        omega (
          arith,
          ap width_by (entries.planned k (omega arith)),
          entry-width k,
          all-widths (k + 1) m (omega arith),
          ap static_sum (step k (omega arith)),
        )

    all_fit : Fine t i n → widths_at plan 0 n < 2 ^ 31
    all_fit fine = omega (arith, all-widths 0 n (omega arith), sum-fine t.source t.rows t.values t.fields i n fine 0 (omega arith))

    all_sound : Fine t i n → (k : ℕ) → k < n → SoundBy (entry_at plan k) (run_at plan (k + 1) (n - (k + 1)))
    all_sound fine k h = rw (entries.planned k h, all-run (k + 1) (n - (k + 1)) (omega arith)) (entry-sound fine k h)

pub is-plan : {t : Tables} {i n : ℕ} {o : Options} {plan : List PlanAt} → Fine t i n → Entries t i n o plan → IsPlan t i n o plan
is-plan {t} {i} {n} {o} {plan} fine entries = record {
  stands = all-stand t i n o plan entries 0 n (omega arith);
  sound = record { sum = all_fit t i n o plan entries fine; entries = all_sound t i n o plan entries fine };
}
