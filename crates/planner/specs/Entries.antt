-- The entries of a target's plan, outright, by the tables; and what whoever goes over the plan asks of it. In proofs/Stands, `is-plan` says that a plan
-- with these entries is one.
-- Assumes nothing.
use Rattle.std.specs.Prelude.{Bool, true, false, List, ◌≡◌, ℕ, ◌+◌, ◌<◌, ◌≤◌}
use Rattle.definitions.specs.FieldParser.{is_bit, size_backing}
use Rattle.definitions.specs.declared.Options.{Options}
use Rattle.stream.specs.Stream.{run_bits, width_of}
use Rattle.tables.specs.Tables.{Tables, rows_of, fields_of}
use Rattle.conditions.specs.IfNames.{cond_names}
use Rattle.field_kinds.specs.KindOf.{kind_at}
use Rattle.emits.specs.Target.{setting_at, rest_at, field_in, annotated_at}
use Rattle.fields.specs.Parsed.{parsed_at}
use Rattle.plans.specs.Planned.{aligned, plans_of}
use Rattle.plans.specs.Plans.{no_plan, entry_at, plans_from, Sound}
use Rattle.plans.specs.declared.PlanAt.{PlanAt}

module _ (t : Tables) (i n : ℕ) (o : Options) where
  -- the entry of field k, by whether it is a bit field
  abbrev pub plan_by : ℕ → Bool → PlanAt
  plan_by k b = elim b [
    | true ↦
        PlanAt.Bit
        (width_of (annotated_at t i n k))
        (run_bits (setting_at t i n o) (rest_at t i n (k + 1)))
        (kind_at t.source (rows_of t i) (cond_names (fields_of t i n)) (field_in t i n k).desc)
    | false ↦ PlanAt.Other (aligned (field_in t i n k)) (parsed_at t i n k o)
  ]

  unfoldable pub plan_at : ℕ → PlanAt
  plan_at k = plan_by k (is_bit (setting_at t i n o) (field_in t i n k))

  pub record Entries (plan : List PlanAt) : Type 0 where
    pub planned : (k : ℕ) → k < n → entry_at plan k ≡ plan_at k
    pub unplanned : (k : ℕ) → n ≤ k → k < 64 → entry_at plan k ≡ no_plan

  -- its entries stand for what the fields come to, and are as a driver asks
  pub record IsPlan (plan : List PlanAt) : Type 0 where
    pub stands : plans_from o t.source (λ id. size_backing t.source id (fields_of t i n)) plan 0 n ≡ plans_of (setting_at t i n o) (rest_at t i n 0)
    pub sound : Sound plan n
