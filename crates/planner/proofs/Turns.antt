-- The walk from the last field to the first: what is planned from number k on, and the turn of each kind of field.
-- Assumes nothing.
use mathlib.Core.Bool.{Bool, true, false}
use mathlib.Core.List.{List, [], ◌∷◌}
use mathlib.Core.Path.{◌≡◌, refl, sym, ap, ◌∙◌}
use Prim.Native.Nat.{ℕ, ◌+◌, ◌-◌, ◌≤◌, ◌<◌, ◌^◌}
use native.Mathlib.Omega.{arith}
use lib.Dec.{eqb}
use lib.ListN.{length, set, take, replicate, length-set, get_or-replicate, length-replicate}
use lib.Seq.{get_or-set_same, get_or-set_other}
use borrow.Author.Tests.{eqb-true, eqb-false}
use Rattle.definitions.specs.Sizes.{Annotated, annotate_field, static_width}
use Rattle.definitions.specs.Refusals.{large_size, static_sum}
use Rattle.definitions.specs.FieldParser.{Setting, is_bit}
use Rattle.definitions.specs.declared.Field.{Field}
use Rattle.definitions.specs.declared.Options.{Options}
use Rattle.definitions.specs.declared.Part.{Part}
use Rattle.definitions.specs.declared.Size.{Size}
use Rattle.stream.specs.Stream.{run_bits, width_of}
use Rattle.stream.proofs.Steps.{run-bit, run-no}
use Rattle.tables.specs.Tables.{Tables, tables_of, rows_of, fields_of}
use Rattle.bit_fields.specs.declared.KindAt.{KindAt}
use Rattle.conditions.specs.IfNames.{cond_names, Gathered}
use Rattle.field_kinds.specs.KindOf.{kind_at}
use Rattle.emits.specs.Target.{setting_at, rest_at, field_in, annotated_at, Fine}
use Rattle.emits.specs.declared.EmitAt.{EmitAt}
use Rattle.emits.proofs.Rests.{rest-step, rest_end}
use Rattle.emits.proofs.Fines.{sum-fine, read-fine}
use Rattle.fields.specs.Parsed.{parsed_at}
use Rattle.plans.specs.Planned.{aligned}
use Rattle.plans.specs.Plans.{no_plan, any_plan, entry_at}
use Rattle.plans.specs.declared.PlanAt.{PlanAt}
use Rattle.planner.specs.Entries.{plan_by, plan_at, Entries}

-- ---- the bits of a run are among the static sizes

module _ (c : Setting) where
  by_bit : (b : Bool) (a : Annotated) (later : List Annotated) → is_bit c a.field ≡ b → run_bits c later ≤ static_sum later
      → run_bits c (a ∷ later) ≤ static_sum (a ∷ later)
  unfolding static_sum
  by_bit true a later e h = omega (arith, run-bit c a later e, h)
  by_bit false a later e h = omega (arith, run-no c a later e)

  run-below : (xs : List Annotated) → run_bits c xs ≤ static_sum xs
  unfolding run_bits static_sum
  run-below [] = omega arith
  run-below (a ∷ later) = by_bit (is_bit c a.field) a later refl (run-below later)

-- ---- an entry, by its parts

same_bit : {w x l m : ℕ} {a b : KindAt} → w ≡ x → l ≡ m → a ≡ b → PlanAt.Bit w l a ≡ PlanAt.Bit x m b
same_bit p q r = cc

same-other : {b d : Bool} {e f : EmitAt} → b ≡ d → e ≡ f → PlanAt.Other b e ≡ PlanAt.Other d f
same-other p q = cc

-- ---- the walk

module _ (s rows values fields : List ℕ) (i n : ℕ) (o : Options) where
  abbrev tables : Tables
  tables = tables_of s rows values fields

  abbrev c : Setting
  c = setting_at tables i n o

  abbrev rest : ℕ → List Annotated
  rest = rest_at tables i n

  abbrev here : ℕ → Annotated
  here = annotated_at tables i n

  -- from number k on all is planned, and `later` is the bits of the run there
  pub record Filled (plan : List PlanAt) (later k : ℕ) : Type 0 where
    pub fine : Fine tables i n
    pub small : k ≤ n
    pub long : length plan ≡ 64
    pub bits : later ≡ run_bits c (rest k)
    pub planned : (j : ℕ) → k ≤ j → j < n → entry_at plan j ≡ plan_at tables i n o j
    pub unplanned : (j : ℕ) → n ≤ j → j < 64 → entry_at plan j ≡ no_plan

  pub filled-start : Fine tables i n → Filled (replicate 64 no_plan) 0 n
  unfolding run_bits
  filled-start fine = record {
    fine = fine;
    small = omega arith;
    long = length-replicate 64 no_plan;
    bits = ap (run_bits c) (sym (rest_end s rows values fields i n n (omega arith)));
    planned = λ j a l. absurd (omega arith);
    unplanned = λ j a l. get_or-replicate 64 j no_plan any_plan l;
  }

  pub filled-end : {plan : List PlanAt} {later k : ℕ} → Filled plan later k → k ≤ 0 → Entries tables i n o plan
  filled-end w h = record { planned = λ j l. w.planned j (omega arith) l; unplanned = w.unplanned }

  module _ {plan : List PlanAt} {later k : ℕ} (w : Filled plan later k) (h : 0 < k) where
    abbrev j : ℕ
    j = k - 1

    step : rest j ≡ here j ∷ rest k
    step =
        rest-step s rows values fields i n j (omega (arith, w.small))
        ∙ ap (λ (k : ℕ). here j ∷ rest k) (let z : j + 1 ≡ k = omega arith in z)

    module _ {p : PlanAt} (e : p ≡ plan_at tables i n o j) where
      by : (l : ℕ) → j ≤ l → l < n → (b : Bool) → eqb l j ≡ b → entry_at (set plan j p) l ≡ plan_at tables i n o l
      by l a h true q =
          let z : l ≡ j = eqb-true l j q in
          ap (entry_at (set plan j p)) z ∙ get_or-set_same plan j p any_plan (omega (arith, w.fine.few, w.small, w.long)) ∙ e ∙ ap (plan_at tables i n o) (sym z)
      by l a h false q = get_or-set_other plan j l p any_plan (eqb-false l j q) ∙ w.planned l (omega (arith, eqb-false l j q)) h

      entry : {more : ℕ} → more ≡ run_bits c (rest j) → Filled (set plan j p) more j
      entry q = record {
        fine = w.fine;
        small = omega (arith, w.small);
        long = length-set plan j p ∙ w.long;
        bits = q;
        planned = λ l a h. by l a h (eqb l j) refl;
        unplanned = λ l a b. get_or-set_other plan j l p any_plan (λ e. absurd (omega (arith, e, w.small))) ∙ w.unplanned l a b;
      }

    pub size_fits : {f : Field} → f ≡ field_in tables i n j → large_size (annotate_field s (rows_of tables i) (fields_of tables i n) f) ≡ false
    size_fits ef = read-fine s rows values fields i n j ef w.fine (omega (arith, w.small))

    module _ {f : Field} (ef : f ≡ field_in tables i n j) {b : Bool}
        (eb : (n : ℕ) (o : Options) → b ≡ is_bit (setting_at tables i n o) f) where
      is : b ≡ is_bit c (field_in tables i n j)
      is = eb n o ∙ ap (is_bit c) ef

      taken : {d : Bool} → b ≡ d → plan_by tables i n o j d ≡ plan_at tables i n o j
      unfolding plan_at
      taken q = ap (plan_by tables i n o j) (sym q ∙ is)

      pub filled-other : b ≡ false → {e : EmitAt} → e ≡ parsed_at tables i n j o → {must : Bool} → must ≡ aligned f
          → Filled (set plan j (PlanAt.Other must e)) 0 j
      filled-other hb ee em =
          entry
          (same-other (em ∙ ap aligned ef) ee ∙ taken hb)
          (sym (ap (run_bits c) step ∙ run-no c (here j) (rest k) (sym is ∙ hb)))

      module _ (hb : b ≡ true) {z : Size} (ez : z ≡ annotate_field s (rows_of tables i) (fields_of tables i n) f)
          {width : ℕ} (ew : width ≡ static_width z) where
        wide : width ≡ width_of (here j)
        wide = ew ∙ ap static_width (ez ∙ ap (annotate_field s (rows_of tables i) (fields_of tables i n)) ef)

        more : later + width ≡ run_bits c (rest j)
        more = omega (arith, w.bits, wide, ap (run_bits c) step, run-bit c (here j) (rest k) (sym is ∙ hb))

        pub bits_fit : later + width < 2 ^ 64
        bits_fit = omega (arith, more, run-below c (rest j), sum-fine s rows values fields i n w.fine j (omega (arith, w.small)))

        pub filled-bit : {m : ℕ} {conds : List Part} → Gathered (cond_names (fields_of tables i n)) m conds
            → {kind : KindAt} → kind ≡ kind_at s (rows_of tables i) (take m conds) f.desc
            → Filled (set plan j (PlanAt.Bit width later kind)) (later + width) j
        filled-bit {m} {conds} g {kind} ek = entry (same_bit wide behind is-kind ∙ taken hb) more
          where
            behind : later ≡ run_bits c (rest (j + 1))
            behind = w.bits ∙ ap (λ (k : ℕ). run_bits c (rest k)) (let z : k ≡ j + 1 = omega arith in z)

            is-kind : kind ≡ kind_at s (rows_of tables i) (cond_names (fields_of tables i n)) (field_in tables i n j).desc
            is-kind =
                ek ∙ ap (λ (names : List Part). kind_at s (rows_of tables i) names f.desc) g.are
                ∙ ap (λ (f : Field). kind_at s (rows_of tables i) (cond_names (fields_of tables i n)) f.desc) ef
