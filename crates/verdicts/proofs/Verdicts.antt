-- The verdict alone: counted by bits and fields of the open chunk, it is the verdict of what the plan tells. Read `judged` at the end first.
-- Assumes nothing.
use Rattle.std.specs.Prelude.{Result, Ok, Err}
use Rattle.definitions.specs.Refusals.{Verdict, on_ok}
use mathlib.Core.Bool.{Bool, true, false}
use mathlib.Core.List.{List, [], ◌∷◌, ◌++◌}
use mathlib.Core.Path.{◌≡◌, refl, sym, ap, ◌∙◌, subst}
use Prim.Native.Nat.{ℕ, zero, suc, ◌+◌, ◌-◌, ◌/◌, ◌%◌, ◌≤◌, ◌<◌, ◌^◌}
use native.Mathlib.Omega.{arith}
use lib.Dec.{eqb, ltb}
use lib.ListN.{length, length-append}
use borrow.Author.Tests.{eq-eqb, ne_eqb, lt-ltb, le-ltb}
use Rattle.definitions.specs.Bytes.{Text, text}
use Rattle.definitions.specs.Blocks.{Bit, Kind, raws_behind}
use Rattle.definitions.specs.FieldParser.{next_nr}
use Rattle.definitions.specs.declared.Options.{Options}
use Rattle.definitions.specs.declared.Part.{Part}
use Rattle.definitions.specs.declared.Refusal.{Refusal}
use Rattle.stream.specs.Stream.{State, fresh, calm, check_text, chunk_text, chunk_at}
use Rattle.bit_fields.specs.declared.KindAt.{KindAt}
use Rattle.bit_fields.specs.Kinds.{kind_in}
use Rattle.emits.specs.declared.EmitAt.{EmitAt}
use Rattle.plans.specs.declared.PlanAt.{PlanAt}
use Rattle.plans.specs.Planned.{Said, stops, bits_ahead}
use Rattle.plans.specs.Told.{Advance, grown_bits, bit_advance, flush_verdict, on_shift, said_advance, other_advance, advance, Told, joined, tell}
use Rattle.plans.specs.Plans.{entry_at, planned_in, plans_from, width_by, widths_at, Sound}
use Rattle.plans.proofs.Entries.{widths-step}
use Rattle.chunks.specs.Steps.{code_verdict}
use Rattle.chunks.proofs.Codes.{code-flushes}
use Rattle.parser.specs.Driver.{said_in, misplaced}
use Rattle.verdicts.specs.declared.Tally.{Tally}
use Rattle.verdicts.specs.Verdicts.{no_tally, emit_verdict, other_verdict, bit_by, bit_counted, counted, verdict_from, BitsFit}

-- ---- one field: by how much the tally grows

ok-parts : {x u : Tally} → ◌≡◌ {A = Result Tally Refusal} (Ok x) (Ok u) → x ≡ u
ok-parts h = cc

module _ (t : Tally) where
  -- by no more than one field, and the entry's bits
  record Grown (u : Tally) (width : ℕ) : Type 0 where
    pub few : u.len ≤ t.len + 1
    pub bits : u.shift ≤ t.shift + width

  bit-grows : (width : ℕ) (b w : Bool) {u : Tally} → bit_by t width b w ≡ Ok u → Grown u width
  bit-grows width true true h = let z : ◌≡◌ {A = ℕ} 0 1 = cc in absurd (omega arith)
  bit-grows width true false {u} h = subst (λ (x : Tally). Grown x width) (ok-parts h) (record { few = omega arith; bits = omega arith })
  bit-grows width false w {u} h = subst (λ (x : Tally). Grown x width) (ok-parts h) (record { few = omega arith; bits = omega arith })

  other-grows : (v : Verdict) (x : Tally) {u : Tally} → x.len ≡ t.len → x.shift ≡ t.shift → (on_ok v λ _. Ok x) ≡ Ok u → Grown u 0
  other-grows (Ok _) x {u} e f h = subst (λ (x : Tally). Grown x 0) (ok-parts h) (record { few = omega (arith, e); bits = omega (arith, f) })
  other-grows (Err why) x e f h = let z : ◌≡◌ {A = ℕ} 0 1 = cc in absurd (omega arith)

  grows : (here : PlanAt) {u : Tally} → counted t here ≡ Ok u → Grown u (width_by here)
  grows (PlanAt.Bit width later kind) h = bit-grows width (eqb ((t.shift + width) % 8) 0) (ltb 64 (t.shift + width)) h
  grows (PlanAt.Other must emit) h = other-grows (other_verdict t must emit) _ refl refl h

-- ---- it is the verdict of what is told

-- a state of the stream, as far as it counts
abbrev tally_of : State → Tally
tally_of s = record { shift = s.shift; len = length s.chunk; pending = s.pending }

-- a field, and then what follows
module _ (next : State → Told) (f : Tally → Verdict) (e : (u : State) → (next u).verdict ≡ f (tally_of u)) where
  abbrev told-by : Advance → Verdict
  told-by x = (joined x.verdict x.lines (next x.after)).verdict

  step-said : (st : State) (s : Text) (o : Options) (bits : Part → ℕ) (emit : EmitAt)
      → told-by (said_advance st (said_in o s bits emit)) ≡ on_ok (emit_verdict emit) λ _. f (tally_of st)
  step-said st s o bits (EmitAt.Appends block) = e st
  step-said st s o bits EmitAt.Silent = e st
  step-said st s o bits (EmitAt.Refuses why) = refl

  step_other : (st : State) (s : Text) (o : Options) (bits : Part → ℕ) (must : Bool) (emit : EmitAt)
      → told-by (other_advance st must (said_in o s bits emit)) ≡ on_ok (counted (tally_of st) (PlanAt.Other must emit)) f
  unfolding other_advance on_shift
  step_other st s o bits must emit =
      by (flush_verdict st.pending st.chunk)
      ∙ ap (λ (v : Verdict). on_ok (on_ok (flushed v) λ _. Ok (tally_of (calm st))) f) (sym (code-flushes st.pending st.chunk (length st.chunk) refl))
    where
      placed : Bool → Verdict
      placed b = elim b [ true ↦ Err Refusal.OctetBoundary | false ↦ emit_verdict emit ]

      flushed : Verdict → Verdict
      flushed v = on_ok v λ _. placed (misplaced must st.shift)

      flat : (v : Verdict) → (on_ok v λ _. f (tally_of (calm st))) ≡ on_ok (on_ok v λ _. Ok (tally_of (calm st))) f
      flat (Ok _) = refl
      flat (Err why) = refl

      place : (b : Bool) → told-by (said_advance (calm st) (elim b as (λ _. Said) [ true ↦ stops Refusal.OctetBoundary | false ↦ said_in o s bits emit ]))
          ≡ on_ok (on_ok (placed b) λ _. Ok (tally_of (calm st))) f
      place true = refl
      place false = step-said (calm st) s o bits emit ∙ flat (emit_verdict emit)

      by : (v : Verdict) → told-by (elim v as (λ _. Advance) [
        | Ok _ ↦ said_advance (calm st) (on_shift st.shift must (said_in o s bits emit))
        | Err why ↦ record { verdict = Err why; lines = []; after = st }
      ]) ≡ on_ok (on_ok (flushed v) λ _. Ok (tally_of (calm st))) f
      by (Ok _) = place (misplaced must st.shift)
      by (Err why) = refl

  step-bit : (st : State) (o : Options) (kind : Kind) (width later : ℕ)
      → told-by (bit_advance o st kind width later) ≡ on_ok (bit_counted (tally_of st) width) f
  unfolding bit_advance
  step-bit st o kind width later = by (eqb ((st.shift + width) % 8) 0) (ltb 64 (st.shift + width))
    where
      bs : List Bit
      bs = grown_bits o st kind width later

      by : (b w : Bool) → told-by (elim b as (λ _. Advance) [
        | true ↦ elim w as (λ _. Advance) [
          | true ↦ record { verdict = Err Refusal.ScalarTooWide; lines = []; after = st }
          | false ↦ record {
            verdict = Ok tt;
            lines = check_text st.pending ((st.shift + width + later) / 8) ++ chunk_text o (chunk_at st bs);
            after = record { shift = 0; chunk = []; chunk_nr = next_nr st.chunk_nr bs; raw_nr = raws_behind st.raw_nr bs; pending = true };
          }
        ]
        | false ↦ record {
          verdict = Ok tt;
          lines = [];
          after = record { shift = st.shift + width; chunk = bs; chunk_nr = st.chunk_nr; raw_nr = st.raw_nr; pending = st.pending };
        }
      ]) ≡ on_ok (bit_by (tally_of st) width b w) f
      by true true = refl
      by true false = e _
      by false w =
          e _ ∙ ap (λ (n : ℕ). f (record { shift = st.shift + width; len = n; pending = st.pending }))
          (length-append st.chunk (record { shift = st.shift; width = width; kind = kind } ∷ []))

  step : (st : State) (s : Text) (o : Options) (bits : Part → ℕ) (here : PlanAt) (later : ℕ)
      → told-by (advance o st (planned_in o s bits here) later) ≡ on_ok (counted (tally_of st) here) f
  step st s o bits (PlanAt.Bit width behind kind) later = step-bit st o (kind_in o.arrays s (text "payload") kind) width later
  step st s o bits (PlanAt.Other must emit) later = step_other st s o bits must emit

module _ (o : Options) (s : Text) (bits : Part → ℕ) (plan : List PlanAt) where
  verdict-told : (m k : ℕ) (st : State) → (tell o st (plans_from o s bits plan k m)).verdict ≡ verdict_from plan (tally_of st) k m
  unfolding tell plans_from verdict_from
  verdict-told zero k st = sym (code-flushes st.pending st.chunk (length st.chunk) refl)
  verdict-told (suc m) k st =
      step (λ u. tell o u (plans_from o s bits plan (k + 1) m)) (λ t. verdict_from plan t (k + 1) m) (verdict-told m (k + 1))
      st s o bits (entry_at plan k) (bits_ahead (plans_from o s bits plan (k + 1) m))

-- ---- the entries, one after the other

-- before entry k: what is left comes to the verdict of all
pub record Counting (plan : List PlanAt) (n k : ℕ) (t : Tally) : Type 0 where
  pub inside : k ≤ n
  pub few : t.len ≤ k
  pub fits : t.shift + widths_at plan k (n - k) < 2 ^ 31
  pub goes : verdict_from plan t k (n - k) ≡ verdict_from plan no_tally 0 n

module _ (plan : List PlanAt) (n : ℕ) where
  pub counting-starts : Sound plan n → Counting plan n 0 no_tally
  counting-starts z = record {
    inside = omega arith;
    few = omega arith;
    fits = omega (arith, z.sum, ap (widths_at plan 0) all_left);
    goes = ap (verdict_from plan no_tally 0) (sym all_left);
  }
    where
      all_left : n ≡ n - 0
      all_left = omega arith

  -- what is counted is what the plan tells
  pub judged : {r : Verdict} → r ≡ verdict_from plan no_tally 0 n → (o : Options) (s : Text) (bits : Part → ℕ)
      → r ≡ (tell o fresh (plans_from o s bits plan 0 n)).verdict
  judged e o s bits = e ∙ sym (verdict-told o s bits plan n 0 fresh)

  module _ (k : ℕ) (t : Tally) (c : Counting plan n k t) where
    pub counted-all : n ≤ k → {r : Verdict} → r ≡ code_verdict t.pending t.len → r ≡ verdict_from plan no_tally 0 n
    unfolding verdict_from
    counted-all h e = e ∙ ap (verdict_from plan t k) none ∙ c.goes
      where
        none : 0 ≡ n - k
        none = omega arith

    module _ (h : k < n) where
      widths : widths_at plan k (n - k) ≡ width_by (entry_at plan k) + widths_at plan (k + 1) (n - (k + 1))
      widths = widths-step plan n k h

      pub entry-fits : BitsFit t (entry_at plan k)
      entry-fits = omega (arith, c.fits, widths)

      one_less : suc (n - (k + 1)) ≡ n - k
      one_less = omega arith

      module _ {x : Result Tally Refusal} (ex : x ≡ counted t (entry_at plan k)) where
        turns : (on_ok x λ u. verdict_from plan u (k + 1) (n - (k + 1))) ≡ verdict_from plan no_tally 0 n
        unfolding verdict_from
        turns =
            ap (λ (y : Result Tally Refusal). on_ok y λ u. verdict_from plan u (k + 1) (n - (k + 1))) ex
            ∙ ap (verdict_from plan t k) one_less ∙ c.goes

        pub entry-refused : {why : Refusal} → x ≡ Err why → ◌≡◌ {A = Verdict} (Err why) (verdict_from plan no_tally 0 n)
        entry-refused e =
            ap (λ (y : Result Tally Refusal). on_ok y λ u. verdict_from plan u (k + 1) (n - (k + 1))) (sym e) ∙ turns

        pub entry-passed : {u : Tally} → x ≡ Ok u → Counting plan n (k + 1) u
        entry-passed {u} e =
            let g : Grown t u (width_by (entry_at plan k)) = grows t (entry_at plan k) (sym ex ∙ e) in
            record {
              inside = omega arith;
              few = omega (arith, c.few, g.few);
              fits = omega (arith, c.fits, widths, g.bits);
              goes = ap (λ (y : Result Tally Refusal). on_ok y λ u. verdict_from plan u (k + 1) (n - (k + 1))) (sym e) ∙ turns;
            }
