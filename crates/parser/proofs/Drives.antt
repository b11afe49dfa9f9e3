-- The driver over the entries: `new`, a turn for each, and `done`. What is left to tell, behind what is written, is all that the plan tells.
-- Assumes nothing.
use Rattle.std.specs.Prelude.{Result, Ok, Err}
use Rattle.std.proofs.lemmas.Result.{IfOk-at_ok}
use Rattle.definitions.specs.Refusals.{Verdict}
use mathlib.Core.List.{List, [], ◌++◌, append_assoc, append-nil}
use mathlib.Core.Path.{◌≡◌, refl, sym, ap, ◌∙◌, subst}
use Prim.Native.Nat.{ℕ, ◌+◌, ◌-◌, ◌≤◌, ◌<◌, ◌^◌}
use native.Mathlib.Omega.{arith}
use lib.ListN.{length, replicate, length-replicate}
use Rattle.definitions.specs.Bytes.{Text, text}
use Rattle.definitions.specs.declared.Options.{Options}
use Rattle.definitions.specs.declared.Part.{Part}
use Rattle.definitions.specs.declared.Refusal.{Refusal}
use Rattle.text.specs.Wrote.{Wrote}
use Rattle.text.specs.declared.Writer.{Writer}
use Rattle.text.proofs.Puts.{kept}
use Rattle.text.proofs.Wrotes.{then, alike, nothing}
use Rattle.stream.specs.Stream.{fresh}
use Rattle.stream.specs.Stream as flow
use Rattle.bit_fields.specs.declared.KindAt.{KindAt}
use Rattle.plans.specs.declared.PlanAt.{PlanAt}
use Rattle.plans.specs.Planned.{Planned}
use Rattle.plans.specs.Told.{Advance, advance, Told, joined, tell}
use Rattle.plans.specs.Plans.{entry_at, planned_in, plans_from, run_at, widths_at, Sound}
use Rattle.plans.proofs.Entries.{plans-step, plans-end, ahead-is}
use Rattle.chunk_lines.specs.declared.Chunk.{Chunk}
use Rattle.chunk_lines.specs.Bits.{sum_to, bits_of}
use Rattle.chunk_lines.proofs.Fields.{bits-length}
use Rattle.chunks.specs.declared.State.{State}
use Rattle.chunks.specs.Steps.{seen, new_state, no_fields, code_verdict, verdict_of}
use Rattle.chunks.proofs.Codes.{code-flushes}
use Rattle.parser.specs.Driver.{Tells}
use Rattle.parser.proofs.Turns.{Going, fields_in, Turned}

abbrev no_kinds : List KindAt
no_kinds = replicate 64 KindAt.Reserved

module _ (o : Options) (s : Text) (plan : List PlanAt) (n : ℕ) (start : Writer) where
  abbrev rest : (Part → ℕ) → ℕ → List Planned
  rest bits k = plans_from o s bits plan k (n - k)

  -- all that the plan tells
  abbrev whole : (Part → ℕ) → Told
  whole bits = tell o fresh (plans_from o s bits plan 0 n)

  all_left : n ≡ n - 0
  all_left = omega arith

  -- from entry k on
  abbrev left : (Part → ℕ) → ℕ → State → Chunk → List KindAt → Told
  left bits k t c kinds = tell o (seen t (fields_in o s plan n c kinds)) (rest bits k)

  -- before entry k: what is written, and then what is left
  pub record Goes (bits : Part → ℕ) (w : Writer) (k : ℕ) (t : State) (c : Chunk) (kinds : List KindAt) : Type 0 where
    pub lines : Text
    pub wrote : Wrote start w lines
    pub goes : whole bits ≡ joined (Ok tt) lines (left bits k t c kinds)

  pub record Run (w : Writer) (k : ℕ) (t : State) (c : Chunk) (kinds : List KindAt) : Type 0 where
    pub tells : (bits : Part → ℕ) → Goes bits w k t c kinds
    pub going : Going plan n k t c kinds

  new-run : (n ≤ 64) × Sound plan n → length start.out.now < 2 ^ 63 → Run start 0 new_state no_fields no_kinds
  unfolding bits_of sum_to
  new-run z room = record {
    tells = λ bits. record {
      lines = [];
      wrote = nothing start room;
      goes = ap (λ (m : ℕ). tell o fresh (plans_from o s bits plan 0 m)) all_left;
    };
    going = record {
      few = omega arith;
      numbers = omega arith;
      tested = omega arith;
      sum = refl;
      fits = omega (arith, z.1.sum, ap (widths_at plan 0) all_left);
      shifts-long = length-replicate {A = ℕ} 64 0;
      widths-long = length-replicate {A = ℕ} 64 0;
      kinds-long = length-replicate {A = KindAt} 64 KindAt.Reserved;
    };
  }

  pub run-start : (n ≤ 64) × Sound plan n → {c : Chunk} → c ≡ no_fields → {t : State} → t ≡ new_state → length start.out.now < 2 ^ 63
      → Run start 0 t c no_kinds
  run-start z {c} ec {t} et room =
      subst (λ (c : Chunk). Run start 0 t c no_kinds) (sym ec) (subst (λ (t : State). Run start 0 t no_fields no_kinds) (sym et) (new-run z room))

  -- the answer behind what is written
  abbrev Ends : Writer → Verdict → Type 0
  Ends w r = (bits : Part → ℕ) → Tells (whole bits) start w r

  told-as : {v : Verdict} {lines : Text} {w : Writer} {x : Told} → x ≡ record { verdict = v; lines = lines } → Wrote start w lines → Tells x start w v
  told-as {v} {lines} {w} e wrote = subst (λ (x : Told). Tells x start w v) (sym e) (record { verdict_is = refl; wrote = wrote })

  module _ (w : Writer) (k : ℕ) (t : State) (c : Chunk) (kinds : List KindAt) (run : Run w k t c kinds) where
    pub run-room : length w.out.now < 2 ^ 63
    run-room = let p : Wrote start w _ = (run.tells (λ id. 0)).wrote in omega (arith, kept p.put, p.put.room)

    -- ---- `done`

    pub run-done : n ≤ k → {r : Verdict} → r ≡ code_verdict t.pending c.len → Ends w r
    unfolding tell
    run-done h {r} e bits =
        let g : Goes bits w k t c kinds = run.tells bits in
        let d : left bits k t c kinds ≡ record { verdict = r; lines = [] } =
        ap (tell o (seen t (fields_in o s plan n c kinds))) (plans-end o s bits plan n k h)
        ∙ ap (λ (v : Verdict). record { verdict = v; lines = [] })
        (sym (code-flushes t.pending (fields_in o s plan n c kinds) c.len (bits-length o.arrays s (text "payload") c kinds c.len)) ∙ sym e) in
        told-as (g.goes ∙ ap (joined (Ok tt) g.lines) d) (alike (sym (append-nil g.lines)) g.wrote)

    -- ---- a turn

    module _ (h : k < n) {q : Result State Refusal} {d : Chunk} {held : List KindAt} {next : Writer}
        (u : Turned o s plan n k t c kinds w next q d held) where
      abbrev goes_by : (Part → ℕ) → Advance
      goes_by bits = advance o (seen t (fields_in o s plan n c kinds)) (planned_in o s bits (entry_at plan k)) (run_at plan (k + 1) (n - (k + 1)))

      turn : (bits : Part → ℕ) → left bits k t c kinds
          ≡ joined (goes_by bits).verdict (goes_by bits).lines (tell o (goes_by bits).after (rest bits (k + 1)))
      unfolding tell
      turn bits =
          ap (tell o (seen t (fields_in o s plan n c kinds))) (plans-step o s bits plan n k h)
          ∙ ap (λ (b : ℕ).
          let a : Advance = advance o (seen t (fields_in o s plan n c kinds)) (planned_in o s bits (entry_at plan k)) b in
          joined a.verdict a.lines (tell o a.after (rest bits (k + 1))))
          (ahead-is o s bits plan (k + 1) (n - (k + 1)))

      pub run-stop : {why : Refusal} → q ≡ Err why → {r : Verdict} → r ≡ Err why → Ends next r
      run-stop {why} e {r} f bits =
          let g : Goes bits w k t c kinds = run.tells bits in
          subst (λ (r : Verdict). Tells (whole bits) start next r) (sym f)
          (told-as
          (g.goes ∙ ap (joined (Ok tt) g.lines) (turn bits
          ∙ ap (λ (v : Verdict). joined v (goes_by bits).lines (tell o (goes_by bits).after (rest bits (k + 1))))
          (sym (u.steps bits).verdict_is ∙ ap verdict_of e)))
          (then g.wrote (u.steps bits).wrote))

      pub run_on : {t' : State} → q ≡ Ok t' → Run next (k + 1) t' d held
      run_on {t'} e = record {
        tells = λ bits.
            let g : Goes bits w k t c kinds = run.tells bits in
            record {
              lines = g.lines ++ (goes_by bits).lines;
              wrote = then g.wrote (u.steps bits).wrote;
              goes =
                  g.goes ∙ ap (joined (Ok tt) g.lines) (turn bits
                  ∙ ap (λ (v : Verdict). joined v (goes_by bits).lines (tell o (goes_by bits).after (rest bits (k + 1))))
                  (sym (u.steps bits).verdict_is ∙ ap verdict_of e)
                  ∙ ap (λ (x : flow.State). joined (Ok tt) (goes_by bits).lines (tell o x (rest bits (k + 1))))
                  (sym (IfOk-at_ok _ e (u.steps bits).goes_on)))
                  ∙ ap (λ (x : Text). record { verdict = (left bits (k + 1) t' d held).verdict; lines = x })
                  (sym (append_assoc g.lines (goes_by bits).lines (left bits (k + 1) t' d held).lines));
            };
        going = u.going t' e;
      }
