-- A field that is no bit field: what it emits, behind what `check_code` comes to; and `done`.
-- Assumes nothing.
use Rattle.std.specs.Prelude.{Result, Ok, Err}
use Rattle.definitions.specs.Refusals.{Verdict}
use mathlib.Core.Bool.{Bool, true, false}
use mathlib.Core.List.{List, []}
use mathlib.Core.Path.{◌≡◌, refl, sym, ap, ◌∙◌, subst}
use Prim.Native.Nat.{ℕ, ◌<◌, ◌^◌}
use lib.ListN.{length}
use Rattle.definitions.specs.Bytes.{Text, text}
use Rattle.definitions.specs.Blocks.{Bit}
use Rattle.definitions.specs.declared.Options.{Options}
use Rattle.definitions.specs.declared.Part.{Part}
use Rattle.definitions.specs.declared.Refusal.{Refusal}
use Rattle.text.specs.Wrote.{Wrote}
use Rattle.text.specs.declared.Writer.{Writer}
use Rattle.text.proofs.Wrotes.{nothing}
use Rattle.stream.specs.Stream.{block_text, calm}
use Rattle.stream.specs.Stream as flow
use Rattle.emits.specs.BlockOf.{block_of, BlockFits, EmitFits}
use Rattle.emits.specs.declared.BlockAt.{BlockAt}
use Rattle.emits.specs.declared.EmitAt.{EmitAt}
use Rattle.plans.specs.Planned.{Said, stops}
use Rattle.plans.specs.Told.{Advance, flush_verdict, on_shift, said_advance, other_advance}
use Rattle.chunks.specs.declared.State.{State}
use Rattle.chunks.specs.Steps.{seen, code_verdict, Advanced}
use Rattle.chunks.proofs.Codes.{code-flushes}
use Rattle.parser.specs.Driver.{said_in, misplaced}

-- ---- what it emits

abbrev quiet : State → State
quiet t = record { shift = t.shift; nr = t.nr; raws = t.raws; pending = false }

module _ (o : Options) (s : Text) (t : State) (e : EmitAt) where
  abbrev Says : Writer → Writer → Result State Refusal → Type 0
  Says old new r = (bits : Part → ℕ) (bs : List Bit) → Advanced (said_advance (calm (seen t bs)) (said_in o s bits e)) bs old new r

  pub block-fits : EmitFits e → {b : BlockAt} → e ≡ EmitAt.Appends b → BlockFits b
  block-fits z h = subst EmitFits h z

  with-emit : {x : EmitAt} → e ≡ x → {old new : Writer} {r : Result State Refusal}
      → ((bits : Part → ℕ) (bs : List Bit) → Advanced (said_advance (calm (seen t bs)) (said_in o s bits x)) bs old new r) → Says old new r
  with-emit h {old} {new} {r} d bits bs =
      subst (λ (x : EmitAt). Advanced (said_advance (calm (seen t bs)) (said_in o s bits x)) bs old new r) (sym h) (d bits bs)

  pub says-block : {b : BlockAt} → e ≡ EmitAt.Appends b → {old new : Writer}
      → ((bits : Part → ℕ) → Wrote old new (block_text (block_of s (text "payload") o bits b)))
      → Says old new (Ok (quiet t))
  says-block h wrote = with-emit h (λ bits bs. record { verdict_is = refl; wrote = wrote bits; goes_on = refl })

  pub says_none : e ≡ EmitAt.Silent → (old : Writer) → length old.out.now < 2 ^ 63 → Says old old (Ok (quiet t))
  says_none h old room = with-emit h (λ bits bs. record { verdict_is = refl; wrote = nothing old room; goes_on = refl })

  pub says-refusal : {why : Refusal} → e ≡ EmitAt.Refuses why → (old : Writer) → length old.out.now < 2 ^ 63 → Says old old (Err why)
  says-refusal h old room = with-emit h (λ bits bs. record { verdict_is = refl; wrote = nothing old room; goes_on = tt })

-- ---- behind `check_code`

module _ (s : flow.State) (must : Bool) (said : Said) where
  abbrev by-flush : (v : Verdict) → Advance
  by-flush v = elim v [
    | (Ok tt) ↦ said_advance (calm s) (on_shift s.shift must said)
    | Err why ↦ record { verdict = Err why; lines = []; after = s }
  ]

  other-by : {v : Verdict} → flush_verdict s.pending s.chunk ≡ v → other_advance s must said ≡ by-flush v
  unfolding other_advance
  other-by e = ap by-flush e

  shift_by : {b : Bool} → misplaced must s.shift ≡ b → on_shift s.shift must said ≡ (elim b [ true ↦ stops Refusal.OctetBoundary | false ↦ said ])
  unfolding on_shift
  shift_by e = ap (λ (b : Bool). elim b as (λ _. Said) [ true ↦ stops Refusal.OctetBoundary | false ↦ said ]) e

module _ (o : Options) (s : Text) (t : State) (len : ℕ) (must : Bool) (e : EmitAt) {v : Verdict} (ev : v ≡ code_verdict t.pending len) where
  abbrev Emits : Writer → Writer → Result State Refusal → Type 0
  Emits old new r = (bits : Part → ℕ) (bs : List Bit) → length bs ≡ len → Advanced (other_advance (seen t bs) must (said_in o s bits e)) bs old new r

  flushed-as : (bs : List Bit) → length bs ≡ len → {x : Verdict} → v ≡ x → flush_verdict t.pending bs ≡ x
  flushed-as bs l h = sym (code-flushes t.pending bs len l) ∙ sym ev ∙ h

  refused : (why : Refusal) (bs : List Bit) (x : flow.State) {a : Advance} → a ≡ record { verdict = Err why; lines = []; after = x }
      → (old : Writer) → length old.out.now < 2 ^ 63 → Advanced a bs old old (Err why)
  refused why bs x q old room =
      subst (λ (a : Advance). Advanced a bs old old (Err why)) (sym q) (record { verdict_is = refl; wrote = nothing old room; goes_on = tt })

  -- 10
  pub stays-pending : {why : Refusal} → v ≡ Err why → {r : Result State Refusal} → r ≡ Err why → (old : Writer) → length old.out.now < 2 ^ 63
      → Emits old old r
  stays-pending {why} h {r} g old room bits bs l =
      subst (λ (r : Result State Refusal). Advanced (other_advance (seen t bs) must (said_in o s bits e)) bs old old r) (sym g)
      (refused why bs (seen t bs) (other-by (seen t bs) must (said_in o s bits e) (flushed-as bs l h)) old room)

  module _ (h : v ≡ (Ok tt)) {b : Bool} (eb : b ≡ misplaced must t.shift) where
    said-as : (bits : Part → ℕ) (bs : List Bit) → length bs ≡ len → {x : Bool} → b ≡ x
        → other_advance (seen t bs) must (said_in o s bits e)
        ≡ said_advance (calm (seen t bs)) (elim x [ true ↦ stops Refusal.OctetBoundary | false ↦ said_in o s bits e ])
    said-as bits bs l f =
        other-by (seen t bs) must (said_in o s bits e) (flushed-as bs l h)
        ∙ ap (said_advance (calm (seen t bs))) (shift_by (seen t bs) must (said_in o s bits e) (sym eb ∙ f))

    -- 11
    pub is-misplaced : b ≡ true → (old : Writer) → length old.out.now < 2 ^ 63 → Emits old old (Err Refusal.OctetBoundary)
    is-misplaced f old room bits bs l = refused Refusal.OctetBoundary bs (calm (seen t bs)) (said-as bits bs l f) old room

    pub is-placed : b ≡ false → {old new : Writer} {r : Result State Refusal} → Says o s t e old new r → Emits old new r
    is-placed f {old} {new} {r} d bits bs l = subst (λ (a : Advance). Advanced a bs old new r) (sym (said-as bits bs l f)) (d bits bs)
