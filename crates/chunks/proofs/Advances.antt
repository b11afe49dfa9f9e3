-- A bit field's advance, by its tests: its chunk stays open, or closes.
-- Assumes nothing.
use Rattle.std.specs.Prelude.{Result, Ok, Err, IfOk}
use Rattle.definitions.specs.Refusals.{Verdict}
use mathlib.Core.Bool.{Bool, true, false}
use mathlib.Core.List.{List, [], ◌∷◌}
use mathlib.Core.Path.{◌≡◌, refl, sym, ap, ◌∙◌}
use Prim.Native.Nat.{ℕ, ◌+◌, ◌%◌, ◌≤◌}
use native.Mathlib.Omega.{arith}
use lib.Dec.{ltb}
use borrow.Author.Tests.{eq-eqb, ne_eqb, ltb-true, ltb-false}
use Rattle.definitions.specs.Bytes.{pick}
use Rattle.definitions.specs.Blocks.{Bit, Kind, should_skip_value}
use Rattle.definitions.specs.FieldParser.{next_nr}
use Rattle.definitions.specs.declared.Options.{Options}
use Rattle.definitions.specs.declared.Refusal.{Refusal}
use Rattle.text.proofs.Wrotes.{alike}
use Rattle.stream.specs.Stream as flow
use Rattle.plans.specs.Told.{Advance, grown_bits, bit_advance}
use Rattle.text.specs.declared.Writer.{Writer}
use Rattle.chunks.specs.declared.State.{State}
use Rattle.chunks.specs.Steps.{seen, closed_after, close_advance, verdict_of, Advanced}
use Rattle.chunks.proofs.Closes.{wide-advance, whole-advance}

-- the number goes up by one at most
picked : (b : Bool) (nr : ℕ) → pick b nr (nr + 1) ≤ nr + 1
picked true nr = omega arith
picked false nr = omega arith

pub next-below : (nr : ℕ) (bs : List Bit) → next_nr nr bs ≤ nr + 1
next-below nr [] = omega arith
next-below nr (b ∷ []) = omega arith
next-below nr (b ∷ d ∷ bs) = picked (should_skip_value (b ∷ d ∷ bs)) nr

-- the state behind a chunk that closed
module _ (o : Options) (s : flow.State) (later : ℕ) where
  by_width : (b : Bool) → ltb 64 s.shift ≡ b → (close_advance o s later).verdict ≡ (Ok tt)
      → (close_advance o s later).after ≡ closed_after s
  by_width true e v =
      let q : Err Refusal.ScalarTooWide ≡ (Ok tt) =
      ap (λ (a : Advance). a.verdict) (sym (wide-advance o s later (ltb-true 64 s.shift e))) ∙ v in
      let z : ◌≡◌ {A = ℕ} 0 1 = cc in
      absurd (omega arith)
  by_width false e v = ap (λ (a : Advance). a.after) (whole-advance o s later (ltb-false 64 s.shift e))

  pub closed_after_lem : (close_advance o s later).verdict ≡ (Ok tt)
      → (close_advance o s later).after ≡ closed_after s
  closed_after_lem v = by_width (ltb 64 s.shift) refl v

module _ (o : Options) (s : flow.State) (kind : Kind) (width later : ℕ) where
  -- the state with the field in its chunk
  abbrev pub grown : flow.State
  grown =
      record {
        shift = s.shift + width;
        chunk = grown_bits o s kind width later;
        chunk_nr = s.chunk_nr;
        raw_nr = s.raw_nr;
        pending = s.pending;
      }

  pub open-advance : ((s.shift + width) % 8 ≡ 0 → ⊥) → bit_advance o s kind width later ≡ record { verdict = (Ok tt); lines = []; after = grown }
  unfolding bit_advance
  open-advance h = rw (ne_eqb _ _ h, bit_advance)

  -- at an octet boundary, that of a chunk which closes
  record Same (a b : Advance) : Type 0 where
    verdict_is : a.verdict ≡ b.verdict
    lines_are : a.lines ≡ b.lines
    after_is : a.verdict ≡ (Ok tt) → a.after ≡ b.after

  by-test : (b : Bool) → ltb 64 (s.shift + width) ≡ b → (s.shift + width) % 8 ≡ 0
      → Same (close_advance o grown later) (bit_advance o s kind width later)
  unfolding bit_advance close_advance
  by-test true e h =
      rw (eq-eqb _ _ h, e, bit_advance, close_advance)
      (record { verdict_is = refl; lines_are = refl; after_is = λ v. absurd (let z : ◌≡◌ {A = ℕ} 0 1 = cc in omega arith) })
  by-test false e h = rw (eq-eqb _ _ h, e, bit_advance, close_advance) (record { verdict_is = refl; lines_are = refl; after_is = λ v. refl })

  pub closes : (s.shift + width) % 8 ≡ 0 → {bs : List Bit} {u u₁ : Writer} {r : Result State Refusal}
      → Advanced (close_advance o grown later) bs u u₁ r → Advanced (bit_advance o s kind width later) bs u u₁ r
  closes h {bs} {r = r} d =
      let q : Same (close_advance o grown later) (bit_advance o s kind width later) = by-test (ltb 64 (s.shift + width)) refl h in
      record {
        verdict_is = d.verdict_is ∙ q.verdict_is;
        wrote = alike q.lines_are d.wrote;
        goes_on = on r d.verdict_is d.goes_on q.after_is;
      }
    where
      on : (r : Result State Refusal) {v : Verdict} {x y : flow.State} → verdict_of r ≡ v → IfOk r (λ t. seen t bs ≡ x) → (v ≡ Ok tt → x ≡ y)
          → IfOk r (λ t. seen t bs ≡ y)
      on (Ok t) e g f = g ∙ f (sym e)
      on (Err why) e g f = tt
