-- A chunk that closes, by its two ways: it is too wide, or its lines are written.
-- Assumes nothing.
use Rattle.std.specs.Prelude.{Option, Some, None, Result, Ok, Err}
use Rattle.std.specs.Option.{ok_or}
use mathlib.Core.Bool.{Bool, true}
use mathlib.Core.List.{List, [], ◌++◌}
use mathlib.Core.Path.{◌≡◌, refl, sym, ap, ◌∙◌, subst}
use Prim.Native.Nat.{ℕ, ◌+◌, ◌/◌, ◌≤◌, ◌<◌, ◌^◌}
use native.Mathlib.Omega.{arith}
use lib.ListN.{length}
use borrow.Author.Tests.{lt-ltb, le-ltb}
use Rattle.definitions.specs.Bytes.{Text, text}
use Rattle.definitions.specs.Blocks.{Bit, raws_behind}
use Rattle.definitions.specs.FieldParser.{next_nr}
use Rattle.definitions.specs.declared.Options.{Options}
use Rattle.definitions.specs.declared.Refusal.{Refusal}
use Rattle.text.specs.Wrote.{Wrote}
use Rattle.text.specs.declared.Writer.{Writer}
use Rattle.text.proofs.Puts.{still}
use Rattle.text.proofs.Wrotes.{then}
use Rattle.text.specs.Widths.{scalar_type_of}
use Rattle.stream.specs.Stream.{check_text, chunk_text, chunk_at}
use Rattle.stream.specs.Stream as flow
use Rattle.plans.specs.Told.{Advance}
use Rattle.bit_fields.specs.declared.KindAt.{KindAt}
use Rattle.chunk_lines.specs.declared.Chunk.{Chunk}
use Rattle.chunk_lines.specs.Bits.{next_raw_at, all_reserved, alone_of, bits_of, chunk_of, Closed}
use Rattle.chunk_lines.proofs.Fields.{same-raw}
use Rattle.chunks.specs.declared.State.{State}
use Rattle.chunks.specs.Steps.{seen, alone_at, next_by, closed_after, closed_state, close_advance, Closing, Advanced}
use Rattle.chunks.proofs.Numbers.{next_of, too_wide, has-type}

-- ---- the backing type, or the refusal

or-none : (y : Option ℕ) {why : Refusal} → ok_or y Refusal.ScalarTooWide ≡ Err why → (y ≡ None) × (why ≡ Refusal.ScalarTooWide)
or-none None e = (refl, cc)
or-none (Some n) e = let z : ◌≡◌ {A = ℕ} 0 1 = cc in absurd (omega arith)

or-some : (y : Option ℕ) {n : ℕ} → ok_or y Refusal.ScalarTooWide ≡ Ok n → y ≡ Some n
or-some None e = let z : ◌≡◌ {A = ℕ} 0 1 = cc in absurd (omega arith)
or-some (Some n) e = cc

-- ---- the advance, by its test

module _ (o : Options) (s : flow.State) (later : ℕ) where
  abbrev wide : Advance
  wide = record { verdict = Err Refusal.ScalarTooWide; lines = []; after = s }

  abbrev whole : Advance
  whole = record {
    verdict = (Ok tt);
    lines = check_text s.pending ((s.shift + later) / 8) ++ chunk_text o (chunk_at s s.chunk);
    after = closed_after s;
  }

  pub wide-advance : 64 < s.shift → close_advance o s later ≡ wide
  unfolding close_advance
  wide-advance g = rw (lt-ltb _ _ g, close_advance)

  pub whole-advance : s.shift ≤ 64 → close_advance o s later ≡ whole
  unfolding close_advance
  whole-advance g = rw (le-ltb _ _ g, close_advance)

  module _ {y : Option ℕ} (q : y ≡ scalar_type_of s.shift) where
    -- 12
    none-wide : y ≡ None → (u : Writer) → length u.out.now < 2 ^ 63
        → Advanced (close_advance o s later) [] u u (Err Refusal.ScalarTooWide)
    none-wide f u room =
        subst (λ (a : Advance). Advanced a [] u u (Err Refusal.ScalarTooWide)) (sym (wide-advance (too_wide s.shift q f))) (record {
          verdict_is = refl;
          wrote = record { same = refl; put = still u.out.now u.at room };
          goes_on = tt;
        })

    advances-wide : {r : Result ℕ Refusal} → r ≡ ok_or y Refusal.ScalarTooWide → {why : Refusal} → r ≡ Err why → {x : Result State Refusal} → x ≡ Err why
        → (u : Writer) → length u.out.now < 2 ^ 63 → Advanced (close_advance o s later) [] u u x
    advances-wide e f {x} g u room =
        let n = or-none y (sym e ∙ f) in
        subst (λ (x : Result State Refusal). Advanced (close_advance o s later) [] u u x) (sym (g ∙ ap (λ (w : Refusal). Err w) n.1)) (none-wide n.0 u room)

    advances-whole : (backing : ℕ) → y ≡ Some backing → {u u₁ u₂ : Writer} {nr raws : ℕ}
        → Wrote u u₁ (check_text s.pending ((s.shift + later) / 8)) → Wrote u₁ u₂ (chunk_text o (chunk_at s s.chunk))
        → nr ≡ next_nr s.chunk_nr s.chunk → raws ≡ raws_behind s.raw_nr s.chunk
        → Advanced (close_advance o s later) [] u u₂ (Ok (closed_state nr raws))
    advances-whole backing f {u} {u₁} {u₂} {nr} {raws} a b e g =
        subst (λ (x : Advance). Advanced x [] u u₂ (Ok (closed_state nr raws)))
        (sym (whole-advance (has-type s.shift backing q f).0)) (record {
          verdict_is = refl;
          wrote = then a b;
          goes_on =
              ap (λ (x : ℕ). record { shift = 0; chunk = []; chunk_nr = x; raw_nr = raws; pending = true }) e
              ∙ ap (λ (x : ℕ). record { shift = 0; chunk = []; chunk_nr = next_nr s.chunk_nr s.chunk; raw_nr = x; pending = true }) g;
        })

-- ---- a field alone in its chunk

module _ (o : Options) (s : Text) (t : State) (width later : ℕ) (kind : KindAt) {y : Option ℕ} (q : y ≡ scalar_type_of width)
    {r : Result ℕ Refusal} (e : r ≡ ok_or y Refusal.ScalarTooWide) where
  abbrev bit : List Bit
  bit = alone_of o.arrays s (text "payload") width kind

  abbrev alone : flow.State
  alone = alone_at t width bit

  pub alone-wide : {why : Refusal} → r ≡ Err why → {x : Result State Refusal} → x ≡ Err why → (u : Writer) → length u.out.now < 2 ^ 63 → Advanced (close_advance o alone later) [] u u x
  alone-wide f g u room = advances-wide o alone later q e f g u room

  pub alone-closed : (backing : ℕ) → r ≡ Ok backing → {u u₁ u₂ : Writer}
      → Wrote u u₁ (check_text t.pending ((width + later) / 8))
      → ((nr : ℕ) → Wrote u₁ u₂ (chunk_text o (chunk_of nr t.raws bit))) → {raws : ℕ} → raws ≡ next_raw_at t.raws kind
      → {x : State} → x ≡ closed_state t.nr raws → Advanced (close_advance o alone later) [] u u₂ (Ok x)
  alone-closed backing f {u} {u₁} {u₂} a b k x =
      subst (λ (t : State). Advanced (close_advance o alone later) [] u u₂ (Ok t)) (sym x)
      (advances-whole o alone later q backing (or-some y (sym e ∙ f)) a (b t.nr) refl (k ∙ sym (same-raw o.arrays s (text "payload") t.raws kind)))

-- ---- a chunk of two fields or more

module _ (o : Options) (s : Text) (t : State) (c : Chunk) (kinds : List KindAt) (later : ℕ) (z : Closing t c later) {y : Option ℕ}
    (q : y ≡ scalar_type_of t.shift) {r : Result ℕ Refusal} (e : r ≡ ok_or y Refusal.ScalarTooWide) where
  abbrev bits : List Bit
  bits = bits_of o.arrays s (text "payload") c kinds c.len

  pub all-wide : {why : Refusal} → r ≡ Err why → {x : Result State Refusal} → x ≡ Err why → (u : Writer) → length u.out.now < 2 ^ 63 → Advanced (close_advance o (seen t bits) later) [] u u x
  all-wide f g u room = advances-wide o (seen t bits) later q e f g u room

  -- what `put_chunk` asks
  pub closable : {skip : Bool} → skip ≡ all_reserved kinds c.len → (backing : ℕ) → r ≡ Ok backing
      → Closed c kinds (record { nr = t.nr; raws = t.raws; bits = t.shift; backing = backing; skip = skip })
  closable k backing f = let g = has-type t.shift backing q (or-some y (sym e ∙ f)) in record {
    short = z.short;
    more = z.more;
    sum = z.sum;
    small = g.0;
    type = g.1;
    skips = k;
  }

  pub all_closed : (backing : ℕ) → r ≡ Ok backing → {skip : Bool} → skip ≡ all_reserved kinds c.len
      → {u u₁ u₂ : Writer} {nr raws : ℕ}
      → Wrote u u₁ (check_text t.pending ((t.shift + later) / 8))
      → Wrote u₁ u₂ (chunk_text o (chunk_of t.nr t.raws bits)) × (raws ≡ raws_behind t.raws bits)
      → nr ≡ next_by skip t.nr → {x : State} → x ≡ closed_state nr raws → Advanced (close_advance o (seen t bits) later) [] u u₂ (Ok x)
  all_closed backing f k {u} {u₁} {u₂} a b n x =
      subst (λ (t' : State). Advanced (close_advance o (seen t bits) later) [] u u₂ (Ok t')) (sym x)
      (advances-whole o (seen t bits) later q backing (or-some y (sym e ∙ f)) a b.0
      (n ∙ next_of o.arrays s (text "payload") c kinds t.nr k z.more) b.1)
