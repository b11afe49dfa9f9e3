-- One turn of the driver: what each kind of entry comes to is an advance of the plan, and what holds before the next entry.
-- Assumes nothing.
use Rattle.std.specs.Prelude.{Result, Ok, Err}
use Rattle.std.proofs.lemmas.Result.{IfOk-at_ok}
use Rattle.definitions.specs.Refusals.{Verdict}
use mathlib.Core.Bool.{Bool, true, false, ◌&&◌}
use mathlib.Core.List.{List, [], ◌∷◌, ◌++◌}
use mathlib.Core.Path.{◌≡◌, refl, sym, ap, ◌∙◌, subst}
use Prim.Native.Nat.{ℕ, zero, suc, ◌+◌, ◌-◌, ◌%◌, ◌≤◌, ◌<◌, ◌^◌}
use native.Mathlib.Omega.{arith}
use lib.Dec.{eqb}
use lib.ListN.{length, length-set, set}
use borrow.Author.Tests.{eqb-true, eqb-false}
use Rattle.definitions.specs.Bytes.{Text, text}
use Rattle.definitions.specs.Blocks.{Bit, Kind}
use Rattle.definitions.specs.declared.Options.{Options}
use Rattle.definitions.specs.declared.Part.{Part}
use Rattle.definitions.specs.declared.Refusal.{Refusal}
use Rattle.definitions.proofs.Raws.{raws-most}
use Rattle.text.specs.declared.Writer.{Writer}
use Rattle.text.proofs.Wrotes.{alike, nothing}
use Rattle.stream.specs.Stream.{calm}
use Rattle.stream.specs.Stream as flow
use Rattle.bit_fields.specs.declared.KindAt.{KindAt}
use Rattle.bit_fields.specs.Kinds.{kind_in}
use Rattle.emits.specs.BlockOf.{EmitFits}
use Rattle.emits.specs.declared.EmitAt.{EmitAt}
use Rattle.plans.specs.declared.PlanAt.{PlanAt}
use Rattle.plans.specs.Planned.{Said, says, silent, stops}
use Rattle.plans.specs.Told.{Advance, bit_advance, flush_verdict, on_shift, said_advance, other_advance, advance}
use Rattle.plans.specs.Plans.{entry_at, planned_in, run_at, width_by, widths_at, SoundBy, Sound}
use Rattle.plans.proofs.Entries.{widths-step, run-below}
use Rattle.chunk_lines.specs.declared.Chunk.{Chunk}
use Rattle.chunk_lines.specs.Bits.{sum_to, alone_of, bits_of}
use Rattle.chunk_lines.proofs.Fields.{bits-length}
use Rattle.chunks.specs.declared.State.{State}
use Rattle.chunks.specs.Steps.{seen, alone_at, pushed, opened_state, closed_after, close_advance, Closing, verdict_of, Advanced}
use Rattle.chunks.proofs.Grown.{sum_more, grown-bits}
use Rattle.chunks.proofs.Advances.{next-below, closed_after_lem, grown, open-advance, closes}
use Rattle.parser.specs.Driver.{said_in, is_alone}

-- ---- before entry k: the chunk has at most as many fields as were met, and so have it and the tested enums before it; its shift is the sum of its
-- widths, and the bits to come fit

pub record Going (plan : List PlanAt) (n k : ℕ) (t : State) (c : Chunk) (kinds : List KindAt) : Type 0 where
  pub few : c.len ≤ k
  pub numbers : t.nr ≤ k
  pub tested : t.raws + c.len ≤ k
  pub sum : t.shift ≡ sum_to c.widths c.len
  pub fits : t.shift + widths_at plan k (n - k) < 2 ^ 31
  pub shifts-long : length c.shifts ≡ 64
  pub widths-long : length c.widths ≡ 64
  pub kinds-long : length kinds ≡ 64

-- a state behind a field that is no bit field
module _ (s : flow.State) where
  said-after : (x : Said) → (said_advance (calm s) x).after ≡ calm s
  said-after (says t) = refl
  said-after silent = refl
  said-after (stops why) = refl

  by-flush : (must : Bool) (said : Said) (v : Verdict) → flush_verdict s.pending s.chunk ≡ v → (other_advance s must said).verdict ≡ (Ok tt)
      → (other_advance s must said).after ≡ calm s
  unfolding other_advance
  by-flush must said (Ok tt) e p = rw (e, other_advance) (said-after (on_shift s.shift must said))
  by-flush must said (Err why) e p =
      let q : Err why ≡ (Ok tt) =
      ap (λ (v : Verdict). (elim v as (λ _. Advance) [
        | (Ok tt) ↦ said_advance (calm s) (on_shift s.shift must said)
        | Err why ↦ record { verdict = Err why; lines = []; after = s }
      ]).verdict) (sym e) ∙ p in
      let z : ◌≡◌ {A = ℕ} 0 1 = cc in
      absurd (omega arith)

  pub other_after : (must : Bool) (said : Said) → (other_advance s must said).verdict ≡ (Ok tt) → (other_advance s must said).after ≡ calm s
  other_after must said p = by-flush must said (flush_verdict s.pending s.chunk) refl p

module _ (o : Options) (s : Text) (plan : List PlanAt) (n : ℕ) where
  abbrev pub fields_in : Chunk → List KindAt → List Bit
  fields_in c kinds = bits_of o.arrays s (text "payload") c kinds c.len

  -- what entry k comes to, with chunk and kinds behind it
  pub record Turned (k : ℕ) (t : State) (c : Chunk) (kinds : List KindAt) (old new : Writer) (r : Result State Refusal) (d : Chunk) (held : List KindAt)
      : Type 0 where
    pub steps : (bits : Part → ℕ)
        → Advanced (advance o (seen t (fields_in c kinds)) (planned_in o s bits (entry_at plan k)) (run_at plan (k + 1) (n - (k + 1))))
        (fields_in d held) old new r
    pub going : (u : State) → r ≡ Ok u → Going plan n (k + 1) u d held

  module _ (k : ℕ) (t : State) (c : Chunk) (kinds : List KindAt) (h : k < n) (b : n ≤ 64) (z : Sound plan n) (g : Going plan n k t c kinds) where
    abbrev behind : ℕ
    behind = run_at plan (k + 1) (n - (k + 1))

    sound-as : {x : PlanAt} → x ≡ entry_at plan k → SoundBy x behind
    sound-as e = subst (λ (x : PlanAt). SoundBy x behind) (sym e) (z.entries k h)

    widths-as : {x : PlanAt} → x ≡ entry_at plan k → widths_at plan k (n - k) ≡ width_by x + widths_at plan (k + 1) (n - (k + 1))
    widths-as e = widths-step plan n k h ∙ ap (λ (x : PlanAt). width_by x + widths_at plan (k + 1) (n - (k + 1))) (sym e)

    -- ---- a field that is no bit field

    module _ {must : Bool} {emit : EmitAt} (known : entry_at plan k ≡ PlanAt.Other must emit) where
      other-is : PlanAt.Other must emit ≡ entry_at plan k
      other-is = sym known

      pub emit-fits : EmitFits emit
      emit-fits = sound-as other-is

      pub turned-other : {old new : Writer} {r : Result State Refusal}
          → ((bits : Part → ℕ) (bs : List Bit) → length bs ≡ c.len → Advanced (other_advance (seen t bs) must (said_in o s bits emit)) bs old new r)
          → Turned k t c kinds old new r c kinds
      turned-other {old} {new} {r} d =
          let l : length (fields_in c kinds) ≡ c.len = bits-length o.arrays s (text "payload") c kinds c.len in
          record {
            steps = λ bits.
                subst (λ (x : PlanAt).
                Advanced (advance o (seen t (fields_in c kinds)) (planned_in o s bits x) behind) (fields_in c kinds) old new r)
                other-is (d bits (fields_in c kinds) l);
            going = λ u v.
                let q : seen u (fields_in c kinds) ≡ calm (seen t (fields_in c kinds)) =
                IfOk-at_ok _ v (d (λ id. 0) (fields_in c kinds) l).goes_on
                ∙ other_after (seen t (fields_in c kinds)) must (said_in o s (λ id. 0) emit)
                (sym (d (λ id. 0) (fields_in c kinds) l).verdict_is ∙ ap verdict_of v) in
                record {
                  few = omega (arith, g.few);
                  numbers = omega (arith, g.numbers, ap (λ (x : flow.State). x.chunk_nr) q);
                  tested = omega (arith, g.tested, ap (λ (x : flow.State). x.raw_nr) q);
                  sum = ap (λ (x : flow.State). x.shift) q ∙ g.sum;
                  fits = omega (arith, g.fits, widths-as other-is, ap (λ (x : flow.State). x.shift) q);
                  shifts-long = g.shifts-long;
                  widths-long = g.widths-long;
                  kinds-long = g.kinds-long;
                };
          }

    -- ---- a bit field

    module _ {width later : ℕ} {kind : KindAt} (known : entry_at plan k ≡ PlanAt.Bit width later kind) where
      bit_is : PlanAt.Bit width later kind ≡ entry_at plan k
      bit_is = sym known

      later-is : later ≡ behind
      later-is = sound-as bit_is

      room : c.len < 64
      room = omega (arith, g.few)

      below : t.shift + width + later < 2 ^ 31
      below = omega (arith, g.fits, widths-as bit_is, later-is, run-below plan (k + 1) (n - (k + 1)))

      pub shift_fits : t.shift + width < 2 ^ 64
      shift_fits = omega (arith, below)

      pub alone-fits : (width + later < 2 ^ 64) × (t.raws + 1 < 2 ^ 64)
      alone-fits = (omega (arith, below), omega (arith, g.tested, h, b))

      abbrev what : Kind
      what = kind_in o.arrays s (text "payload") kind

      -- its advance, in the plan's words
      turned : {old new : Writer} {r : Result State Refusal} (d : Chunk) (held : List KindAt)
          → Advanced (bit_advance o (seen t (fields_in c kinds)) what width later) (fields_in d held) old new r
          → ((u : State) → r ≡ Ok u → Going plan n (k + 1) u d held) → Turned k t c kinds old new r d held
      turned {old} {new} {r} d held a going = record {
        steps = λ bits.
            subst (λ (x : PlanAt).
            Advanced (advance o (seen t (fields_in c kinds)) (planned_in o s bits x) behind) (fields_in d held) old new r) bit_is
            (subst (λ (m : ℕ). Advanced (bit_advance o (seen t (fields_in c kinds)) what width m) (fields_in d held) old new r) later-is a);
        going = going;
      }

      -- behind a chunk that closed, which leaves the arrays as they are
      closed-going : (u : flow.State) → u.chunk_nr ≡ t.nr → u.raw_nr + length u.chunk ≤ k + 1 → (v : State) (d : Chunk) (held : List KindAt) → d.len ≡ 0
          → length d.shifts ≡ 64 → length d.widths ≡ 64 → length held ≡ 64 → seen v [] ≡ (close_advance o u later).after
          → (close_advance o u later).verdict ≡ (Ok tt) → Going plan n (k + 1) v d held
      unfolding sum_to
      closed-going u nr raws v d held len ls lw lk q e =
          let a : seen v [] ≡ closed_after u = q ∙ closed_after_lem o u later e in
          let x : v.shift ≡ 0 = ap (λ (y : flow.State). y.shift) a in
          record {
            few = omega (arith, len);
            numbers = omega (arith, g.numbers, nr, ap (λ (y : flow.State). y.chunk_nr) a, next-below u.chunk_nr u.chunk);
            tested = omega (arith, len, raws, ap (λ (y : flow.State). y.raw_nr) a, raws-most u.raw_nr u.chunk);
            sum = x ∙ ap (sum_to d.widths) (sym len);
            fits = omega (arith, g.fits, widths-as bit_is, x);
            shifts-long = ls;
            widths-long = lw;
            kinds-long = lk;
          }

      -- alone in its chunk
      module _ {yes : Bool} (ey : yes ≡ is_alone c.len width) where
        alone-len : yes ≡ true → c.len ≡ 0
        alone-len f = eqb-true c.len 0 (first (eqb c.len 0) (eqb (width % 8) 0) (sym ey ∙ f))
          where
            first : (a b : Bool) → (a && b) ≡ true → a ≡ true
            first true b q = refl
            first false b q = q

        alone-whole : yes ≡ true → width % 8 ≡ 0
        alone-whole f = eqb-true (width % 8) 0 (second (eqb c.len 0) (eqb (width % 8) 0) (sym ey ∙ f))
          where
            second : (a b : Bool) → (a && b) ≡ true → b ≡ true
            second true b q = q
            second false b q = let z : ◌≡◌ {A = ℕ} 0 1 = cc in absurd (omega arith)

        pub turned-alone : yes ≡ true → {old new : Writer} {r : Result State Refusal}
            → Advanced (close_advance o (alone_at t width (alone_of o.arrays s (text "payload") width kind)) later) [] old new r
            → Turned k t c kinds old new r c kinds
        unfolding bits_of sum_to
        turned-alone f {old} {new} {r} d =
            let len : c.len ≡ 0 = alone-len f in
            let none : fields_in c kinds ≡ [] = ap (bits_of o.arrays s (text "payload") c kinds) len in
            let zero-shift : t.shift ≡ 0 = g.sum ∙ ap (sum_to c.widths) len in
            let as-grown : alone_at t width (alone_of o.arrays s (text "payload") width kind) ≡ grown o (seen t (fields_in c kinds)) what width later =
            ap (λ (x : ℕ). record {
              shift = x;
              chunk = record { shift = 0; width = width; kind = what } ∷ [];
              chunk_nr = t.nr;
              raw_nr = t.raws;
              pending = t.pending;
            }) (let z : width ≡ 0 + width = omega arith in z)
            ∙ ap (λ (x : ℕ). record {
              shift = x + width;
              chunk = record { shift = x; width = width; kind = what } ∷ [];
              chunk_nr = t.nr;
              raw_nr = t.raws;
              pending = t.pending;
            }) (sym zero-shift)
            ∙ ap (λ (bs : List Bit). record {
              shift = t.shift + width;
              chunk = bs ++ (record { shift = t.shift; width = width; kind = what } ∷ []);
              chunk_nr = t.nr;
              raw_nr = t.raws;
              pending = t.pending;
            }) (sym none) in
            turned c kinds
            (subst (λ (bs : List Bit). Advanced (bit_advance o (seen t (fields_in c kinds)) what width later) bs old new r) (sym none)
            (closes o (seen t (fields_in c kinds)) what width later
            (ap (λ (x : ℕ). x % 8) (let y : t.shift + width ≡ width = omega (arith, zero-shift) in y) ∙ alone-whole f)
            (subst (λ (u : flow.State). Advanced (close_advance o u later) [] old new r) as-grown d)))
            (λ u v. closed-going _ refl (omega (arith, g.tested, len)) u c kinds len g.shifts-long g.widths-long g.kinds-long (IfOk-at_ok _ v d.goes_on)
            (sym d.verdict_is ∙ ap verdict_of v))

        -- in a chunk with others
        module _ (f : yes ≡ false) {d : Chunk} (ed : d ≡ pushed c t.shift width) {u : State} (eu : u ≡ opened_state t width) where
          abbrev held : List KindAt
          held = set kinds c.len kind

          d-long : length d.shifts ≡ 64
          d-long = ap (λ (x : Chunk). length x.shifts) ed ∙ length-set c.shifts c.len t.shift ∙ g.shifts-long

          d-wide : length d.widths ≡ 64
          d-wide = ap (λ (x : Chunk). length x.widths) ed ∙ length-set c.widths c.len width ∙ g.widths-long

          held-long : length held ≡ 64
          held-long = length-set kinds c.len kind ∙ g.kinds-long

          len_is : d.len ≡ c.len + 1
          len_is = ap (λ (x : Chunk). x.len) ed

          shift_is : u.shift ≡ t.shift + width
          shift_is = ap (λ (x : State). x.shift) eu

          sum_is : u.shift ≡ sum_to d.widths d.len
          sum_is =
              shift_is ∙ ap (λ (x : ℕ). x + width) g.sum
              ∙ sym (sum_more c.widths c.len width (omega (arith, room, g.widths-long)))
              ∙ ap (λ (x : Chunk). sum_to x.widths x.len) (sym ed)

          bits_are : fields_in d held ≡ fields_in c kinds ++ (record { shift = t.shift; width = width; kind = what } ∷ [])
          bits_are =
              ap (λ (x : Chunk). fields_in x held) ed
              ∙ grown-bits o.arrays s (text "payload") c kinds kind t.shift width (omega (arith, room, g.shifts-long))
              (omega (arith, room, g.widths-long)) (omega (arith, room, g.kinds-long))

          seen_as : seen u (fields_in d held) ≡ grown o (seen t (fields_in c kinds)) what width later
          seen_as =
              ap (λ (x : State). seen x (fields_in d held)) eu
              ∙ ap (λ (bs : List Bit). record {
                shift = t.shift + width;
                chunk = bs;
                chunk_nr = t.nr;
                raw_nr = t.raws;
                pending = t.pending;
              }) bits_are

          -- which stays open
          pub turned-open : (u.shift % 8 ≡ 0 → ⊥) → (old : Writer) → length old.out.now < 2 ^ 63 → Turned k t c kinds old old (Ok u) d held
          turned-open w old l =
              let q : bit_advance o (seen t (fields_in c kinds)) what width later
              ≡ record { verdict = (Ok tt); lines = []; after = grown o (seen t (fields_in c kinds)) what width later } =
              open-advance o (seen t (fields_in c kinds)) what width later (λ q. w (ap (λ (x : ℕ). x % 8) shift_is ∙ q)) in
              turned d held
              (record {
                verdict_is = ap (λ (x : Advance). x.verdict) (sym q);
                wrote = alike (ap (λ (x : Advance). x.lines) (sym q)) (nothing old l);
                goes_on = seen_as ∙ ap (λ (x : Advance). x.after) (sym q);
              })
              (λ v e. going-as (ok-is e) (record {
                few = omega (arith, g.few, len_is);
                numbers = omega (arith, g.numbers, ap (λ (x : State). x.nr) eu);
                tested = omega (arith, g.tested, len_is, ap (λ (x : State). x.raws) eu);
                sum = sum_is;
                fits = omega (arith, g.fits, widths-as bit_is, shift_is);
                shifts-long = d-long;
                widths-long = d-wide;
                kinds-long = held-long;
              }))
            where
              going-as : {v : State} → u ≡ v → Going plan n (k + 1) u d held → Going plan n (k + 1) v d held
              going-as e x = subst (λ (v : State). Going plan n (k + 1) v d held) e x

              ok-is : {v : State} → ◌≡◌ {A = Result State Refusal} (Ok u) (Ok v) → u ≡ v
              ok-is e = cc

          -- which closes
          module _ (w : u.shift % 8 ≡ 0) where
            -- else it were alone
            full : c.len ≡ 0 → ⊥
            unfolding sum_to
            full len =
                eqb-false (width % 8) 0 (sym (ap (λ (x : ℕ). is_alone x width) len) ∙ sym ey ∙ f)
                (let empty : t.shift ≡ 0 = g.sum ∙ ap (sum_to c.widths) len in
                ap (λ (x : ℕ). x % 8) (let y : width ≡ u.shift = omega (arith, empty, shift_is) in y) ∙ w)

            some : 0 < c.len
            some = not-zero c.len full
              where
                not-zero : (x : ℕ) → (x ≡ 0 → ⊥) → 0 < x
                not-zero zero y = absurd (y refl)
                not-zero (suc x) y = omega arith

            pub closing : Closing u d later
            closing = record {
              more = omega (arith, some, len_is);
              short = omega (arith, room, len_is);
              sum = sum_is;
              fits = omega (arith, below, shift_is);
              few = omega (arith, g.numbers, h, b, ap (λ (x : State). x.nr) eu);
              tested = omega (arith, g.tested, h, b, ap (λ (x : State). x.raws) eu);
            }

            pub turned-closed : {old new : Writer} {r : Result State Refusal}
                → Advanced (close_advance o (seen u (fields_in d held)) later) [] old new r
                → Turned k t c kinds old new r (record { shifts = d.shifts; widths = d.widths; len = 0 }) held
            unfolding bits_of
            turned-closed {old} {new} {r} x =
                turned (record { shifts = d.shifts; widths = d.widths; len = 0 }) held
                (closes o (seen t (fields_in c kinds)) what width later (ap (λ (y : ℕ). y % 8) (sym shift_is) ∙ w)
                (subst (λ (y : flow.State). Advanced (close_advance o y later) [] old new r) seen_as x))
                (λ v e. closed-going (seen u (fields_in d held)) (ap (λ (y : State). y.nr) eu)
                (omega (arith, g.tested, len_is, ap (λ (y : State). y.raws) eu, bits-length o.arrays s (text "payload") d held d.len)) v _ held
                refl d-long d-wide held-long (IfOk-at_ok _ e x.goes_on)
                (sym x.verdict_is ∙ ap verdict_of e))
