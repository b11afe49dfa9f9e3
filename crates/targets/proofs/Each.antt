-- The loop over the declarations: what is written and what is left come to `tell_each` of all.
-- Assumes nothing.
use Rattle.std.specs.Prelude.{Result, Ok, Err}
use Rattle.definitions.specs.Refusals.{Verdict, is_frame}
use mathlib.Core.Bool.{Bool, true, false}
use mathlib.Core.List.{List, [], ◌++◌, append_assoc, append-nil}
use mathlib.Core.Path.{◌≡◌, refl, sym, ap, ◌∙◌, subst}
use Prim.Native.Nat.{ℕ, ◌+◌, ◌*◌, ◌-◌, ◌≤◌, ◌<◌, ◌^◌}
use native.Mathlib.Nat.{sub-zero}
use native.Mathlib.Omega.{arith}
use lib.ListN.{length, length-append}
use Rattle.definitions.specs.Bytes.{Text, text, part}
use Rattle.definitions.specs.All.{target_line}
use Rattle.definitions.specs.declared.Decl.{Decl}
use Rattle.definitions.specs.declared.Options.{Options}
use Rattle.definitions.specs.declared.Refusal.{Refusal}
use Rattle.text.specs.Put.{Put}
use Rattle.text.specs.Wrote.{Wrote}
use Rattle.text.specs.declared.Writer.{Writer}
use Rattle.text.proofs.Puts.{still}
use Rattle.text.proofs.Wrotes.{then}
use Rattle.tables.specs.Tables.{Tables, tables_of, decl_here}
use Rattle.tables.proofs.Walks.{from_end, from_more}
use Rattle.schema.specs.Entries.{entry_in, entries_from}
use Rattle.sizes.proofs.WholeBytes.{entries}
use Rattle.stream.specs.Stream.{fresh}
use Rattle.plans.specs.Planned.{plans_of}
use Rattle.plans.specs.Told.{Told, joined, tell}
use Rattle.parser.specs.Driver.{Tells}
use Rattle.targets.specs.Told.{setting_in, entry_told, tell_each, SectionsTold}
use Rattle.targets.proofs.Sections.{limited-pass, short-part}

module _ (t : Tables) (o : Options) (n : ℕ) where
  -- the sections of m declarations from the index i on
  abbrev from : ℕ → ℕ → Told
  from i m = tell_each t.source o (entries_from t.source t.rows t.values t.fields i m)

  abbrev here : ℕ → Told
  here i = entry_told t.source o (entry_in t.source t.rows t.values t.fields i)

  -- those of the first i are written, and none was refused
  pub record Writing (first now : Writer) (i : ℕ) : Type 0 where
    pub small : i ≤ n
    pub near : now.at ≤ i * 32768
    pub done : Text
    pub wrote : Wrote first now done
    pub left : from 0 n ≡ joined (Ok tt) done (from i (n - i))

  pub writing_start : (w : Writer) → w.at ≡ 0 → length w.out.now < 2 ^ 63 → Writing w w 0
  writing_start w e h = record {
    small = omega arith;
    near = omega (arith, e);
    done = [];
    wrote = record { same = refl; put = still w.out.now w.at h };
    left = ap (from 0) (sym (sub-zero n));
  }

  module _ {first now : Writer} (start : first.at ≡ 0) {i : ℕ} (w : Writing first now i) where
    -- what was written is at the front
    front : {piece : Text} {next : Writer} → Wrote first next piece → Put first.out.now 0 piece next.at next.out.now
    front {piece} {next} p = subst (λ (k : ℕ). Put first.out.now k piece next.at next.out.now) start p.put

    pub writing-end : n ≤ i → SectionsTold (from 0 n) first.out.now (Ok now.at) now.out.now
    unfolding tell_each
    writing-end h = subst (λ (d : Told). SectionsTold d first.out.now (Ok now.at) now.out.now) (sym whole) (record {
      verdict_is = refl;
      wrote = λ {at} e. subst (λ (k : ℕ). Put first.out.now 0 w.done k now.out.now) (let z : now.at ≡ at = cc in z) (front w.wrote);
      holds = (front w.wrote).written;
    })
      where
        whole : from 0 n ≡ record { verdict = Ok tt; lines = w.done }
        whole =
            w.left
            ∙ ap (λ es. joined (Ok tt) w.done (tell_each t.source o es))
            (from_end (entries t.source t.rows t.values t.fields) n i h)
            ∙ ap (λ (x : Text). record { verdict = Ok tt; lines = x }) (append-nil w.done)

    module _ (h : i < n) {d : Decl} (ed : d ≡ decl_here t.rows i) {b : Bool} (eb : b ≡ is_frame d.desc) where
      pub at_small : n ≤ 32 → now.at ≤ 2 ^ 32
      at_small few = omega (arith, w.near, h, few)

      split : {c : Bool} → b ≡ c
          → from 0 n ≡ joined (Ok tt) w.done (elim c [
            | true ↦ joined (here i).verdict (here i).lines (from (i + 1) (n - (i + 1)))
            | false ↦ from (i + 1) (n - (i + 1))
          ])
      unfolding tell_each
      split {c} hc =
          w.left
          ∙ ap (λ es. joined (Ok tt) w.done (tell_each t.source o es))
          (from_more (entries t.source t.rows t.values t.fields) n i h)
          ∙ ap
          (λ (x : Bool).
          joined (Ok tt) w.done (elim x [
            | true ↦ joined (here i).verdict (here i).lines (from (i + 1) (n - (i + 1)))
            | false ↦ from (i + 1) (n - (i + 1))
          ]))
          (sym (sym hc ∙ eb ∙ ap (λ (x : Decl). is_frame x.desc) ed))

      -- no packet or struct
      pub writing-skip : b ≡ false → Writing first now (i + 1)
      writing-skip hb = record {
        small = omega arith;
        near = omega (arith, w.near);
        done = w.done;
        wrote = w.wrote;
        left = split hb;
      }

      module _ (hb : b ≡ true) {next : Writer} {x : Verdict} (tells : Tells (here i) now next x) where
        abbrev rest : Told
        rest = from (i + 1) (n - (i + 1))

        by-verdict : {v : Verdict} → x ≡ v → from 0 n ≡ joined (Ok tt) w.done (joined v (here i).lines rest)
        by-verdict e = split hb ∙ ap (λ (v : Verdict). joined (Ok tt) w.done (joined v (here i).lines rest)) (sym tells.verdict_is ∙ e)

        -- the first that is refused
        pub writing-refused : {why : Refusal} → x ≡ Err why → SectionsTold (from 0 n) first.out.now (Err why) next.out.now
        writing-refused {why} e =
            subst (λ (d : Told). SectionsTold d first.out.now (Err why) next.out.now) (sym (by-verdict e)) (record {
              verdict_is = refl;
              wrote = λ {at} f. absurd (let k : ◌≡◌ {A = ℕ} 0 1 = cc in omega arith);
              holds = (front (then w.wrote tells.wrote)).written;
            })

        pub writing_more : length t.source ≤ 16384 → x ≡ Ok tt → Writing first next (i + 1)
        writing_more short e = record {
          small = omega arith;
          near =
              omega (
                arith,
                w.near,
                tells.wrote.put.next,
                (limited-pass _ _ (sym tells.verdict_is ∙ e)).1,
                short,
                short-part t.source (decl_here t.rows i).id,
                length-append (target_line name) told.lines,
                length-append name (text "\n"),
              );
          done = w.done ++ (here i).lines;
          wrote = then w.wrote tells.wrote;
          left = by-verdict e ∙ ap (λ (a : Text). record { verdict = rest.verdict; lines = a }) (sym (append_assoc w.done (here i).lines rest.lines));
        }
          where
            name : Text
            name = part t.source (decl_here t.rows i).id

            told : Told
            told =
                let e = entry_in t.source t.rows t.values t.fields i in
                tell o fresh (plans_of (setting_in t.source o e) e.fields)

-- ---- the same, of what the function has at hand: the declaration out of the slices that the tables lend, and the buffer that it hands back

module _ {t : Tables} {o : Options} {n : ℕ} {source rows values fields : List ℕ} (seen : tables_of source rows values fields ≡ t)
    {first now : Writer} (start : first.at ≡ 0) {i : ℕ} (w : Writing t o n first now i) where
  pub ends : n ≤ i → {left : Text} → left ≡ now.out.now → SectionsTold (from t o n 0 n) first.out.now (Ok now.at) left
  ends h e = subst (λ (x : Text). SectionsTold (from t o n 0 n) first.out.now (Ok now.at) x) (sym e) (writing-end t o n start w h)

  module _ (h : i < n) {d : Decl} (ed : d ≡ decl_here rows i) {b : Bool} (eb : b ≡ is_frame d.desc) where
    at-hand : d ≡ decl_here t.rows i
    at-hand = ed ∙ ap (λ (a : Tables). decl_here a.rows i) seen

    pub skips : b ≡ false → {next : Writer} → next ≡ now → Writing t o n first next (i + 1)
    skips hb e = subst (λ (x : Writer). Writing t o n first x (i + 1)) (sym e) (writing-skip t o n start w h at-hand eb hb)

    module _ (hb : b ≡ true) {next : Writer} {x : Verdict} (tells : Tells (here t o n i) now next x) where
      pub refuses-here : {why : Refusal} → x ≡ Err why → {r : Result ℕ Refusal} → r ≡ Err why → {left : Text} → left ≡ next.out.now
          → SectionsTold (from t o n 0 n) first.out.now r left
      refuses-here {why} e {r} f {left} g =
          subst (λ (k : Result ℕ Refusal). SectionsTold (from t o n 0 n) first.out.now k left) (sym f)
          (subst (λ (k : Text). SectionsTold (from t o n 0 n) first.out.now (Err why) k) (sym g)
          (writing-refused t o n start w h at-hand eb hb tells e))

      pub goes-on : length t.source ≤ 16384 → x ≡ Ok tt → {after : Writer} → after ≡ next → Writing t o n first after (i + 1)
      goes-on short e f = subst (λ (k : Writer). Writing t o n first k (i + 1)) (sym f) (writing_more t o n start w h at-hand eb hb tells short e)
