-- What the targets tell is `lower_each` of the definitions, rendered.
-- Assumes nothing.
use Rattle.std.specs.Prelude.{Ok, Err}
use Rattle.definitions.specs.Refusals.{Verdict, is_frame}
use mathlib.Core.Bool.{Bool, true, false}
use mathlib.Core.List.{[], ◌∷◌, ◌++◌}
use mathlib.Core.Path.{◌≡◌, refl, sym, ap}
use Prim.Native.Nat.{ℕ}
use native.Mathlib.Omega.{arith}
use lib.Dec.{ltb}
use lib.ListN.{length}
use Rattle.definitions.specs.Bytes.{Text, part}
use Rattle.definitions.specs.Sizes.{Schema}
use Rattle.definitions.specs.Lines.{render}
use Rattle.definitions.specs.Blocks.{program}
use Rattle.definitions.specs.FieldParser.{Outcome, refused, accepted}
use Rattle.definitions.specs.Answer.{setting_of, lower_target}
use Rattle.definitions.specs.All.{Section, target_line, sections_text, Outcomes, refused_all, accepted_all, join_section, with_section, lower_each}
use Rattle.definitions.specs.declared.Head.{Head}
use Rattle.definitions.specs.declared.Refusal.{Refusal}
use Rattle.stream.specs.Stream.{refuses, rendered}
use Rattle.plans.specs.Told.{Told, joined, result_by, result_of}
use Rattle.plans.proofs.Tells.{told}
use Rattle.targets.specs.Told.{limited_by, entry_told, tell_each, rendered_all}

-- a section before the later ones
join-told : (x : Section) (os : Outcomes) (t : Text) (v : Verdict) (lines : Text) → rendered_all os ≡ result_by v lines
    → target_line x.name ++ render (program x.blocks) ≡ t → rendered_all (join_section x os) ≡ result_by v (t ++ lines)
join-told x (refused_all why) t (Ok tt) lines e f = absurd (let z : ◌≡◌ {A = ℕ} 0 1 = cc in omega arith)
join-told x (refused_all why) t (Err w) lines e f = let q : why ≡ w = cc in ap refuses q
join-told x (accepted_all xs) t (Ok tt) lines e f = let q : sections_text xs ≡ lines = cc in rw (sym f, q)
join-told x (accepted_all xs) t (Err w) lines e f = absurd (let z : ◌≡◌ {A = ℕ} 0 1 = cc in omega arith)

section-told : (name : Text) (o : Outcome) (v : Verdict) (lines : Text) (os : Outcomes) (rest : Told)
    → rendered o ≡ result_by v lines → rendered_all os ≡ result_of rest
    → rendered_all (with_section name o os) ≡ result_of (joined (limited_by v (length lines)) (target_line name ++ lines) rest)
unfolding with_section limited_by
section-told name (refused why) (Ok tt) lines os rest e f = absurd (let z : ◌≡◌ {A = ℕ} 0 1 = cc in omega arith)
section-told name (refused why) (Err w) lines os rest e f = let q : why ≡ w = cc in ap refuses q
section-told name (accepted bs) (Err w) lines os rest e f = absurd (let z : ◌≡◌ {A = ℕ} 0 1 = cc in omega arith)
section-told name (accepted bs) (Ok tt) lines os rest e f =
    by (ltb 8192 (length (render (program bs)))) (ltb 8192 (length lines)) (ap (λ (t : Text). ltb 8192 (length t)) same)
  where
    same : render (program bs) ≡ lines
    same = let q : render (program bs) ≡ lines = cc in q

    by : (b c : Bool) → b ≡ c
        → rendered_all (elim b [ true ↦ refused_all Refusal.SectionTooLong | false ↦ join_section (record { name = name; blocks = bs }) os ])
        ≡ result_of (joined (elim c [ true ↦ Err Refusal.SectionTooLong | false ↦ (Ok tt) ]) (target_line name ++ lines) rest)
    by true true k = refl
    by true false k = absurd (let z : ◌≡◌ {A = ℕ} 0 1 = cc in omega arith)
    by false true k = absurd (let z : ◌≡◌ {A = ℕ} 0 1 = cc in omega arith)
    by false false k =
        join-told (record { name = name; blocks = bs }) os (target_line name ++ lines) rest.verdict rest.lines f
        (ap (λ (t : Text). target_line name ++ t) same)

pub each-told : (s : Text) (h : Head) (es : Schema) → rendered_all (lower_each s h es) ≡ result_of (tell_each s h.options es)
unfolding lower_each tell_each
each-told s h [] = refl
each-told s h (e ∷ es) = by (is_frame e.row.decl.desc) (each-told s h es)
  where
    by : (b : Bool) → rendered_all (lower_each s h es) ≡ result_of (tell_each s h.options es)
        → rendered_all (elim b [ true ↦ with_section (part s e.row.decl.id) (lower_target s h e) (lower_each s h es) | false ↦ lower_each s h es ])
        ≡ result_of (elim b [
          | true ↦ joined (entry_told s h.options e).verdict (entry_told s h.options e).lines (tell_each s h.options es)
          | false ↦ tell_each s h.options es
        ])
    by true k =
        section-told (part s e.row.decl.id) (lower_target s h e) _ _ (lower_each s h es) (tell_each s h.options es)
        (told (setting_of s h e) e.fields) k
    by false k = k
