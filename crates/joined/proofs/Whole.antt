-- The whole of an accepted file has at most `most_all` bytes, and no refusal is 15 but for a buffer that is too short. What is written where 0 is answered.
-- Assumes nothing.
use Rattle.std.specs.Prelude.{Ok}
use mathlib.Core.Bool.{Bool, true, false, ◌||◌}
use mathlib.Core.List.{List, [], ◌∷◌, Memᴰ}
use mathlib.Core.Path.{◌≡◌, refl, sym, ap, ◌∙◌, subst}
use Prim.Native.Nat.{ℕ, suc, ◌*◌, ◌≤◌}
use native.Mathlib.Omega.{arith}
use lib.Dec.{ltb}
use lib.ListN.{length, length-append}
use borrow.Author.Tests.{ltb-false, le-leb}
use Rattle.definitions.specs.Bytes.{Text, any, part}
use Rattle.definitions.specs.Record.{Declaration, record_is, read_record}
use Rattle.definitions.specs.Sizes.{Schema, Entry, new_schema}
use Rattle.definitions.specs.Refusals.{number, is_frame, bad_number, bad_decl, too_many, out_of_range, verdict}
use Rattle.definitions.specs.Lines.{render}
use Rattle.definitions.specs.Blocks.{program}
use Rattle.definitions.specs.FieldParser.{Outcome, refused, accepted}
use Rattle.definitions.specs.Answer.{lower_target, fitted}
use Rattle.definitions.specs.All.{Section, sections_text, Outcomes, refused_all, accepted_all, join_section, with_section, lower_each, answer_all, lowered_all, lower_all}
use Rattle.definitions.specs.declared.Field.{Field}
use Rattle.definitions.specs.declared.Head.{Head}
use Rattle.definitions.specs.declared.Refusal.{Refusal}
use Rattle.lengths.specs.Shares.{most_bytes}
use Rattle.lengths.proofs.Booleans.{neither}
use Rattle.lengths.proofs.Names.{DeclarationsAre, RecordOk, ShortName, names-short}
use Rattle.lengths.proofs.Steps.{OutcomeFits, own-number}
use Rattle.lengths.proofs.Longest.{target_fits, fits}
use Rattle.meaning.proofs.Printed.{never-zero, fitted-lines}
use Rattle.alike.proofs.Retargeted.{all_of, all-passed}
use Rattle.alike.proofs.Ids.{id-short}
use Rattle.joined.specs.Begins.{Begins}
use Rattle.joined.specs.Sections.{most_section, most_all}
use Rattle.joined.proofs.Early.{both-begin}
use Rattle.joined.proofs.Asked.{passed}
use Rattle.joined.proofs.Entries.{as_many, each-entry, each-named}

-- ---- an outcome of at most n sections: each has at most 8,192 bytes behind a target line of at most 43

abbrev pub WholeFits : ℕ → Outcomes → Type 0
WholeFits n (refused_all why) = number why ≡ 15 → ⊥
WholeFits n (accepted_all xs) = length (sections_text xs) ≤ most_section * n

one_more : (n : ℕ) (o : Outcomes) → WholeFits n o → WholeFits (suc n) o
one_more n (refused_all why) k = k
one_more n (accepted_all xs) k = omega (arith, k)

section-fits : (n : ℕ) (name : Text) (o : Outcome) (later : Outcomes) → length name ≤ 32 → OutcomeFits most_bytes o → WholeFits n later
    → WholeFits (suc n) (with_section name o later)
unfolding with_section
section-fits n name (refused why) later j k f = (own-number why k).0
section-fits n name (accepted bs) later j k f = by (ltb 8192 (length (render (program bs)))) refl later f
  where
    now : Section
    now = record { name = name; blocks = bs }

    joined : ltb 8192 (length (render (program bs))) ≡ false → (later : Outcomes) → WholeFits n later → WholeFits (suc n) (join_section now later)
    joined t (refused_all why) g = g
    joined t (accepted_all xs) g = simp length-append (omega (arith, ltb-false 8192 (length (render (program bs))) t, j, g))

    by : (b : Bool) → ltb 8192 (length (render (program bs))) ≡ b → (later : Outcomes) → WholeFits n later
        → WholeFits (suc n) (elim b as (λ _. Outcomes) [ true ↦ refused_all Refusal.SectionTooLong | false ↦ join_section now later ])
    by true t later g = omega arith
    by false t later g = joined t later g

module _ (s : Text) (h : Head) where
  -- what is lowered of an entry is within its bound, and so is its name
  abbrev Fits : Entry → Type 0
  Fits e = OutcomeFits most_bytes (lower_target s h e) × ShortName s e.row.decl.id

  each_fits : (es : Schema) → ((e : Entry) → Memᴰ e es → Fits e) → WholeFits (length es) (lower_each s h es)
  unfolding lower_each
  each_fits [] g = omega arith
  each_fits (c ∷ es) g = by (is_frame c.row.decl.desc) (each_fits es (λ e m. g e (Memᴰ.tail m))) (g c (Memᴰ.head refl))
    where
      by : (b : Bool) → WholeFits (length es) (lower_each s h es) → Fits c
          → WholeFits (suc (length es)) (elim b as (λ _. Outcomes) [
            | true ↦ with_section (part s c.row.decl.id) (lower_target s h c) (lower_each s h es)
            | false ↦ lower_each s h es
          ])
      by true more k = section-fits (length es) (part s c.row.decl.id) (lower_target s h c) (lower_each s h es) k.1 k.0 more
      by false more k = one_more (length es) (lower_each s h es) more

  -- 3 and 6 turn back more than 64 fields and numbers out of range
  abbrev many : Declaration → Bool
  many d = ltb 64 (length d.fields)

  abbrev wrong : Declaration → Bool
  wrong d = bad_decl d.decl.desc || any (λ (f : Field). bad_number f.desc) d.fields

  lines_fit : (ds : List Declaration) → DeclarationsAre (ShortName s) ds × (any many ds ≡ false) × (any wrong ds ≡ false)
      → (e : Entry) → Memᴰ e (new_schema s ds) → OutcomeFits most_bytes (lower_target s h e)
  lines_fit =
      each-entry s (λ (e : Entry). OutcomeFits most_bytes (lower_target s h e))
      (λ (ds : List Declaration). DeclarationsAre (ShortName s) ds × (any many ds ≡ false) × (any wrong ds ≡ false))
      (λ rows d ds k.
      let f = neither (many d) (any many ds) k.1 in
      let g = neither (wrong d) (any wrong ds) k.2 in
      (target_fits s h rows d k.0.0 f.0 g.0, (k.0.1, f.1, g.1)))
      []

  -- of a record that passes 1 to 9, 16 and 17
  all_fit : (ds : List Declaration) → read_record s ≡ record_is h ds → verdict s h ds (new_schema s ds) ≡ (Ok tt)
      → WholeFits 32 (lower_each s h (new_schema s ds))
  unfolding too_many out_of_range
  all_fit ds r v =
      let p = passed s h ds (new_schema s ds) v in
      let n = neither (ltb 32 (length ds)) (any many ds) p.few in
      let names : DeclarationsAre (ShortName s) ds = subst (RecordOk (ShortName s)) r (names-short s) in
      fewer (length (new_schema s ds)) (omega (arith, as_many s [] ds, ltb-false 32 (length ds) n.0)) (lower_each s h (new_schema s ds))
      (each_fits (new_schema s ds)
      (λ e m. (
        lines_fit ds (names, n.1, p.fine) e m,
        each-named s (ShortName s) ds (λ pre post d i. id-short s h ds r pre post d i) e m,
      )))
    where
      fewer : (k : ℕ) → k ≤ 32 → (o : Outcomes) → WholeFits k o → WholeFits 32 o
      fewer k i (refused_all why) f = f
      fewer k i (accepted_all xs) f = omega (arith, f, i)

-- ---- the answer

-- every text's whole is that short, or it is refused, and not by 15
pub fits_all : (s : Text) → WholeFits 32 (answer_all s)
fits_all s = by (both-begin s)
  where
    by : Begins s → WholeFits 32 (answer_all s)
    by (Begins.turned why k b c) = subst (WholeFits 32) (sym c) (own-number why (subst (OutcomeFits most_bytes) b (fits s))).0
    by (Begins.passed h ds w r v) =
        subst (WholeFits 32) (sym (all-passed s h ds (new_schema s ds) v) ∙ sym (all_of s h ds w r)) (all_fit s h ds r v)

-- 15 is never answered where the buffer has that many bytes
pub room-enough : (room : ℕ) → most_all ≤ room → (o : Outcomes) → WholeFits 32 o → (lowered_all room o).answered ≡ 15 → ⊥
unfolding lowered_all fitted
room-enough room h (refused_all why) k = k
room-enough room h (accepted_all xs) k = rw (fitted, le-leb (length (sections_text xs)) room (omega (arith, h, k))) (omega arith)

-- where it is 0, the file's sections are written
pub whole-written : (s : Text) (room : ℕ) → (lower_all s room).answered ≡ 0
    → (xs : List Section) × (answer_all s ≡ accepted_all xs) × ((lower_all s room).lines ≡ sections_text xs)
unfolding lowered_all
whole-written s room = by (answer_all s) refl
  where
    by : (o : Outcomes) → answer_all s ≡ o → (lowered_all room o).answered ≡ 0
        → (xs : List Section) × (answer_all s ≡ accepted_all xs) × ((lowered_all room (answer_all s)).lines ≡ sections_text xs)
    by (refused_all why) e z = absurd (never-zero why z)
    by (accepted_all xs) e z = (xs, e, ap (λ (o : Outcomes). (lowered_all room o).lines) e ∙ fitted-lines room (sections_text xs) z)
