-- What is lowered of each packet and struct, one after the other: it is what the single calls give, and each section is of its entry.
-- Assumes nothing.
use mathlib.Core.Bool.{Bool, true, false}
use mathlib.Core.List.{List, [], ◌∷◌, Memᴰ}
use mathlib.Core.Path.{◌≡◌, refl, sym, ap, ◌∙◌, subst}
use Prim.Native.Nat.{◌≤◌}
use lib.Dec.{ltb}
use lib.ListN.{length}
use borrow.Author.Tests.{ltb-false}
use Rattle.definitions.specs.Bytes.{Text, part}
use Rattle.definitions.specs.Sizes.{Schema, Entry}
use Rattle.definitions.specs.Refusals.{is_frame}
use Rattle.definitions.specs.Lines.{render}
use Rattle.definitions.specs.Blocks.{program}
use Rattle.definitions.specs.FieldParser.{Outcome, refused, accepted}
use Rattle.definitions.specs.Answer.{lower_target, answer}
use Rattle.definitions.specs.All.{Section, section_lines, Outcomes, refused_all, accepted_all, join_section, with_section, lower_each}
use Rattle.definitions.specs.declared.Head.{Head}
use Rattle.definitions.specs.declared.Refusal.{Refusal}
use Rattle.lengths.proofs.Booleans.{impossible}
use Rattle.joined.specs.Calls.{frames, name_of, call_of, calls, CallsFit}
use Rattle.joined.specs.Sections.{SectionOf, SectionsOf}
use Rattle.joined.proofs.Entries.{each-is, frame-kept, other-left}

-- ---- one entry

module _ (s : Text) (h : Head) (e : Entry) (es : Schema) where
  frame-lowered : is_frame e.row.decl.desc ≡ true
      → lower_each s h (e ∷ es) ≡ with_section (part s e.row.decl.id) (lower_target s h e) (lower_each s h es)
  unfolding lower_each
  frame-lowered t = rw (t, lower_each)

  other-passed : is_frame e.row.decl.desc ≡ false → lower_each s h (e ∷ es) ≡ lower_each s h es
  unfolding lower_each
  other-passed t = rw (t, lower_each)

-- ---- as single calls

module _ (s : Text) (h : Head) where
  pub fits-of : (es : List Entry) → CallsFit s h es → (e : Entry) → Memᴰ e es → length (call_of s h e) ≤ 16384
  fits-of = each-is (λ (e : Entry). length (call_of s h e) ≤ 16384) (CallsFit s h) (λ e es k. k)

  -- a single call gives what is lowered of that entry
  abbrev pub CallGives : Entry → Type 0
  CallGives e = answer (call_of s h e) ≡ lower_target s h e

  pub each-calls : (es : Schema) → ((e : Entry) → Memᴰ e (frames es) → CallGives e) → lower_each s h es ≡ calls s h (frames es)
  unfolding lower_each frames calls
  each-calls [] g = refl
  each-calls (c ∷ es) g = by (is_frame c.row.decl.desc) refl (each-calls es)
    where
      by : (b : Bool) → is_frame c.row.decl.desc ≡ b
          → (((e : Entry) → Memᴰ e (frames es) → CallGives e) → lower_each s h es ≡ calls s h (frames es))
          → lower_each s h (c ∷ es) ≡ calls s h (frames (c ∷ es))
      by true t more =
          let k : (e : Entry) → Memᴰ e (c ∷ frames es) → CallGives e = λ e m. g e (subst (Memᴰ e) (sym (frame-kept c es t)) m) in
          frame-lowered s h c es t
          ∙ ap (λ (o : Outcome). with_section (name_of s h c) o (lower_each s h es)) (sym (k c (Memᴰ.head refl)))
          ∙ ap (with_section (name_of s h c) (answer (call_of s h c))) (more (λ e m. k e (Memᴰ.tail m)))
          ∙ ap (calls s h) (sym (frame-kept c es t))
      by false t more =
          other-passed s h c es t ∙ more (λ e m. g e (subst (Memᴰ e) (sym (other-left c es t)) m)) ∙ ap (calls s h) (sym (other-left c es t))

-- ---- the sections

-- a first section and the others
record Opened (name : Text) (o : Outcome) (later : Outcomes) (xs : List Section) : Type 0 where
  first : Section
  others : List Section
  are : xs ≡ first ∷ others
  name_is : first.name ≡ name
  lowers : o ≡ accepted first.blocks
  short : length (section_lines first) ≤ 8192
  rest : later ≡ accepted_all others

opened : (name : Text) (o : Outcome) (later : Outcomes) (xs : List Section) → with_section name o later ≡ accepted_all xs → Opened name o later xs
unfolding with_section
opened name (refused why) later xs e = impossible (cc)
opened name (accepted bs) later xs e = by (ltb 8192 (length (render (program bs)))) refl later e
  where
    now : Section
    now = record { name = name; blocks = bs }

    rest : ltb 8192 (length (render (program bs))) ≡ false → (later : Outcomes) → join_section now later ≡ accepted_all xs
        → Opened name (accepted bs) later xs
    rest t (refused_all why) g = impossible (cc)
    rest t (accepted_all ys) g =
        record {
          first = now;
          others = ys;
          are = cc;
          name_is = refl;
          lowers = refl;
          short = ltb-false 8192 (length (render (program bs))) t;
          rest = refl;
        }

    by : (b : Bool) → ltb 8192 (length (render (program bs))) ≡ b → (later : Outcomes)
        → elim b as (λ _. Outcomes) [ true ↦ refused_all Refusal.SectionTooLong | false ↦ join_section now later ] ≡ accepted_all xs
        → Opened name (accepted bs) later xs
    by true t later g = impossible (cc)
    by false t later g = rest t later g

module _ (s : Text) (h : Head) where
  -- what has this name, these blocks and at most 8,192 bytes is a section of the entry
  abbrev pub Makes : Entry → Type 0
  Makes e = (x : Section) → x.name ≡ name_of s h e → lower_target s h e ≡ accepted x.blocks → length (section_lines x) ≤ 8192 → SectionOf s h e x

  pub each-sections : (es : Schema) → ((e : Entry) → Memᴰ e (frames es) → Makes e) → (xs : List Section) → lower_each s h es ≡ accepted_all xs
      → SectionsOf s h (frames es) xs
  unfolding lower_each frames
  each-sections [] g [] a = tt
  each-sections [] g (x ∷ xs) a = impossible (cc)
  each-sections (c ∷ es) g xs a = by (is_frame c.row.decl.desc) refl (each-sections es)
    where
      by : (b : Bool) → is_frame c.row.decl.desc ≡ b
          → (((e : Entry) → Memᴰ e (frames es) → Makes e) → (ys : List Section) → lower_each s h es ≡ accepted_all ys → SectionsOf s h (frames es) ys)
          → SectionsOf s h (frames (c ∷ es)) xs
      by true t more =
          let k : (e : Entry) → Memᴰ e (c ∷ frames es) → Makes e = λ e m. g e (subst (Memᴰ e) (sym (frame-kept c es t)) m) in
          let o = opened (name_of s h c) (lower_target s h c) (lower_each s h es) xs (sym (frame-lowered s h c es t) ∙ a) in
          subst (λ (l : List Entry). SectionsOf s h l xs) (sym (frame-kept c es t))
          (subst (SectionsOf s h (c ∷ frames es)) (sym o.are)
          (k c (Memᴰ.head refl) o.first o.name_is o.lowers o.short, more (λ e m. k e (Memᴰ.tail m)) o.others o.rest))
      by false t more =
          subst (λ (l : List Entry). SectionsOf s h l xs) (sym (other-left c es t))
          (more (λ e m. g e (subst (Memᴰ e) (sym (other-left c es t)) m)) xs (sym (other-passed s h c es t) ∙ a))
