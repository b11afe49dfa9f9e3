-- The tests of a family, all computed, and what they show: whatever is drawn from it passes refusals 1 to 9, 16 and 17 (`family-passes`). The catalogue of a
-- family is its declarations with every possibility of every slot; what is drawn says the same with fewer fields.
-- Assumes nothing.
use Rattle.std.specs.Prelude.{Ok}
use Rattle.definitions.specs.Record.{Read, Declaration, record_is, read_record}
use mathlib.Core.Bool.{Bool, true, false, not, ◌&&◌, ◌||◌}
use mathlib.Core.List.{List, [], ◌∷◌, ◌++◌, map}
use mathlib.Core.Path.{◌≡◌, refl, sym, ap, ◌∙◌, subst}
use Prim.Native.Nat.{ℕ}
use native.Mathlib.Omega.{arith}
use lib.Dec.{ltb}
use lib.ListN.{length, take, drop}
use lib.Seq.{take-append_seam, drop-append_seam}
use borrow.Author.Tests.{ltb-false, le-ltb, not-true}
use Rattle.definitions.specs.Bytes.{Text, any, all, same, part}
use Rattle.definitions.specs.Keywords.{is_keyword}
use Rattle.definitions.specs.Sizes.{same_name, new_schema}
use Rattle.definitions.specs.Refusals.{is_frame, verdict}
use Rattle.definitions.specs.Answer.{wrong_length}
use Rattle.definitions.specs.declared.Head.{Head}
use Rattle.lengths.proofs.Booleans.{neither}
use Rattle.alike.proofs.Same.{SameHead}
use Rattle.alike.proofs.Records.{same-stated}
use Rattle.alike.proofs.Reading.{some_byte}
use Rattle.alike.proofs.Refusals.{stated-verdict}
use Rattle.fewer.specs.Sound.{sound}
use Rattle.fewer.proofs.Passes.{passes}
use Rattle.fragments.specs.Groups.{Group, joined_fields, joined}
use Rattle.fragments.proofs.Lists.{is_nil, first, rest, All}
use Rattle.fragments.proofs.Groups.{head_in, Says, FewerGroups, fewer-behind}
use Rattle.fragments.proofs.Tests.{HeadReads, Readable, head_seen, head_said, HeaderSight, header_seen, header_said, FieldSight, field_seen, field_said, group_fits, field_texts, header_texts, heads-read, readable, fewer-readable}
use Rattle.fragments.proofs.Reading.{read-joined}
use Rattle.fragments.proofs.Placed.{placed, says-placed}
use Rattle.fragments.proofs.Catalogue.{Catalogued, catalogued}
use Rattle.grammar.specs.Choices.{next, chosen, draw_slots}
use Rattle.grammar.specs.Fragments.{Frame, Family, endians, target_line, arrays, slots_of}
use Rattle.grammar.specs.Passing.{Passes}
use Rattle.grammar.proofs.Elements.{crossed, all-mapped, all-crossed, chosen-has, both_true, all_true, same-texts, same-itself, found, some_mapped}
use Rattle.grammar.proofs.Drawing.{all_of, most, behind, before, head_drawn, chosen_fields, chosen_frames, drawn-joined, drawn-fields, drawn-bytes, fewer-frames}

-- ---- the heads of a family

abbrev pub heads_of : Family → List Text
heads_of x = crossed endians (crossed (map target_line x.targets) arrays)

abbrev pub target_of : Text → Text
target_of head = part head (head_in head).target

-- ---- the catalogue

abbrev pub groups_of : Family → List Group
groups_of x = x.types ++ all_of x.frames

-- the text of all of them
unfoldable pub catalogue : Family → Text
catalogue x = joined (groups_of x)

-- a packet or struct of this name
abbrev pub named : Text → Text → Declaration → Bool
named t name d = same (part t d.decl.id) name && is_frame d.decl.desc

abbrev pub is_target_name : Text → List Declaration → Text → Bool
is_target_name t ds name = not (is_keyword name) && any (named t name) ds

-- `n` of the declarations are types
unfoldable pub fine : Text → ℕ → List Text → List Declaration → Bool
fine t n targets ds = sound t (take n ds) (drop n ds) && all (is_target_name t ds) targets

-- ---- the tests

-- what is seen of all texts before any other text, and what they say
abbrev pub Sights : Type 0
Sights = List (Text → Read Head × Text) × List (Text → HeaderSight) × List Bool × List (Text → FieldSight)

abbrev pub seen : Family → Sights
seen x =
    (map head_seen (heads_of x), map header_seen (header_texts (groups_of x)), map group_fits (groups_of x), map field_seen (field_texts (groups_of x)))

abbrev pub said : Family → Sights
said x =
    (map head_said (heads_of x), map header_said (header_texts (groups_of x)), map (λ g. true) (groups_of x), map field_said (field_texts (groups_of x)))

-- there is a target to choose and a declaration; 3: no frame has more than 64 fields; 1: the record has at most 16,384 bytes
abbrev pub amounts : Family → List Bool
amounts x =
    is_nil x.targets
    ∷ is_nil (groups_of x)
    ∷ any (λ (f : Frame). ltb 64 (most f.slots)) x.frames
    ∷ ltb 16384 (most (slots_of x))
    ∷ []

abbrev pub nothing : List Bool
nothing = false ∷ false ∷ false ∷ false ∷ []

-- each is proved by computation
pub record Tested (x : Family) : Type 0 where
  pub amounts : amounts x ≡ nothing
  -- 2
  pub texts : seen x ≡ said x
  -- 16, 3 to 9 and 17
  pub fine : fine (catalogue x) (length x.types) (map target_of (heads_of x)) (placed 0 (groups_of x)) ≡ true

-- ---- what the tests show

-- the number of fields of each frame
abbrev counts : List Group → List ℕ
counts gs = map (λ (g : Group). length g.fields) gs

few-drawn : (fs : List Frame) (s : ℕ) → any (λ (f : Frame). ltb 64 (most f.slots)) fs ≡ false → any (ltb 64) (counts (chosen_frames fs s)) ≡ false
few-drawn [] s e = refl
few-drawn (f ∷ fs) s e =
    let w = neither (ltb 64 (most f.slots)) (any (λ (f : Frame). ltb 64 (most f.slots)) fs) e in
    let n = length (chosen_fields f.slots (next s)) in
    let a : ltb 64 n ≡ false = le-ltb 64 n (omega (arith, drawn-fields f.slots (next s), ltb-false 64 (most f.slots) w.0)) in
    rw (a, few-drawn fs (behind (map (map joined_fields) f.slots) (next s)) w.1)

any-counted : (ds : List Declaration)
    → any (λ (d : Declaration). ltb 64 (length d.fields)) ds ≡ any (ltb 64) (map (λ (d : Declaration). length d.fields) ds)
any-counted [] = refl
any-counted (d ∷ ds) = ap (λ (b : Bool). ltb 64 (length d.fields) || b) (any-counted ds)

-- declarations are kept, whatever fields are
some-kept : (types : List Group) (fs : List Frame) (s : ℕ) → is_nil (types ++ all_of fs) ≡ false → is_nil (types ++ chosen_frames fs s) ≡ false
some-kept [] [] s e = e
some-kept [] (f ∷ fs) s e = refl
some-kept (g ∷ types) fs s e = refl

fine-apart : (u : Text) (n : ℕ) (targets : List Text) (ps qs ds : List Declaration) → ds ≡ ps ++ qs → length ps ≡ n → fine u n targets ds ≡ true
    → (sound u ps qs ≡ true) × (all (is_target_name u (ps ++ qs)) targets ≡ true)
unfolding fine
fine-apart u n targets ps qs ds e l h =
    let g : fine u (length ps) targets (ps ++ qs) ≡ true = cc in
    let w = both_true (sound u (take (length ps) (ps ++ qs)) (drop (length ps) (ps ++ qs))) (all (is_target_name u (ps ++ qs)) targets) g in
    (rw (take-append_seam ps qs, drop-append_seam ps qs) at w.0, w.1)

module _ (x : Family) (t : Tested x) (s : ℕ) where
  some-target : is_nil (map target_line x.targets) ≡ false
  some-target = some_mapped target_line x.targets (first t.amounts)

  some-group : is_nil (groups_of x) ≡ false
  some-group = first (rest t.amounts)

  few-fields : any (λ (f : Frame). ltb 64 (most f.slots)) x.frames ≡ false
  few-fields = first (rest (rest t.amounts))

  short : ltb 16384 (most (slots_of x)) ≡ false
  short = first (rest (rest (rest t.amounts)))

  -- what is kept of its frames, and the head
  abbrev some : List Group
  some = chosen_frames x.frames (before x s)

  abbrev head : Text
  head = head_drawn x s

  -- the record
  abbrev rec : Text
  rec = head ++ joined (x.types ++ some)

  is-drawn : (draw_slots (slots_of x) s).drawn ≡ rec
  is-drawn = drawn-joined x s

  -- what every head has, this one has
  head-has : {P : Text → Type 0} → All P (heads_of x) → P head
  head-has {P} k =
      let targets = map target_line x.targets in
      let e = chosen (next s) endians in
      let u = chosen (next (next s)) targets in
      let rests : All (λ y. P (e ++ y)) (crossed targets arrays) =
      chosen-has {P = λ y. All (λ z. P (y ++ z)) (crossed targets arrays)} (next s) endians refl
      (all-crossed endians (crossed targets arrays) k) in
      let last : All (λ z. P (e ++ (u ++ z))) arrays =
      chosen-has {P = λ y. All (λ z. P (e ++ (y ++ z))) arrays} (next (next s)) targets some-target
      (all-crossed {P = λ y. P (e ++ y)} targets arrays rests) in
      chosen-has {P = λ z. P (e ++ (u ++ z))} (next (next (next s))) arrays refl last

  all-heads : All (λ u. HeadReads u (head_in u)) (heads_of x)
  all-heads = heads-read (heads_of x) (ap (λ (p : Sights). p.0) t.texts)

  reads-head : HeadReads head (head_in head)
  reads-head = head-has all-heads

  -- ---- both are read

  all-readable : Readable (groups_of x)
  all-readable =
      readable (groups_of x)
      (record { headers = ap (λ (p : Sights). p.1) t.texts; fits = ap (λ (p : Sights). p.2) t.texts; fields = ap (λ (p : Sights). p.3) t.texts })

  fewer : FewerGroups some (all_of x.frames)
  fewer = fewer-frames x.frames (before x s)

  abbrev ReadAs : Text → Head → List Group → Type 0
  ReadAs u h gs = (ds : List Declaration) × (read_record u ≡ record_is h ds) × Says u gs ds

  read : ReadAs rec (head_in head) (x.types ++ some)
  read =
      read-joined head (head_in head) (x.types ++ some) (some-kept x.types x.frames (before x s) some-group) reads-head
      (fewer-readable (fewer-behind x.types fewer) all-readable)

  abbrev whole : Text
  whole = catalogue x

  says-whole : Says whole (groups_of x) (placed 0 (groups_of x))
  unfolding catalogue
  says-whole = says-placed whole 0 all-readable refl

  kept : Catalogued whole rec x.types some (placed 0 (groups_of x)) read.0
  kept = catalogued whole rec x.types (all_of x.frames) some fewer says-whole read.2

  -- ---- the tests of the catalogue

  tests : (sound whole kept.front kept.all ≡ true) × (all (is_target_name whole (kept.front ++ kept.all)) (map target_of (heads_of x)) ≡ true)
  tests =
      fine-apart whole (length x.types) (map target_of (heads_of x)) kept.front kept.all (placed 0 (groups_of x)) kept.are
      kept.types_are t.fine

  -- the target is a packet or struct, and its name no keyword
  is-target : is_target_name whole (kept.front ++ kept.all) (target_of head) ≡ true
  is-target = head-has (all-mapped target_of (heads_of x) (all_true (is_target_name whole (kept.front ++ kept.all)) _ tests.1))

  free : is_keyword (target_of head) ≡ false
  free = not-true (is_keyword (target_of head)) (both_true (not (is_keyword (target_of head))) _ is-target).0

  asked : (d : Declaration) × (named whole (target_of head) d ≡ true)
      × ((other : Declaration → Bool) → other d ≡ true → any other (kept.front ++ kept.all) ≡ true)
  asked =
      found (named whole (target_of head)) (kept.front ++ kept.all) (both_true (not (is_keyword (target_of head))) _ is-target).1

  abbrev own : Text
  own = part whole asked.0.decl.id

  own_name : own ≡ target_of head
  own_name = same-texts own (target_of head) (both_true (same own (target_of head)) _ asked.1).0

  -- the head that asks the catalogue for it
  asking : Head
  asking = record { options = (head_in head).options; target = asked.0.decl.id }

  same_head : SameHead whole rec asking (head_in head)
  unfolding asking
  same_head = record { options = refl; target = own_name ∙ sym (reads-head.target (joined (x.types ++ some))) }

  few-kept : any (λ (d : Declaration). ltb 64 (length d.fields)) kept.kept ≡ false
  few-kept = any-counted kept.kept ∙ ap (any (ltb 64)) kept.counts ∙ few-drawn x.frames (before x s) few-fields

  whole-passes : verdict whole asking (kept.front ++ kept.kept) (new_schema whole (kept.front ++ kept.kept)) ≡ (Ok tt)
  unfolding asking
  whole-passes =
      passes whole asking kept.front kept.all kept.kept tests.0 kept.fewer few-kept (ap is_keyword own_name ∙ free)
      (asked.2 (λ (d : Declaration). same_name whole d.decl.id asking.target && is_frame d.decl.desc)
      (rw (same-itself own, (both_true (same own (target_of head)) _ asked.1).1)))

  right-length : wrong_length rec ≡ false
  right-length =
      rw (
        some_byte rec (head_in head) read.0 read.1,
        le-ltb 16384 (length rec)
            (omega (arith, drawn-bytes (slots_of x) s, ap length (drawn-joined x s), ltb-false 16384 (most (slots_of x)) short)),
      )

  pub rec-passes : Passes rec
  rec-passes =
      record {
        head = head_in head;
        declarations = read.0;
        length = right-length;
        read = read.1;
        rest = sym (stated-verdict whole rec asking (head_in head) (kept.front ++ kept.kept) read.0 same_head kept.same
            (same-stated whole rec (kept.front ++ kept.kept) read.0 kept.same kept.stating)) ∙ whole-passes;
      }

pub family-passes : (x : Family) → Tested x → (s : ℕ) → Passes (draw_slots (slots_of x) s).drawn
family-passes x t s = subst Passes (sym (is-drawn x t s)) (rec-passes x t s)
