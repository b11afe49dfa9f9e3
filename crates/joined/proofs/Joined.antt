-- Document 02, Card 13: what `lower_all` gives for a file is what single calls of `lower` give for its packets and structs, joined. Read this file first.
-- The statements name `answer`, `lower_target` and `setting_of` (definitions: Answer), `answer_all`, `lower_all` and `sections_text` (definitions: All), the
-- record with another name in its `target` line (alike/specs/Retarget), and what is in specs/ here: single calls (Calls), what both functions test before
-- any target (Begins), and what is said of each section (Sections).
-- Assumes nothing.
use Rattle.std.specs.Prelude.{Ok}
use mathlib.Core.Bool.{Bool, true, false}
use mathlib.Core.List.{List, Memᴰ}
use mathlib.Core.Path.{◌≡◌, sym, ap, ◌∙◌, subst}
use Prim.Native.Nat.{ℕ, ◌≤◌}
use borrow.Author.Tests.{le-leb}
use lib.ListN.{length}
use Rattle.definitions.specs.Bytes.{Text, part}
use Rattle.definitions.specs.Record.{Declaration, record_is, read_record}
use Rattle.definitions.specs.Sizes.{Entry, new_schema}
use Rattle.definitions.specs.Refusals.{verdict}
use Rattle.definitions.specs.Answer.{lower_target, lower_record, wrong_length, answer, turned_back, fitted, lowered, lower}
use Rattle.definitions.specs.All.{Section, section_lines, sections_text, accepted_all, lower_each, answer_all, lower_all}
use Rattle.definitions.specs.declared.Part.{Part}
use Rattle.definitions.specs.declared.Head.{Head}
use Rattle.definitions.specs.declared.Refusal.{Refusal}
use Rattle.lengths.proofs.Booleans.{impossible}
use Rattle.meaning.proofs.Entries.{EntryOk, EntriesOk, Lowers, each-ok}
use Rattle.meaning.proofs.Demands.{demand-3-of, bits_of}
use Rattle.alike.specs.Retarget.{with_target, asking}
use Rattle.alike.proofs.Retargeted.{all_of, all-passed, answer-asking, all-asking}
use Rattle.joined.specs.Calls.{frames, call_of, calls, CallsFit}
use Rattle.joined.specs.Begins.{Begins}
use Rattle.joined.specs.Sections.{SectionOf, SectionsOf, most_all}
use Rattle.joined.proofs.Early.{both-begin}
use Rattle.joined.proofs.Each.{fits-of, each-calls, each-sections}
use Rattle.joined.proofs.Asked.{asked-passes, asked-lowers}
use Rattle.joined.proofs.Entries.{each-is, each-named, frame-of}
use Rattle.joined.proofs.Whole.{WholeFits, fits_all, room-enough, whole-written}

-- ==== Before any target

-- Every text is turned back by one of 1 to 9, 16 and 17 in `lower` and in `lower_all` alike, or it passes them all in both.
pub begins : (s : Text) → Begins s
begins s = both-begin s

-- ==== A record that passes them

module _ (s : Text) (h : Head) (ds : List Declaration) (read : read_record s ≡ record_is h ds) (pass : verdict s h ds (new_schema s ds) ≡ (Ok tt)) where
  -- "a single call's lines for that target": the record that asks for one of its packets and structs, where it is no longer than a record may be,
  -- answers what that one is lowered to, lines or a refusal.
  pub single-call : (e : Entry) → Memᴰ e (frames (new_schema s ds)) → length (call_of s h e) ≤ 16384 → answer (call_of s h e) ≡ lower_target s h e
  single-call e m fit =
      let f = frame-of (new_schema s ds) e m in
      each-named s
      (λ (n : Part). length (with_target s h (part s n)) ≤ 16384 → answer (with_target s h (part s n)) ≡ lower_record s (asking n h) ds (new_schema s ds)) ds
      (λ pre post d i. answer-asking s h ds read pre post d i) e f.0 fit
      ∙ asked-lowers s h e f.1 ds f.0 pass

  -- "the head's `target` is still tested by 9 and otherwise unused": `lower_all` answers the same whichever of them the head asks for.
  pub target-unused : wrong_length s ≡ false → (e : Entry) → Memᴰ e (frames (new_schema s ds)) → length (call_of s h e) ≤ 16384
      → answer_all (call_of s h e) ≡ answer_all s
  target-unused w e m fit =
      let f = frame-of (new_schema s ds) e m in
      each-named s
      (λ (n : Part).
      length (with_target s h (part s n)) ≤ 16384 → verdict s (asking n h) ds (new_schema s ds) ≡ (Ok tt)
      → answer_all (with_target s h (part s n)) ≡ answer_all s)
      ds (λ pre post d i l v. all-asking s h ds read pre post d i l pass v w) e f.0 fit (asked-passes s h e f.1 ds f.0 pass)

  -- each entry is as the demands ask
  entry-ok : (e : Entry) → Memᴰ e (new_schema s ds) → EntryOk s h e
  entry-ok = each-is (EntryOk s h) (EntriesOk s h) (λ e es k. k) (new_schema s ds) (each-ok s h ds read pass)

  -- where all are lowered, each gives its section
  each-made : (xs : List Section) → lower_each s h (new_schema s ds) ≡ accepted_all xs → SectionsOf s h (frames (new_schema s ds)) xs
  each-made =
      each-sections s h (new_schema s ds)
      (λ e m x name lowers short.
      let l : Lowers s h e x.blocks = record { lowers = lowers; ok = entry-ok e (frame-of (new_schema s ds) e m).0 } in
      record {
        name_is = name;
        lowers = lowers;
        short = short;
        single = λ fit. single-call e m fit ∙ lowers;
        demand3 = demand-3-of s h e x.blocks l;
        demand2 = bits_of s h e x.blocks l;
      })

-- "the whole is these joined. The first refused target refuses the file": `lower_all` answers what single calls for all of them give together.
pub as-calls : (s : Text) (h : Head) (ds : List Declaration) → wrong_length s ≡ false → read_record s ≡ record_is h ds
    → verdict s h ds (new_schema s ds) ≡ (Ok tt) → CallsFit s h (frames (new_schema s ds)) → answer_all s ≡ calls s h (frames (new_schema s ds))
as-calls s h ds w read pass fit =
    all_of s h ds w read ∙ all-passed s h ds (new_schema s ds) pass
    ∙ each-calls s h (new_schema s ds) (λ e m. single-call s h ds read pass e m (fits-of s h (frames (new_schema s ds)) fit e m))

-- ==== An accepted file

-- Its sections are those of its packets and structs, in file order. "Behind its target line each part equals a single call's lines for that target,
-- byte for byte", and of each hold demand 3 and of demand 2 the bits: see `SectionOf`.
pub sections-of : (s : Text) (xs : List Section) → answer_all s ≡ accepted_all xs
    → (h : Head) × (ds : List Declaration) × (read_record s ≡ record_is h ds) × SectionsOf s h (frames (new_schema s ds)) xs
sections-of s xs a = by (begins s)
  where
    by : Begins s → (h : Head) × (ds : List Declaration) × (read_record s ≡ record_is h ds) × SectionsOf s h (frames (new_schema s ds)) xs
    by (Begins.turned why k b c) = impossible (cc)
    by (Begins.passed h ds w r v) =
        (h, ds, r, each-made s h ds r v xs (sym (all-passed s h ds (new_schema s ds) v) ∙ sym (all_of s h ds w r) ∙ a))

-- In bytes: a single call for it, in any buffer that its lines fit into, answers 0 and gives them.
pub single-lines : (s : Text) (h : Head) (e : Entry) (x : Section) → SectionOf s h e x → length (call_of s h e) ≤ 16384
    → (room : ℕ) → length (section_lines x) ≤ room → lower (call_of s h e) room ≡ record { answered = 0; lines = section_lines x }
unfolding lowered fitted
single-lines s h e x k fit room w =
    ap (lowered room) (k.single fit)
    ∙ ap (λ (b : Bool). elim b [ true ↦ record { answered = 0; lines = section_lines x } | false ↦ turned_back Refusal.NoRoom ])
    (le-leb (length (section_lines x)) room w)

-- Its whole has at most 263,520 bytes,
pub longest-whole : (s : Text) (xs : List Section) → answer_all s ≡ accepted_all xs → length (sections_text xs) ≤ most_all
longest-whole s xs a = subst (WholeFits 32) a (fits_all s)

-- so 15 is never answered where the buffer has that many.
pub enough-all : (s : Text) (room : ℕ) → most_all ≤ room → (lower_all s room).answered ≡ 15 → ⊥
enough-all s room k = room-enough room k (answer_all s) (fits_all s)

-- Where `lower_all` answers 0, the file is accepted, and what it writes are its sections, joined.
pub whole_is : (s : Text) (room : ℕ) → (lower_all s room).answered ≡ 0
    → (xs : List Section) × (answer_all s ≡ accepted_all xs) × ((lower_all s room).lines ≡ sections_text xs)
whole_is s room z = whole-written s room z
