-- The ties: what is proved of every record that `lower` or `lower_all` accepts. Its contract gives the number r and the bytes `left`, which the buffer `out`
-- holds at exit (premises `number` and `buffer`, in the contract's own words); meaning/proofs/Demands has what holds of the lines, joined/specs/Sections
-- what holds of the sections of a file.
-- Assumes nothing.
use Rattle.std.specs.Prelude.{Option, Some, None}
use mathlib.Core.Bool.{Bool, true, false}
use mathlib.Core.List.{List, [], ◌++◌}
use mathlib.Core.Path.{◌≡◌, refl, sym, ap, ◌∙◌}
use Prim.Native.Nat.{ℕ, ◌+◌, ◌/◌, ◌%◌, ◌^◌, ◌≤◌, ◌<◌}
use native.Mathlib.Omega.{arith}
use lib.Dec.{leb}
use lib.ListN.{length, drop}
use Rattle.definitions.specs.Bytes.{Text}
use Rattle.definitions.specs.Record.{Declaration, record_is, read_record}
use Rattle.definitions.specs.Sizes.{new_schema}
use Rattle.definitions.specs.Refusals.{number}
use Rattle.definitions.specs.Lines.{render}
use Rattle.definitions.specs.Blocks.{Block, program}
use Rattle.definitions.specs.FieldParser.{Outcome, refused, accepted}
use Rattle.definitions.specs.Answer.{answer, Lowered, turned_back, fitted, lowered, lower, word, buffer_after}
use Rattle.definitions.specs.All.{Section, sections_text, Outcomes, refused_all, accepted_all, answer_all, lowered_all, lower_all}
use Rattle.definitions.specs.declared.Head.{Head}
use Rattle.definitions.specs.declared.Refusal.{Refusal}
use Rattle.lengths.specs.Shares.{most_bytes}
use Rattle.lengths.proofs.Steps.{OutcomeFits}
use Rattle.lengths.proofs.Longest.{fits, enough, never-19}
use Rattle.meaning.specs.Runs.{Target, target_of, setting}
use Rattle.meaning.specs.Places.{BitField}
use Rattle.meaning.proofs.Demands.{Demand3, demand-3, Demand2Bits, bits, has-target, printed}
use Rattle.joined.specs.Calls.{frames}
use Rattle.joined.specs.Sections.{SectionsOf, most_all}
use Rattle.joined.proofs.Joined.{sections-of, longest-whole, enough-all, whole_is}

-- ==== What holds of a record that is accepted

pub record Accepted (s out : Text) (r : ℕ) (left : Text) : Type 0 where
  pub blocks : List Block
  pub is-accepted : answer s ≡ accepted blocks
  -- the number is the length of the lines, which stand at the front of the buffer; the bytes behind them are unchanged
  pub length-is : r ≡ length (render (program blocks))
  pub bytes-are : left ≡ render (program blocks) ++ drop r out
  pub target : Target
  pub is-target : target_of s ≡ Some target
  -- demand 3, of these lines
  pub demand3 : Demand3 (setting s target) blocks
  -- demand 2, the bits: of each bit field of the target
  pub demand2 : (d : BitField (setting s target)) → Demand2Bits blocks (setting s target) d

-- Where the number's first part, the answer, is 0.
pub ties : (s out : Text) (r : ℕ) (left : Text)
    → r ≡ word (lower s (length out)) → left ≡ buffer_after (lower s (length out)) out
    → r < 2 ^ 32 → Accepted s out r left
ties s out r left number buffer small =
    by (printed s (length out) (let z : (lower s (length out)).answered ≡ 0 = omega (arith, number, small) in z))
  where
    by : (bs : List Block) × (answer s ≡ accepted bs) × ((lower s (length out)).lines ≡ render (program bs)) → Accepted s out r left
    by (bs, e, l) =
        let t = has-target s bs e in
        record {
          blocks = bs;
          is-accepted = e;
          length-is = same;
          bytes-are =
              buffer ∙ ap (λ (t : Text). t ++ drop (length t) out) l ∙ ap (λ (k : ℕ). render (program bs) ++ drop k out) (sym same);
          target = t.0;
          is-target = t.1;
          demand3 = demand-3 s bs e t.0 t.1;
          demand2 = bits s bs e t.0 t.1;
        }
      where
        same : r ≡ length (render (program bs))
        same = omega (arith, number, small, ap length l)

-- ==== What a build host reads off the number

-- there are at most so many bytes of lines, or none
data Shape (most : ℕ) (l : Lowered) : Type 0 where
  short : l.answered ≡ 0 → length l.lines ≤ most → Shape most l
  none : l.lines ≡ [] → Shape most l

shape-fitted : (most room : ℕ) (t : Text) → length t ≤ most → Shape most (fitted room t)
unfolding fitted
shape-fitted most room t h = by (leb (length t) room)
  where
    by : (b : Bool) → Shape most (elim b [ true ↦ record { answered = 0; lines = t } | false ↦ turned_back Refusal.NoRoom ])
    by true = Shape.short refl h
    by false = Shape.none refl

-- what the number of either says
record Parts (l : Lowered) (out : Text) (r : ℕ) (left : Text) : Type 0 where
  answer-is : r / 2 ^ 32 ≡ l.answered
  length-is : r % 2 ^ 32 ≡ length l.lines
  refused-unchanged : 2 ^ 32 ≤ r → left ≡ out

parts : (most : ℕ) → most < 2 ^ 32 → (l : Lowered) → Shape most l
    → (out : Text) (r : ℕ) (left : Text) → r ≡ word l → left ≡ buffer_after l out → Parts l out r left
parts most w l (Shape.short e h) out r left number buffer = record {
  answer-is = omega (arith, number, e, h, w);
  length-is = omega (arith, number, e, h, w);
  refused-unchanged = λ k. absurd (omega (arith, number, e, h, w, k));
}
parts most w l (Shape.none e) out r left number buffer = record {
  answer-is = omega (arith, number, ap length e);
  length-is = omega (arith, number, ap length e);
  refused-unchanged = λ k. buffer ∙ ap (λ (t : Text). t ++ drop (length t) out) e;
}

shape : (room : ℕ) (o : Outcome) → OutcomeFits most_bytes o → Shape most_bytes (lowered room o)
unfolding lowered
shape room (refused why) h = Shape.none refl
shape room (accepted bs) h = shape-fitted most_bytes room (render (program bs)) h

-- The two parts of the number are the answer and the length, and a record that is turned back changes no byte. No record needs more than 65,536 bytes, and
-- 19 is `lower_all`'s alone.
pub record Read (s out : Text) (r : ℕ) (left : Text) : Type 0 where
  pub answer-is : r / 2 ^ 32 ≡ (lower s (length out)).answered
  pub length-is : r % 2 ^ 32 ≡ length (lower s (length out)).lines
  pub refused-unchanged : 2 ^ 32 ≤ r → left ≡ out
  pub never-15 : most_bytes ≤ length out → r / 2 ^ 32 ≡ 15 → ⊥
  pub no-section : r / 2 ^ 32 ≡ 19 → ⊥

pub reads : (s out : Text) (r : ℕ) (left : Text)
    → r ≡ word (lower s (length out)) → left ≡ buffer_after (lower s (length out)) out
    → Read s out r left
reads s out r left number buffer =
    let p = parts most_bytes (omega arith) (lower s (length out)) (shape (length out) (answer s) (fits s)) out r left number buffer in
    record {
      answer-is = p.answer-is;
      length-is = p.length-is;
      refused-unchanged = p.refused-unchanged;
      never-15 = λ w g. enough s (length out) w (sym p.answer-is ∙ g);
      no-section = λ g. never-19 s (length out) (sym p.answer-is ∙ g);
    }

-- ==== `lower_all` (document 02, Card 13)

-- What holds of a file that is accepted.
pub record AcceptedAll (s out : Text) (r : ℕ) (left : Text) : Type 0 where
  pub sections : List Section
  pub is-accepted : answer_all s ≡ accepted_all sections
  -- the number is the length of the whole, which stands at the front of the buffer; the bytes behind it are unchanged
  pub length-is : r ≡ length (sections_text sections)
  pub bytes-are : left ≡ sections_text sections ++ drop r out
  pub head : Head
  pub declarations : List Declaration
  pub is_read : read_record s ≡ record_is head declarations
  -- a section for each packet and struct, in file order: the single call that gives its lines, demand 3 and the bits
  pub sections-are : SectionsOf s head (frames (new_schema s declarations)) sections

-- Where the number's first part, the answer, is 0.
pub ties-all : (s out : Text) (r : ℕ) (left : Text)
    → r ≡ word (lower_all s (length out)) → left ≡ buffer_after (lower_all s (length out)) out
    → r < 2 ^ 32 → AcceptedAll s out r left
ties-all s out r left number buffer small =
    by (whole_is s (length out) (let z : (lower_all s (length out)).answered ≡ 0 = omega (arith, number, small) in z))
  where
    by : (xs : List Section) × (answer_all s ≡ accepted_all xs) × ((lower_all s (length out)).lines ≡ sections_text xs) → AcceptedAll s out r left
    by (xs, e, l) =
        let k = sections-of s xs e in
        record {
          sections = xs;
          is-accepted = e;
          length-is = same;
          bytes-are = buffer ∙ ap (λ (t : Text). t ++ drop (length t) out) l ∙ ap (λ (n : ℕ). sections_text xs ++ drop n out) (sym same);
          head = k.0;
          declarations = k.1;
          is_read = k.2;
          sections-are = k.3;
        }
      where
        same : r ≡ length (sections_text xs)
        same = omega (arith, number, small, ap length l)

shape-all : (s : Text) (room : ℕ) → Shape most_all (lower_all s room)
unfolding lowered_all
shape-all s room = by (answer_all s) refl
  where
    by : (o : Outcomes) → answer_all s ≡ o → Shape most_all (lowered_all room o)
    by (refused_all why) e = Shape.none refl
    by (accepted_all xs) e = shape-fitted most_all room (sections_text xs) (longest-whole s xs e)

-- The two parts of the number are the answer and the length, and a file that is turned back changes no byte. No file needs more than 263,520 bytes.
pub record ReadAll (s out : Text) (r : ℕ) (left : Text) : Type 0 where
  pub answer-is : r / 2 ^ 32 ≡ (lower_all s (length out)).answered
  pub length-is : r % 2 ^ 32 ≡ length (lower_all s (length out)).lines
  pub refused-unchanged : 2 ^ 32 ≤ r → left ≡ out
  pub never-15 : most_all ≤ length out → r / 2 ^ 32 ≡ 15 → ⊥

pub reads_all : (s out : Text) (r : ℕ) (left : Text)
    → r ≡ word (lower_all s (length out)) → left ≡ buffer_after (lower_all s (length out)) out
    → ReadAll s out r left
reads_all s out r left number buffer =
    let p = parts most_all (omega arith) (lower_all s (length out)) (shape-all s (length out)) out r left number buffer in
    record {
      answer-is = p.answer-is;
      length-is = p.length-is;
      refused-unchanged = p.refused-unchanged;
      never-15 = λ w g. enough-all s (length out) w (sym p.answer-is ∙ g);
    }
