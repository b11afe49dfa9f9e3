-- Document 02, Card 13: what `lower_all` answers for any bytes. The record is turned back by the first refusal that it meets, or its sections stand at the
-- front of the output buffer, joined: one for each packet and struct, in file order, a line `// target=NAME` and the lines of that target. (The card says
-- part for a section; a `Part` here is one of the record.)
-- Assumes nothing.
use Rattle.std.specs.Prelude.{Ok, Err, ℕ, true, false, List, [], ◌∷◌, ◌++◌, length, nat_lt}
use Rattle.definitions.specs.Bytes.{Text, text, part}
use Rattle.definitions.specs.Record.{Declaration, RecordRead, record_is, no_record, read_record}
use Rattle.definitions.specs.Sizes.{Schema, new_schema}
use Rattle.definitions.specs.Refusals.{verdict, is_frame}
use Rattle.definitions.specs.Lines.{render}
use Rattle.definitions.specs.Blocks.{Block, program}
use Rattle.definitions.specs.FieldParser.{Outcome, refused, accepted}
use Rattle.definitions.specs.Answer.{lower_target, wrong_length, Lowered, turned_back, fitted}
use Rattle.definitions.specs.declared.Head.{Head}
use Rattle.definitions.specs.declared.Refusal.{Refusal}

-- ---- sections

-- the target's name, and the blocks of its lines
pub record Section : Type 0 where
  pub name : Text
  pub blocks : List Block

abbrev pub section_lines : Section → Text
section_lines x = render (program x.blocks)

abbrev pub target_line : Text → Text
target_line name = text "// target=" ++ (name ++ text "\n")

abbrev pub section_text : Section → Text
section_text x = target_line x.name ++ section_lines x

-- the whole is these joined
abbrev pub sections_text : List Section → Text
sections_text [] = []
sections_text (x ∷ xs) = section_text x ++ sections_text xs

-- ---- all targets

-- a refusal, or all sections
pub data Outcomes : Type 0 where
  refused_all : Refusal → Outcomes
  accepted_all : List Section → Outcomes

abbrev pub join_section : Section → Outcomes → Outcomes
join_section x (refused_all why) = refused_all why
join_section x (accepted_all xs) = accepted_all (x ∷ xs)

-- a target with this name and outcome, before what the later ones come to. 19: its lines have more than 8,192 bytes
unfoldable pub with_section : Text → Outcome → Outcomes → Outcomes
with_section name (refused why) later = refused_all why
with_section name (accepted bs) later = elim (nat_lt 8192 (length (render (program bs)))) [
  | true ↦ refused_all Refusal.SectionTooLong
  | false ↦ join_section (record { name = name; blocks = bs }) later
]

-- each packet and struct; a refusal is the first target's that is refused
unfoldable pub lower_each : Text → Head → Schema → Outcomes
lower_each s h [] = accepted_all []
lower_each s h (e ∷ es) = elim (is_frame e.row.decl.desc) [
  | true ↦ with_section (part s e.row.decl.id) (lower_target s h e) (lower_each s h es)
  | false ↦ lower_each s h es
]

-- ---- the answer: 1 to 9, 16 and 17 as in `lower`, before any target

unfoldable pub all_record : Text → Head → List Declaration → Schema → Outcomes
all_record s h ds schema = elim (verdict s h ds schema) [
  | (Ok tt) ↦ lower_each s h schema
  | Err why ↦ refused_all why
]

abbrev pub all_read : Text → RecordRead → Outcomes
all_read s no_record = refused_all Refusal.RecordForm
all_read s (record_is h ds) = all_record s h ds (new_schema s ds)

-- all but 15
unfoldable pub answer_all : Text → Outcomes
answer_all s = elim (wrong_length s) [ true ↦ refused_all Refusal.RecordLength | false ↦ all_read s (read_record s) ]

-- 15, on top: the whole, with its target lines, is longer than a buffer of `room` bytes
unfoldable pub lowered_all : ℕ → Outcomes → Lowered
lowered_all room (refused_all why) = turned_back why
lowered_all room (accepted_all xs) = fitted room (sections_text xs)

abbrev pub lower_all : Text → ℕ → Lowered
lower_all rec room = lowered_all room (answer_all rec)
