-- What is proved of each section of an accepted file: which declaration's it is, the single call that gives the same lines, and the demands. And how many
-- bytes a whole has at most.
-- Assumes nothing.
use Rattle.std.specs.Prelude.{List, [], ◌∷◌, ◌≡◌, ℕ, ◌+◌, ◌*◌, ◌≤◌, length}
use Rattle.definitions.specs.Bytes.{Text}
use Rattle.definitions.specs.Sizes.{Entry}
use Rattle.definitions.specs.FieldParser.{accepted}
use Rattle.definitions.specs.Answer.{setting_of, lower_target, answer}
use Rattle.definitions.specs.All.{Section, section_lines}
use Rattle.definitions.specs.declared.Head.{Head}
use Rattle.meaning.specs.Places.{BitField}
use Rattle.meaning.proofs.Demands.{Demand3, Demand2Bits}
use Rattle.joined.specs.Calls.{name_of, call_of}

-- of the entry e, in the record s with the head h
pub record SectionOf (s : Text) (h : Head) (e : Entry) (x : Section) : Type 0 where
  pub name_is : x.name ≡ name_of s h e
  pub lowers : lower_target s h e ≡ accepted x.blocks
  -- 8,192 bytes pass 19
  pub short : length (section_lines x) ≤ 8192
  -- a single call's lines, where its record is no longer than 16,384 bytes
  pub single : length (call_of s h e) ≤ 16384 → answer (call_of s h e) ≡ accepted x.blocks
  -- demand 3, and of demand 2 the bits, whatever the length
  pub demand3 : Demand3 (setting_of s h e) x.blocks
  pub demand2 : (d : BitField (setting_of s h e)) → Demand2Bits x.blocks (setting_of s h e) d

-- one section for each of these entries, in their order
abbrev pub SectionsOf : Text → Head → List Entry → List Section → Type 0
SectionsOf s h [] [] = Unit {0}
SectionsOf s h [] (x ∷ xs) = ⊥
SectionsOf s h (e ∷ es) [] = ⊥
SectionsOf s h (e ∷ es) (x ∷ xs) = SectionOf s h e x × SectionsOf s h es xs

-- ---- how long a whole is at most

-- a section: `// target=`, a name, a newline, and lines that pass 19
abbrev pub most_section : ℕ
most_section = 10 + 32 + 1 + 8192

-- of 32 declarations, which pass 3
abbrev pub most_all : ℕ
most_all = 32 * most_section
