-- How `lower` and `lower_all` begin: 1 to 9, 16 and 17, before any target.
-- Assumes nothing.
use Rattle.std.specs.Prelude.{Ok, Bool, true, false, ◌||◌, List, ◌≡◌, ltb, eqb}
use Rattle.definitions.specs.Bytes.{Text}
use Rattle.definitions.specs.Record.{Declaration, record_is, read_record}
use Rattle.definitions.specs.Sizes.{new_schema}
use Rattle.definitions.specs.Refusals.{number, verdict}
use Rattle.definitions.specs.FieldParser.{refused}
use Rattle.definitions.specs.Answer.{wrong_length, answer}
use Rattle.definitions.specs.All.{refused_all, answer_all}
use Rattle.definitions.specs.declared.Head.{Head}
use Rattle.definitions.specs.declared.Refusal.{Refusal}

-- 1 to 9, 16 or 17
abbrev pub early : Refusal → Bool
early why = ltb (number why) 10 || eqb (number why) 16 || eqb (number why) 17

-- one of them turns the text back in both alike, or it passes them all
pub data Begins (s : Text) : Type 0 where
  turned : (why : Refusal) → early why ≡ true → answer s ≡ refused why → answer_all s ≡ refused_all why → Begins s
  passed : (h : Head) (ds : List Declaration) → wrong_length s ≡ false → read_record s ≡ record_is h ds
      → verdict s h ds (new_schema s ds) ≡ (Ok tt) → Begins s
