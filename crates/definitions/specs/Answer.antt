-- Demand 1: what `lower` answers for any bytes. The record is turned back by the first refusal that it meets, or its lines stand at the front of the
-- output buffer, and the bytes behind them are unchanged.
-- Assumes nothing.
use Rattle.std.specs.Prelude.{Ok, Err, ℕ, ◌+◌, ◌*◌, ◌^◌, Bool, true, false, ◌||◌, List, [], ◌∷◌, ◌++◌, length, drop, ◌==◌, nat_le, nat_lt}
use Rattle.definitions.specs.Bytes.{Text}
use Rattle.definitions.specs.Record.{Declaration, RecordRead, record_is, no_record, read_record}
use Rattle.definitions.specs.Sizes.{Schema, Entry, new_schema}
use Rattle.definitions.specs.Refusals.{number, verdict, is_target}
use Rattle.definitions.specs.Lines.{render}
use Rattle.definitions.specs.Blocks.{program}
use Rattle.definitions.specs.FieldParser.{Setting, Outcome, refused, accepted, lower_fields}
use Rattle.definitions.specs.declared.Head.{Head}
use Rattle.definitions.specs.declared.Refusal.{Refusal}

-- `FieldParser::new`: the record, the head's choices and the target
abbrev pub setting_of : Text → Head → Entry → Setting
setting_of s h e =
    record { source = s; scope = e.earlier; options = h.options; fields = e.declaration.fields }

abbrev pub lower_target : Text → Head → Entry → Outcome
lower_target s h e = lower_fields (setting_of s h e) e.fields

-- the first entry that is the target; where 9 is not met there is one
unfoldable pub lower_in : Text → Head → Schema → Outcome
lower_in s h [] = refused Refusal.NoTarget
lower_in s h (e ∷ es) = elim (is_target s h e) [ true ↦ lower_target s h e | false ↦ lower_in s h es ]

unfoldable pub lower_record : Text → Head → List Declaration → Schema → Outcome
lower_record s h ds schema = elim (verdict s h ds schema) [
  | (Ok tt) ↦ lower_in s h schema
  | Err why ↦ refused why
]

-- 2: a line breaks the record form
abbrev pub answer_read : Text → RecordRead → Outcome
answer_read s no_record = refused Refusal.RecordForm
answer_read s (record_is h ds) = lower_record s h ds (new_schema s ds)

-- 1: empty or longer than 16,384 bytes
abbrev pub wrong_length : Text → Bool
wrong_length s = length s == 0 || nat_lt 16384 (length s)

-- all but 15
unfoldable pub answer : Text → Outcome
answer s = elim (wrong_length s) [ true ↦ refused Refusal.RecordLength | false ↦ answer_read s (read_record s) ]

-- ---- 15, on top: the lines are longer than the output buffer

-- the answer number and the lines
pub record Lowered : Type 0 where
  pub answered : ℕ
  pub lines : Text

abbrev pub turned_back : Refusal → Lowered
turned_back why = record { answered = number why; lines = [] }

unfoldable pub fitted : ℕ → Text → Lowered
fitted room t = elim (nat_le (length t) room) [ true ↦ record { answered = 0; lines = t } | false ↦ turned_back Refusal.NoRoom ]

-- for a buffer of `room` bytes
unfoldable pub lowered : ℕ → Outcome → Lowered
lowered room (refused why) = turned_back why
lowered room (accepted bs) = fitted room (render (program bs))

abbrev pub lower : Text → ℕ → Lowered
lower rec room = lowered room (answer rec)

-- what the build host gets: the answer times 2 ^ 32 plus the length
abbrev pub word : Lowered → ℕ
word r = r.answered * 2 ^ 32 + length r.lines

-- what the output buffer holds at exit
abbrev pub buffer_after : Lowered → Text → Text
buffer_after r out = r.lines ++ drop (length r.lines) out
