-- What the targets of a record tell, one after the other: the text of their sections and, where one is refused, why, and what was
-- written before. proofs/Agree has the law that this is `lower_each` of the definitions.
-- Assumes nothing.
use Rattle.std.specs.Prelude.{Result, Ok, Err, true, false, [], ◌∷◌, ◌++◌, ◌≡◌, ℕ, ◌+◌, ◌-◌, ◌≤◌, ◌<◌, ltb, length}
use Rattle.definitions.specs.Refusals.{Verdict, is_frame}
use Rattle.definitions.specs.Bytes.{Text, part}
use Rattle.definitions.specs.Sizes.{Schema, Entry}
use Rattle.definitions.specs.FieldParser.{Setting}
use Rattle.definitions.specs.All.{Outcomes, refused_all, accepted_all, target_line, sections_text}
use Rattle.definitions.specs.declared.Options.{Options}
use Rattle.definitions.specs.declared.Refusal.{Refusal}
use Rattle.stream.specs.Stream.{Result as Streamed, refuses, writes, fresh}
use Rattle.tables.specs.Tables.{Tables, count_here}
use Rattle.emits.specs.Target.{Fine}
use Rattle.plans.specs.Planned.{plans_of}
use Rattle.plans.specs.Told.{Told, joined, tell}
use Rattle.text.specs.Put.{Put}
use Rattle.std.proofs.lemmas.List.Edits.{sets}

-- ---- a section

-- 19, behind the target's own refusals: its lines have n bytes
unfoldable pub limited_by : Verdict → ℕ → Verdict
limited_by (Err why) n = Err why
limited_by (Ok _) n = elim (ltb 8192 n) [ true ↦ Err Refusal.SectionTooLong | false ↦ Ok tt ]

abbrev pub section_told : Text → Told → Told
section_told name d = record { verdict = limited_by d.verdict (length d.lines); lines = target_line name ++ d.lines }

-- ---- all of them

module _ (s : Text) (o : Options) where
  -- `FieldParser::new`
  abbrev pub setting_in : Entry → Setting
  setting_in e = record { source = s; scope = e.earlier; options = o; fields = e.declaration.fields }

  abbrev pub entry_told : Entry → Told
  entry_told e = section_told (part s e.row.decl.id) (tell o fresh (plans_of (setting_in e) e.fields))

  unfoldable pub tell_each : Schema → Told
  tell_each [] = record { verdict = Ok tt; lines = [] }
  tell_each (e ∷ es) = elim (is_frame e.row.decl.desc) [
    | true ↦ joined (entry_told e).verdict (entry_told e).lines (tell_each es)
    | false ↦ tell_each es
  ]

-- ---- what `put_sections` leaves

-- passed, or refused
abbrev pub verdict_of : Result ℕ Refusal → Verdict
verdict_of (Ok at) = Ok tt
verdict_of (Err why) = Err why

-- the place behind the sections, or the refusal; what is told stands at the front of the buffer either way
pub record SectionsTold (told : Told) (out : Text) (r : Result ℕ Refusal) (left : Text) : Type 0 where
  pub verdict_is : verdict_of r ≡ told.verdict
  pub wrote : {at : ℕ} → r ≡ Ok at → Put out 0 told.lines at left
  pub holds : left ≡ sets out 0 told.lines

-- the definitions' outcome, as the text that is written
abbrev pub rendered_all : Outcomes → Streamed
rendered_all (refused_all why) = refuses why
rendered_all (accepted_all xs) = writes (sections_text xs)

-- ---- what the writers ask of a record of n declarations: it is no longer than a record may be, and each declaration is behind refusals 3 and 7

pub record AllFine (t : Tables) (n : ℕ) : Type 0 where
  pub short : length t.source ≤ 16384
  pub few : n ≤ 32
  pub fine : (i : ℕ) → i < n → Fine t i (count_here t.rows i)
