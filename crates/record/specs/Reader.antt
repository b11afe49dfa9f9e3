-- What the record reader answers, and the tables that it leaves: document 01, refusals 1 to 6, and 16 of document 02 behind 2.
-- Assumes nothing.
use Rattle.std.specs.Prelude.{Option, Result, Ok, Err, true, false, List, ◌≡◌, ℕ, ◌*◌, ◌/◌, min, length}
use Rattle.std.specs.Option.{is_none, ok_or}
use Rattle.definitions.specs.Record.{on_read, Declaration, RecordRead, record_is, no_record, head_at, declarations_at, read_record}
use Rattle.definitions.specs.Refusals.{Verdict, on_ok, keyword_name, too_many, duplicate_name, unknown_name, out_of_range, refuse_if}
use Rattle.definitions.specs.Bytes.{Text}
use Rattle.definitions.specs.Answer.{wrong_length}
use Rattle.definitions.specs.declared.Head.{Head}
use Rattle.definitions.specs.declared.Refusal.{Refusal}
use Rattle.keywords.specs.Screens.{screen_head}
use Rattle.tables.specs.Tables.{Tables}
use Rattle.places.specs.Places.{given, filled_in, screen_decls, tables_from}

-- 3 to 6
unfoldable pub read_verdict : Text → List Declaration → Verdict
read_verdict s ds =
    refuse_if (too_many ds) Refusal.TooMany
    (refuse_if (duplicate_name s ds) Refusal.DuplicateName
    (refuse_if (unknown_name s ds) Refusal.UnknownName (refuse_if (out_of_range ds) Refusal.OutOfRange (Ok tt))))

-- 16, then 3 to 6: the first part of `verdict`
abbrev pub first_verdict : Text → Head → List Declaration → Verdict
first_verdict s h ds = refuse_if (keyword_name s h ds) Refusal.Keyword (read_verdict s ds)

abbrev pub reading_of : Head → ℕ → Verdict → Result (Head × ℕ) Refusal
reading_of h n v = on_ok v λ u. Ok (h, n)

-- 2, then 16, then 3 to 6
abbrev pub reading_read : Text → RecordRead → Result (Head × ℕ) Refusal
reading_read s no_record = Err Refusal.RecordForm
reading_read s (record_is h ds) = reading_of h (length ds) (first_verdict s h ds)

-- 1, 2, 16, 3 to 6
unfoldable pub reading : Text → Result (Head × ℕ) Refusal
reading s = elim (wrong_length s) [ true ↦ Err Refusal.RecordLength | false ↦ reading_read s (read_record s) ]

-- the tables behind the reader: as they were where the target is a keyword
unfoldable pub tables_after : Text → Tables → Tables
tables_after s t = elim (wrong_length s) [
  | true ↦ t
  | false ↦ on_read (screen_head s (head_at s 0)) t λ target p. filled_in (is_none target) t (tables_from s (length s) 0 p t)
]

-- the numbers that a record's fields take: none of one that is too long, which is not read
abbrev pub values_room : Text → ℕ
values_room s = min (length s) 16384 / 16 * 17

-- the answer and the tables, for tables of 32 declarations, 2,048 fields and the record's values
pub record OfRecord (s : Text) (t : Tables) (r : Result (Head × ℕ) Refusal) (u : Tables) : Type 0 where
  pub answer : r ≡ reading s
  pub tables : u ≡ tables_after s t

-- ---- the same by what the tables give, for tables of any length

-- behind a target that is a keyword only the form is read
abbrev pub reading_counted : Text → Tables → Option Head → Result ℕ Refusal → Result (Head × ℕ) Refusal
reading_counted s t target r = on_ok r λ n. on_ok (ok_or target Refusal.Keyword) λ h. reading_of h n (read_verdict s (given t n))

unfoldable pub reading_in : Text → Tables → Result (Head × ℕ) Refusal
reading_in s t = elim (wrong_length s) [
  | true ↦ Err Refusal.RecordLength
  | false ↦
      on_read (screen_head s (head_at s 0)) (Err Refusal.RecordForm) λ target p.
      reading_counted s t target (screen_decls s (is_none target) 0 (declarations_at s (length s) p))
]

pub record InTables (s : Text) (t : Tables) (r : Result (Head × ℕ) Refusal) (u : Tables) : Type 0 where
  pub answer : r ≡ reading_in s u
  pub tables : u ≡ tables_after s t
