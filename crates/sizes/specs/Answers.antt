-- Refusals 7, 8, 17 and 9 as the code answers them, in this order: the first that is met, or the index of the target.
-- Assumes nothing.
use Rattle.std.specs.Prelude.{Option, Some, None, Result, Ok, Err, Bool, true, false, ◌&&◌, List, [], ◌∷◌, ◌≡◌, ℕ, ◌+◌}
use Rattle.definitions.specs.Refusals.{Verdict, on_ok, ragged_field, ragged, differs, misstated, large, is_frame}
use Rattle.std.specs.Option.{ok_or}
use Rattle.definitions.specs.Bytes.{Text, any}
use Rattle.definitions.specs.Sizes.{Schema, Row, same_name, new_schema}
use Rattle.definitions.specs.declared.Field.{Field}
use Rattle.definitions.specs.declared.Head.{Head}
use Rattle.definitions.specs.declared.Part.{Part}
use Rattle.definitions.specs.declared.Refusal.{Refusal}
use Rattle.tables.specs.Tables.{declarations_from}
use Rattle.schema.specs.Entries.{entries_from, sized_rows}

-- 8 in one declaration
unfoldable pub ragged_fields : Text → List Row → List Field → Bool
ragged_fields s rows fs = any (ragged_field s rows) fs

-- 17, of the rows that the code has; `misstated` looks at no more of an entry
abbrev pub misstated_row : Row → Bool
misstated_row r = differs r.decl.bits r.decl_size

unfoldable pub misstated_rows : List Row → Bool
misstated_rows rows = any misstated_row rows

-- the index of the first packet or struct with the target's name, where the first of the list has index i
unfoldable pub target_from : Text → Part → ℕ → Schema → Option ℕ
target_from s name i [] = None
target_from s name i (e ∷ es) =
    elim (same_name s e.row.decl.id name && is_frame e.row.decl.desc) [ true ↦ Some i | false ↦ target_from s name (i + 1) es ]

-- the target's index, or the first refusal
abbrev pub Sizing : Type 0
Sizing = Result ℕ Refusal

-- 9
abbrev pub target_or : Option ℕ → Sizing
target_or found = ok_or found Refusal.NoTarget

-- 17 and 9
unfoldable pub behind_whole : Text → Head → Schema → Sizing
behind_whole s h schema = elim (misstated schema) [ true ↦ Err Refusal.Misstated | false ↦ target_or (target_from s h.target 0 schema) ]

-- 8 and those behind it
unfoldable pub behind_schema : Text → Head → Schema → Sizing
behind_schema s h schema = elim (ragged s schema) [ true ↦ Err Refusal.NotWholeBytes | false ↦ behind_whole s h schema ]

-- 7 and those behind it
unfoldable pub check_sizes : Text → Head → Schema → Sizing
check_sizes s h schema = elim (large schema) [ true ↦ Err Refusal.TooLarge | false ↦ behind_schema s h schema ]

-- what it says of the record (proofs/Verdicts: `verdict` where none of 3 to 6 is met)
abbrev pub sizes_verdict : Sizing → Verdict
sizes_verdict r = on_ok r (λ i. Ok tt)

-- the answer for the declarations that the tables give; where 7 is not met they give all of `Schema`, entry by entry; and the table of rows that is left
pub record Checked (s : Text) (h : Head) (rows values fields : List ℕ) (n : ℕ) (rows' : List ℕ) (r : Sizing) : Type 0 where
  pub answer : r ≡ check_sizes s h (new_schema s (declarations_from rows values fields 0 n))
  pub tables : large (new_schema s (declarations_from rows values fields 0 n)) ≡ false
      → entries_from s rows' values fields 0 n ≡ new_schema s (declarations_from rows values fields 0 n)
  pub left : rows' ≡ sized_rows s rows values fields 0 n
