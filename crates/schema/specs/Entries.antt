-- What the code keeps of an entry of `Schema`, the entries that the tables of a record give back, for any tables, and the table that the pass leaves.
-- Assumes nothing.
use Rattle.std.specs.Prelude.{Option, Some, None, Ok, Bool, true, false, ◌||◌, List, [], ◌∷◌, ◌≡◌, ℕ, zero, suc, ◌+◌}
use Rattle.definitions.specs.Bytes.{Text}
use Rattle.definitions.specs.Record.{Declaration}
use Rattle.definitions.specs.Sizes.{Schema, Entry, Row, add_size, decl_size_of, payload_size_of, annotate_fields, annotate_decl, new_schema}
use Rattle.definitions.specs.declared.Refusal.{Refusal}
use Rattle.definitions.specs.Refusals.{Verdict, refuse_if, large_size, too_large, large_entry, large}
use Rattle.definitions.specs.Tables.{encode}
use Rattle.definitions.specs.declared.DeclDesc.{DeclDesc}
use Rattle.definitions.specs.declared.Size.{Size}
use Rattle.tables.specs.Tables.{declaration_in, declarations_from, row_in, rows_from, with_sizes}
use Rattle.bits.specs.Capped.{capped}
use Rattle.annotate.specs.declared.FieldSums.{FieldSums}
use Rattle.schema.specs.declared.RowSizes.{RowSizes}

-- ---- one entry

abbrev pub large_sizes : Size → Size → Size → Bool
large_sizes own parent payload =
    large_size own || large_size parent || large_size payload || large_size (add_size (add_size own parent) payload)

-- a row, and none where 7 is met
abbrev pub unless : Bool → RowSizes → Option RowSizes
unless true row = None
unless false row = Some row

-- of what the fields and the parent come to
abbrev pub row_sizes : DeclDesc → FieldSums → Size → Option RowSizes
row_sizes desc sums above =
    unless (sums.large || large_sizes (capped (decl_size_of desc sums.sum)) (capped above) (payload_size_of desc sums.payload) || too_large sums.bits)
    (record { own = capped (decl_size_of desc sums.sum); parent = capped above; payload = payload_size_of desc sums.payload })

-- the row, capped
abbrev pub entry_sizes : Entry → RowSizes
entry_sizes e = record { own = capped e.row.decl_size; parent = capped e.row.parent_size; payload = capped e.row.payload_size }

abbrev pub fine_sizes : Entry → Option RowSizes
fine_sizes e = unless (large_entry e) (entry_sizes e)

-- ---- the entries that the tables give

-- the entry of a declaration: the rows before, its fields with their sizes, its row
abbrev pub entry_with : Text → Declaration → List Row → Row → Entry
entry_with s d earlier row = record { earlier = earlier; declaration = d; fields = annotate_fields s earlier d.fields d.fields; row = row }

-- the entry with the index i
abbrev pub entry_in : Text → List ℕ → List ℕ → List ℕ → ℕ → Entry
entry_in s rows values fields i = entry_with s (declaration_in rows values fields i) (rows_from rows 0 i) (row_in rows i)

-- m of them, from i on
unfoldable pub entries_from : Text → List ℕ → List ℕ → List ℕ → ℕ → ℕ → Schema
entries_from s rows values fields i zero = []
entries_from s rows values fields i (suc m) = entry_in s rows values fields i ∷ entries_from s rows values fields (i + 1) m

-- ---- the pass

-- the three sizes of row i written
abbrev pub put_row : List ℕ → ℕ → RowSizes → List ℕ
put_row rows i row = with_sizes rows i (encode row.own) (encode row.parent) (encode row.payload)

-- the entry that the pass makes of the declaration with the index i
abbrev pub next_entry : Text → List ℕ → List ℕ → List ℕ → ℕ → Entry
next_entry s rows values fields i = annotate_decl s (rows_from rows 0 i) (declaration_in rows values fields i)

-- the table that it leaves, of m declarations from i on: the sizes of those before the first that is over the limit are set
unfoldable pub sized_rows : Text → List ℕ → List ℕ → List ℕ → ℕ → ℕ → List ℕ
sized_rows s rows values fields i zero = rows
sized_rows s rows values fields i (suc m) = elim (large_entry (next_entry s rows values fields i)) [
  | true ↦ rows
  | false ↦ sized_rows s (put_row rows i (entry_sizes (next_entry s rows values fields i))) values fields (i + 1) m
]

-- the answer is that of 7 over the whole record; where 7 is not met the tables give all of `Schema`, entry by entry; and the table that is left
pub record Sized (s : Text) (rows values fields : List ℕ) (n : ℕ) (rows' : List ℕ) (r : Verdict) : Type 0 where
  pub answer : r ≡ refuse_if (large (new_schema s (declarations_from rows values fields 0 n))) Refusal.TooLarge (Ok tt)
  pub tables : large (new_schema s (declarations_from rows values fields 0 n)) ≡ false
      → entries_from s rows' values fields 0 n ≡ new_schema s (declarations_from rows values fields 0 n)
  pub left : rows' ≡ sized_rows s rows values fields 0 n
