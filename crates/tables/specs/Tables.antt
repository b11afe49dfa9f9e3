-- What the tables of a record give back, by total functions, for any tables: `rows` with 13 numbers for each declaration, `fields` with 64 places for each,
-- and `values` with 17 numbers for each field, at 17 * (its place / 16), since a field has 16 bytes or more. No part of the answer.
-- Assumes nothing.
use Rattle.std.specs.Prelude.{Option, Some, None, true, false, List, [], ◌∷◌, ℕ, zero, suc, ◌+◌, ◌*◌, ◌/◌, get_or, set}
use Rattle.definitions.specs.Bytes.{Text}
use Rattle.definitions.specs.Record.{Declaration}
use Rattle.definitions.specs.Sizes.{Row, same_name}
use Rattle.definitions.specs.Tables.{decode}
use Rattle.definitions.specs.declared.Field.{Field}
use Rattle.definitions.specs.declared.Decl.{Decl}
use Rattle.definitions.specs.declared.Part.{Part}
use Rattle.tables.specs.Words.{field_of, decl_of}

-- ---- fields

-- the field whose place in the record is `at`
unfoldable pub field_here : List ℕ → ℕ → Field
field_here values at = field_of values (at / 16 * 17)

-- n fields, at the places that the table of 2,048 has from j on
unfoldable pub fields_from : List ℕ → List ℕ → ℕ → ℕ → List Field
fields_from values fields j zero = []
fields_from values fields j (suc n) = field_here values (get_or fields j 0) ∷ fields_from values fields (j + 1) n

-- ---- declarations: 13 numbers a row, those of the declaration, the number of its fields, and its three sizes

unfoldable pub decl_here : List ℕ → ℕ → Decl
decl_here rows i = decl_of rows (i * 13)

abbrev pub count_here : List ℕ → ℕ → ℕ
count_here rows i = get_or rows (i * 13 + 9) 0

-- the declaration with the index i: count i of the fields' places from 64 i on
abbrev pub declaration_in : List ℕ → List ℕ → List ℕ → ℕ → Declaration
declaration_in rows values fields i = record { decl = decl_here rows i; fields = fields_from values fields (i * 64) (count_here rows i) }

-- m of them, from i on
unfoldable pub declarations_from : List ℕ → List ℕ → List ℕ → ℕ → ℕ → List Declaration
declarations_from rows values fields i zero = []
declarations_from rows values fields i (suc m) =
    declaration_in rows values fields i ∷ declarations_from rows values fields (i + 1) m

-- the row of `Schema` with the index i
abbrev pub row_in : List ℕ → ℕ → Row
row_in rows i =
    record {
      decl = decl_here rows i;
      decl_size = decode (get_or rows (i * 13 + 10) 0);
      parent_size = decode (get_or rows (i * 13 + 11) 0);
      payload_size = decode (get_or rows (i * 13 + 12) 0);
    }

-- m of them, from i on
unfoldable pub rows_from : List ℕ → ℕ → ℕ → List Row
rows_from rows i zero = []
rows_from rows i (suc m) = row_in rows i ∷ rows_from rows (i + 1) m

-- its three sizes written
abbrev pub with_sizes : List ℕ → ℕ → ℕ → ℕ → ℕ → List ℕ
with_sizes rows i own parent payload = set (set (set rows (i * 13 + 10) own) (i * 13 + 11) parent) (i * 13 + 12) payload

-- ---- the look-up of a declaration by its name

-- m declarations without their fields, from i on
unfoldable pub decls_from : List ℕ → ℕ → ℕ → List Decl
decls_from rows i zero = []
decls_from rows i (suc m) = decl_here rows i ∷ decls_from rows (i + 1) m

-- the index of the first with the name, where the first of the list has index i
unfoldable pub which : Text → Part → ℕ → List Decl → Option ℕ
which s name i [] = None
which s name i (d ∷ ds) = elim (same_name s d.id name) [ true ↦ Some i | false ↦ which s name (i + 1) ds ]

-- ---- the record and its tables as one thing

pub record Tables : Type 0 where
  pub source : Text
  pub rows : List ℕ
  pub values : List ℕ
  pub fields : List ℕ

abbrev pub tables_of : Text → List ℕ → List ℕ → List ℕ → Tables
tables_of source rows values fields = record { source = source; rows = rows; values = values; fields = fields }

-- the rows before the declaration with the index i, and its n fields
abbrev pub rows_of : Tables → ℕ → List Row
rows_of t i = rows_from t.rows 0 i

abbrev pub fields_of : Tables → ℕ → ℕ → List Field
fields_of t i n = fields_from t.values t.fields (i * 64) n
