-- What refusals 3 and 6 test of the tables of a record.
-- Assumes nothing.
use Rattle.std.specs.Prelude.{Bool, ◌||◌, List, [], ℕ}
use Rattle.definitions.specs.Bytes.{any}
use Rattle.definitions.specs.Record.{Declaration}
use Rattle.definitions.specs.Refusals.{bad_number, bad_decl}
use Rattle.tables.specs.Tables.{declarations_from}
use Rattle.definitions.specs.declared.Field.{Field}

-- n declarations without the values of their fields, for tests of how many fields they have (3), of their names (4) and of their kinds (5)
abbrev pub bare : List ℕ → ℕ → List Declaration
bare rows n = declarations_from rows [] [] 0 n

-- the tests of `out_of_range`, of a field and of a declaration
abbrev pub bad_field : Field → Bool
bad_field f = bad_number f.desc

abbrev pub bad_numbers : Declaration → Bool
bad_numbers d = bad_decl d.decl.desc || any bad_field d.fields
