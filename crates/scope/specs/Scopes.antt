-- What refusals 4 and 5 test of the tables of a record.
-- Assumes nothing.
use Rattle.std.specs.Prelude.{Bool, List}
use Rattle.definitions.specs.Bytes.{Text}
use Rattle.definitions.specs.Record.{Declaration}
use Rattle.definitions.specs.Sizes.{same_name}
use Rattle.definitions.specs.Refusals.{bad_type}
use Rattle.definitions.specs.declared.Part.{Part}
use Rattle.definitions.specs.declared.Field.{Field}

-- the test of `duplicate_name`, of a declaration
abbrev pub has_name : Text → Part → Declaration → Bool
has_name s name d = same_name s name d.decl.id

-- the test of `bad_names`, of a field
abbrev pub bad_field_type : Text → List Declaration → Field → Bool
bad_field_type s earlier f = bad_type s earlier f.desc
