-- Document 02, Card 1: what is promised of every record of the load.
-- Assumes nothing.
use Rattle.std.specs.Prelude.{Ok, false, List, ◌≡◌}
use Rattle.definitions.specs.Bytes.{Text}
use Rattle.definitions.specs.Record.{Declaration, record_is, read_record}
use Rattle.definitions.specs.Sizes.{new_schema}
use Rattle.definitions.specs.Refusals.{verdict}
use Rattle.definitions.specs.Answer.{wrong_length}
use Rattle.definitions.specs.declared.Head.{Head}

-- a record passes refusals 1 to 9, 16 and 17
pub record Passes (rec : Text) : Type 0 where
  pub head : Head
  pub declarations : List Declaration
  -- 1
  pub length : wrong_length rec ≡ false
  -- 2
  pub read : read_record rec ≡ record_is head declarations
  -- 16, 3 to 8, 17 and 9
  pub rest : verdict rec head declarations (new_schema rec declarations) ≡ (Ok tt)
