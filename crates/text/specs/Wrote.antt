-- What a writer wrote.
-- Assumes nothing.
use Rattle.std.specs.Prelude.{◌≡◌}
use Rattle.definitions.specs.Bytes.{Text}
use Rattle.text.specs.Put.{Put}
use Rattle.text.specs.declared.Writer.{Writer}

-- a piece stands behind what was there, in the same buffer
pub record Wrote (old new : Writer) (piece : Text) : Type 0 where
  pub same : new.out.ghost_name ≡ old.out.ghost_name
  pub put : Put old.out.now old.at piece new.at new.out.now
