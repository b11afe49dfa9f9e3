-- What is drawn was written at the start of a buffer.
-- Assumes nothing.
use Rattle.std.specs.Prelude.{◌≡◌, ℕ}
use Rattle.definitions.specs.Bytes.{Text}
use Rattle.text.specs.Put.{Put}
use Rattle.grammar.specs.Choices.{Drawn}

-- its text is written into out, up to end, and s is the state behind it; left is what out then holds
pub record Draws (d : Drawn) (out : Text) (end s : ℕ) (left : Text) : Type 0 where
  pub written : Put out 0 d.drawn end left
  pub stepped : s ≡ d.state
