-- Digits behind `raw_value` (document 02, Card 7): a text with some of them left out, and the names that are `raw_value` with or without digits.
-- Assumes nothing.
use Rattle.std.specs.Prelude.{Bool, false, ◌&&◌, List, [], ◌∷◌, ◌++◌, ◌≡◌, ℕ, length, take, drop}
use Rattle.definitions.specs.Bytes.{Text, same, any, all, part, is_digit, decimal}
use Rattle.definitions.specs.Record.{Declaration}
use Rattle.definitions.specs.Refusals.{record_names}
use Rattle.definitions.specs.Blocks.{raw}
use Rattle.definitions.specs.declared.Part.{Part}
use Rattle.definitions.specs.declared.Head.{Head}

-- the second text is the first without some numbers, each of which stands just behind `raw_value`
pub data DigitsOut : Text → Text → Type 0 where
  end : DigitsOut [] []
  byte : (b : ℕ) {t u : Text} → DigitsOut t u → DigitsOut (b ∷ t) (b ∷ u)
  number : (k : ℕ) {t u : Text} → DigitsOut t u → DigitsOut (raw ++ (decimal k ++ t)) (raw ++ u)

-- `raw_value`, with or without digits behind it
unfoldable pub like_raw : Text → Bool
like_raw t = same (take (length raw) t) raw && all is_digit (drop (length raw) t)

-- no name of the record is
abbrev pub NoneLikeRaw : Text → Head → List Declaration → Type 0
NoneLikeRaw s h ds = any (λ (n : Part). like_raw (part s n)) (record_names h ds) ≡ false
