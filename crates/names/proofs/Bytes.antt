-- A digit, and a letter, a digit or `_`, by the classes of ASCII (`is_digit`, `is_word`).
-- Assumes nothing.
use Rattle.std.specs.Prelude.{◌≡◌, ℕ, ◌||◌}
use Rattle.std.specs.Char.{is_ascii_alphanumeric, is_ascii_digit}
use mathlib.Core.Path.{refl}
use Rattle.definitions.specs.Bytes.{is_digit, is_word}
use lib.Dec.{eqb}

pub digit_is : (b : ℕ) → is_ascii_digit b ≡ is_digit b
unfolding is_digit
digit_is b = refl

pub word_is : (b : ℕ) → is_word b ≡ (is_ascii_alphanumeric b || eqb b 95)
unfolding is_word is_digit
word_is b = refl
