-- The code's form of the keywords: for each length a text of the words, each with a byte behind it, and the first letters that words so long have.
-- Assumes nothing.
use Rattle.std.specs.Prelude.{Bool, false, ◌&&◌, List, [], ◌∷◌, ℕ, zero, suc, eqb, length, take, drop}
use Rattle.definitions.specs.Bytes.{Text, any}
use Rattle.definitions.specs.Keywords.{keywords}

-- so many words of n bytes each
unfoldable pub pieces : ℕ → ℕ → Text → List Text
pieces zero n t = []
pieces (suc count) n t = take n t ∷ pieces count n (drop (suc n) t)

-- a word of n bytes whose first one is c
abbrev pub begins : ℕ → ℕ → Text → Bool
begins n c [] = false
begins n c (x ∷ t) = eqb (length (x ∷ t)) n && eqb x c

-- a keyword may be so long and begin so
unfoldable pub may_be : ℕ → ℕ → Bool
may_be n c = any (begins n c) keywords
