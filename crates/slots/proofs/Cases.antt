-- Computed tests of `parted`, as one table checked by one fact.
-- Assumes nothing.
use mathlib.Core.Path.{◌≡◌, refl}
use mathlib.Core.Bool.{Bool, true, false, ◌&&◌}
use mathlib.Core.List.{List, [], ◌∷◌}
use Prim.Native.Nat.{ℕ}
use Prim.Native.String.{String}
use Rattle.definitions.specs.Bytes.{Text, text, same, all}
use Rattle.slots.specs.Pieces.{parted}

-- what is computed, and what is expected
record Case : Type 0 where
  pieces : List Text
  expected : List String

same_texts : List Text → List String → Bool
same_texts [] [] = true
same_texts (t ∷ ts) (s ∷ ss) = same t (text s) && same_texts ts ss
same_texts [] (s ∷ ss) = false
same_texts (t ∷ ts) [] = false

right : Case → Bool
right c = same_texts c.pieces c.expected

parts : ℕ → String → List String → Case
parts c t expected = record { pieces = parted c (text t); expected = expected }

cases : List Case
cases =
    parts 124 "" ("" ∷ [])
    ∷ parts 124 "ab" ("ab" ∷ [])
    ∷ parts 124 "|" ("" ∷ "" ∷ [])
    ∷ parts 124 "a|" ("a" ∷ "" ∷ [])
    ∷ parts 124 "|a" ("" ∷ "a" ∷ [])
    ∷ parts 124 "a;b||cd" ("a;b" ∷ "" ∷ "cd" ∷ [])
    ∷ parts 59 "a|b|c;;d;|e|fg|" ("a|b|c" ∷ "" ∷ "d" ∷ "|e|fg|" ∷ [])
    ∷ []

cases-right : all right cases ≡ true
unfolding parted same_texts right parts cases
cases-right = refl
