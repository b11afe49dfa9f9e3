-- What printing promises of a writer whose bytes are known. Assumes nothing.
use Rattle.std.specs.Prelude.{ℕ, List, ◌++◌, ◌/◌, ◌%◌, ◌^◌, ◌==◌, take, codes, decimal, Option, Result, MatchResult, if◌then◌else◌}
use Rattle.std.specs.Io.KnownBytes.{Appends}

-- these bytes stand behind those that were held; after an error the first of them, up to some place
abbrev pub Writes : {A E : Type 0} → Result A E → Option (List ℕ) → Option (List ℕ) → List ℕ → Type 0
Writes r old new bs = MatchResult r (λ _. Appends old new bs) (λ _. (k : ℕ) × Appends old new (take k bs))

-- a line `NAME=NUMBER`
abbrev pub number_line : List ℕ → ℕ → List ℕ
number_line name n = name ++ codes "=" ++ decimal n ++ codes "\n"

-- what is printed of the number that `lower` gives and the buffer that was lent: the lines at its front, or a line `refused=N`
unfoldable pub printed : ℕ → List ℕ → List ℕ
printed word out = if word / 2 ^ 32 == 0 then take (word % 2 ^ 32) out else number_line (codes "refused") (word / 2 ^ 32)
