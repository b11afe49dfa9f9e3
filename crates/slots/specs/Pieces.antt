-- A family of slots as a text: slots parted by `;`, and in each the possibilities parted by `|`; neither byte stands in a record.
-- Assumes nothing.
use Rattle.std.specs.Prelude.{true, false, List, [], ◌∷◌, map, ℕ, suc, eqb}
use Rattle.definitions.specs.Bytes.{Text}
use Rattle.definitions.specs.Keywords.{onto}

-- the pieces of a text, one more than the bytes `c` between them
unfoldable pub parted : ℕ → Text → List Text
parted c [] = [] ∷ []
parted c (x ∷ t) = elim (eqb x c) [ true ↦ [] ∷ parted c t | false ↦ onto x (parted c t) ]

abbrev pub possibilities : Text → List Text
possibilities slot = parted 124 slot

abbrev pub slots : Text → List (List Text)
slots family = map possibilities (parted 59 family)

-- how far the first piece goes: the bytes before the first separator
unfoldable pub up_to : ℕ → Text → ℕ
up_to c [] = 0
up_to c (x ∷ t) = elim (eqb x c) [ true ↦ 0 | false ↦ suc (up_to c t) ]
