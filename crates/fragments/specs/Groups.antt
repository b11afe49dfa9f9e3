-- A record's text as fragments: for each declaration its lines before its fields, and the text of each field.
-- Assumes nothing.
use Rattle.std.specs.Prelude.{List, [], ◌∷◌, ◌++◌}
use Rattle.definitions.specs.Bytes.{Text}

-- the lines of a declaration before its fields, and the text of each of its fields
pub record Group : Type 0 where
  pub header : Text
  pub fields : List Text

-- ---- their text

abbrev pub joined_fields : List Text → Text
joined_fields [] = []
joined_fields (f ∷ fs) = f ++ joined_fields fs

abbrev pub joined : List Group → Text
joined [] = []
joined (g ∷ gs) = g.header ++ (joined_fields g.fields ++ joined gs)
