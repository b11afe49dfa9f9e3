-- The `if` names of a list of fields, and a table that has them. In proofs/Agree, `is-cond` says that looking among the names is the definitions'
-- `is_cond_for`.
-- Assumes nothing.
use Rattle.std.specs.Prelude.{Bool, List, [], ◌∷◌, ◌++◌, ◌≡◌, ℕ, ◌≤◌, length, take, Option, Some, None}
use Rattle.definitions.specs.Bytes.{Text, any}
use Rattle.definitions.specs.Sizes.{same_name}
use Rattle.definitions.specs.declared.Condition.{Condition}
use Rattle.definitions.specs.declared.Field.{Field}
use Rattle.definitions.specs.declared.Part.{Part}

-- none or one
abbrev pub if_name : Option Condition → List Part
if_name None = []
if_name (Some cond) = cond.id ∷ []

-- in the order of the fields
unfoldable pub cond_names : List Field → List Part
cond_names [] = []
cond_names (f ∷ fs) = if_name f.cond ++ cond_names fs

-- `is_cond_for`, among names
unfoldable pub is_cond_in : Text → List Part → Part → Bool
is_cond_in s names id = any (λ (name : Part). same_name s name id) names

-- the first r names of the table
pub record Gathered (names : List Part) (r : ℕ) (conds : List Part) : Type 0 where
  pub fits : r ≤ length conds
  pub are : take r conds ≡ names
