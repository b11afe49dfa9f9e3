-- Declarations of which some fields are left out.
-- Assumes nothing.
use mathlib.Core.Path.{◌≡◌}
use mathlib.Core.List.{List, [], ◌∷◌}
use Rattle.definitions.specs.Record.{Declaration}

-- a list, and one with more elements between its own
pub data Sublist {A : Type 0} : List A → List A → Type 0 where
  done : Sublist [] []
  keep : {x : A} {xs ys : List A} → Sublist xs ys → Sublist (x ∷ xs) (x ∷ ys)
  skip : {y : A} {xs ys : List A} → Sublist xs ys → Sublist xs (y ∷ ys)

-- the same declarations, each with fewer fields or the same
pub data FewerFields : List Declaration → List Declaration → Type 0 where
  done : FewerFields [] []
  more : {d e : Declaration} {ds es : List Declaration} → d.decl ≡ e.decl → Sublist d.fields e.fields → FewerFields ds es
      → FewerFields (d ∷ ds) (e ∷ es)
