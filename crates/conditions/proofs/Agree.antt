-- Looking among the names is the definitions' `is_cond_for`.
-- Assumes nothing.
use Rattle.std.specs.Prelude.{Option, Some, None}
use mathlib.Core.Bool.{Bool, ◌||◌}
use mathlib.Core.List.{List, [], ◌∷◌, ◌++◌}
use mathlib.Core.Path.{◌≡◌, refl, ap}
use Rattle.definitions.specs.Bytes.{Text, any}
use Rattle.definitions.specs.Sizes.{same_name}
use Rattle.definitions.specs.FieldParser.{is_cond_of}
use Rattle.definitions.specs.declared.Condition.{Condition}
use Rattle.definitions.specs.declared.Field.{Field}
use Rattle.definitions.specs.declared.Part.{Part}
use Rattle.conditions.specs.IfNames.{if_name, cond_names, is_cond_in}

pub is-cond : (s : Text) (id : Part) (fs : List Field) → is_cond_in s (cond_names fs) id ≡ any (λ (f : Field). is_cond_of s id f.cond) fs
unfolding is_cond_in cond_names
is-cond s id [] = refl
is-cond s id (f ∷ fs) = by f.cond (is-cond s id fs)
  where
    by : (c : Option Condition) → any (λ (name : Part). same_name s name id) (cond_names fs) ≡ any (λ (f : Field). is_cond_of s id f.cond) fs
        → any (λ (name : Part). same_name s name id) (if_name c ++ cond_names fs) ≡ (is_cond_of s id c || any (λ (f : Field). is_cond_of s id f.cond) fs)
    by None h = h
    by (Some cond) h = ap (λ (b : Bool). same_name s cond.id id || b) h
