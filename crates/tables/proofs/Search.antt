-- The search for a name: `which`, and the definition's `find` by the index that it gives.
-- Assumes nothing.
use Rattle.std.specs.Prelude.{Option, Some, None}
use Rattle.std.specs.List.{range_with_len, find as first}
use Rattle.std.specs.Option.{option_map}
use Rattle.std.proofs.lemmas.Iterator.Adapters.{option_map_id}
use Prim.Native.Nat.{ℕ, zero, suc, ◌+◌}
use mathlib.Core.Bool.{Bool, true, false, cond}
use mathlib.Core.List.{List}
use mathlib.Core.Path.{◌≡◌, refl, sym, ◌∙◌}
use Rattle.definitions.specs.Record.{on_found}
use Rattle.definitions.specs.Sizes.{same_name}
use Rattle.definitions.specs.Refusals.{find}
use Rattle.definitions.specs.declared.Part.{Part}
use Rattle.definitions.specs.declared.DeclDesc.{DeclDesc}
use Rattle.tables.specs.Tables.{decl_here, declarations_from, decls_from, which}

-- ---- the search for a name

module _ (s rows : List ℕ) (name : Part) where
  abbrev pub is_named : ℕ → Bool
  is_named i = same_name s (decl_here rows i).id name

  first-named : (i m : ℕ) → first is_named (range_with_len i m) ≡ which s name i (decls_from rows i m)
  unfolding which decls_from
  first-named i zero = refl
  first-named i (suc m) = by (is_named i) (first-named (i + 1) m)
    where
      by : (b : Bool) → first is_named (range_with_len (i + 1) m) ≡ which s name (i + 1) (decls_from rows (i + 1) m)
          → cond b (Some i) (first is_named (range_with_len (i + 1) m)) ≡ elim b [ true ↦ Some i | false ↦ which s name (i + 1) (decls_from rows (i + 1) m) ]
      by true h = refl
      by false h = h

  pub which-first : (n : ℕ) {r : Option ℕ} → option_map (λ i. i) r ≡ first is_named (range_with_len 0 n) → r ≡ which s name 0 (decls_from rows 0 n)
  which-first n {r} h = sym (option_map_id r) ∙ h ∙ first-named 0 n

-- ---- the definition's look-up, by the index that the search gives

pub find-which : (s rows values fields : List ℕ) (name : Part) (i m : ℕ)
    → find s (declarations_from rows values fields i m) name ≡ on_found (which s name i (decls_from rows i m)) None (λ j. Some (decl_here rows j).desc)
unfolding find declarations_from which decls_from
find-which s rows values fields name i zero = refl
find-which s rows values fields name i (suc m) = by (same_name s (decl_here rows i).id name) (find-which s rows values fields name (i + 1) m)
  where
    by : (b : Bool)
        → find s (declarations_from rows values fields (i + 1) m) name
        ≡ on_found (which s name (i + 1) (decls_from rows (i + 1) m)) None (λ j. Some (decl_here rows j).desc)
        → ◌≡◌ {A = Option DeclDesc} (elim b [ true ↦ Some (decl_here rows i).desc | false ↦ find s (declarations_from rows values fields (i + 1) m) name ])
        (on_found (elim b [ true ↦ Some i | false ↦ which s name (i + 1) (decls_from rows (i + 1) m) ]) None (λ j. Some (decl_here rows j).desc))
    by true h = refl
    by false h = h
