-- What was gathered: the turns of the loop over the fields.
-- Assumes nothing.
use Rattle.std.specs.Prelude.{Option, Some, None}
use Prim.Native.Nat.{ℕ, ◌+◌, ◌-◌, ◌≤◌, ◌<◌}
use mathlib.Core.List.{List, [], ◌∷◌, ◌++◌, append_assoc, append-nil}
use mathlib.Core.Path.{◌≡◌, refl, sym, ap, ◌∙◌, subst}
use native.Mathlib.Omega.{arith}
use native.Mathlib.Numerals.{add-one}
use lib.ListN.{length, take, get_or, set, length-set}
use lib.Seq.{take-suc-set}
use Rattle.definitions.specs.declared.Condition.{Condition}
use Rattle.definitions.specs.declared.Field.{Field}
use Rattle.definitions.specs.declared.Part.{Part}
use Rattle.tables.specs.Tables.{field_here, fields_from}
use Rattle.tables.proofs.Walks.{fields-start, fields-end, fields-more}
use Rattle.conditions.specs.IfNames.{if_name, cond_names, Gathered}

-- before field k: with the names that are left, the table has all of them
pub record Left (values fields : List ℕ) (j n : ℕ) (conds₀ conds : List Part) (m k : ℕ) : Type 0 where
  pub few : m ≤ k
  pub long : length conds ≡ length conds₀
  pub all : take m conds ++ cond_names (fields_from values fields (j + k) (n - k)) ≡ cond_names (fields_from values fields j n)

module _ (values fields : List ℕ) (j n : ℕ) (conds₀ : List Part) where
  pub left-start : Left values fields j n conds₀ conds₀ 0 0
  left-start = record {
    few = omega arith;
    long = refl;
    all = ap cond_names (fields-start values fields j n);
  }

  module _ {conds : List Part} {m k : ℕ} (l : Left values fields j n conds₀ conds m k) where
    pub left_end : n ≤ k → k ≤ n → n ≤ length conds₀ → Gathered (cond_names (fields_from values fields j n)) m conds
    unfolding cond_names
    left_end h g room = record {
      fits = omega (arith, l.few, l.long);
      are =
          sym (append-nil (take m conds))
          ∙ ap (λ (fs : List Field). take m conds ++ cond_names fs) (sym (fields-end values fields j n k h)) ∙ l.all;
    }

    module _ (h : k < n) {at : ℕ} (ea : at ≡ get_or fields (j + k) 0) {cond : Option Condition} (ec : cond ≡ (field_here values at).cond) where
      later : List Part
      later = cond_names (fields_from values fields (j + (k + 1)) (n - (k + 1)))

      opened : take m conds ++ (if_name cond ++ later) ≡ cond_names (fields_from values fields j n)
      unfolding cond_names later
      opened =
          ap (λ (c : Option Condition). take m conds ++ (if_name c ++ later)) (ec ∙ ap (λ (at : ℕ). (field_here values at).cond) ea)
          ∙ ap (λ (fs : List Field). take m conds ++ cond_names fs) (sym (fields-more values fields j n k h)) ∙ l.all

      module _ {q : ℕ} {x : List Part} where
        pub left-none : cond ≡ None → x ≡ conds → q ≡ m → Left values fields j n conds₀ x q (k + 1)
        unfolding later
        left-none e ex eq =
            subst (λ (p : List Part × ℕ). Left values fields j n conds₀ p.0 p.1 (k + 1)) (λ t. (sym ex t, sym eq t)) (record {
              few = omega (arith, l.few);
              long = l.long;
              all = ap (λ (c : Option Condition). take m conds ++ (if_name c ++ later)) (sym e) ∙ opened;
            })

        pub left-some : {c : Condition} → cond ≡ Some c → m < length conds → x ≡ set conds m c.id → q ≡ m + 1 → Left values fields j n conds₀ x q (k + 1)
        unfolding later
        left-some {c} e r ex eq =
            subst (λ (p : List Part × ℕ). Left values fields j n conds₀ p.0 p.1 (k + 1)) (λ t. (sym ex t, sym eq t)) (record {
              few = omega (arith, l.few);
              long = length-set conds m c.id ∙ l.long;
              all =
                  ap (λ (q : ℕ). take q (set conds m c.id) ++ later) (add-one m)
                  ∙ ap (λ (x : List Part). x ++ later) (take-suc-set conds m c.id r)
                  ∙ append_assoc (take m conds) (c.id ∷ []) later
                  ∙ ap (λ (c : Option Condition). take m conds ++ (if_name c ++ later)) (sym e) ∙ opened;
            })
