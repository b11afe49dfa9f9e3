-- The walk over the fields of a declaration for the first that counts an array: the tests of each turn.
-- Assumes nothing.
use Rattle.std.specs.Prelude.{Option, Some, None}
use Prim.Native.Nat.{ℕ, ◌+◌, ◌-◌, ◌≤◌, ◌<◌}
use mathlib.Core.Bool.{Bool, true, false}
use mathlib.Core.List.{List}
use mathlib.Core.Path.{◌≡◌, refl, sym, ap, ◌∙◌}
use native.Mathlib.Omega.{arith}
use lib.ListN.{get_or}
use Rattle.definitions.specs.Bytes.{Text, pick}
use Rattle.definitions.specs.Sizes.{same_name, reference, counted_by, first_count}
use Rattle.definitions.specs.declared.ArraySize.{ArraySize}
use Rattle.definitions.specs.declared.Part.{Part}
use Rattle.definitions.specs.declared.Reference.{Reference}
use Rattle.tables.specs.Tables.{field_here, fields_from}
use Rattle.tables.proofs.Walks.{fields-end, fields-more}

-- 0 for unknown
abbrev known : ArraySize → ℕ
known (ArraySize.StaticCount count) = 1
known ArraySize.DynamicCount = 1
known ArraySize.DynamicSize = 1
known ArraySize.Unknown = 0

module _ (x other : ArraySize) {c : ArraySize} where
  picked : (b : Bool) → c ≡ pick b x ArraySize.Unknown → (c ≡ ArraySize.Unknown → ⊥) → c ≡ pick b x other
  picked true e n = e
  picked false e n = absurd (n e)

  passed : (b : Bool) → known x ≡ 1 → c ≡ pick b x ArraySize.Unknown → c ≡ ArraySize.Unknown → other ≡ pick b x other
  passed true k e u = absurd (omega (arith, k, ap known (sym e ∙ u)))
  passed false k e u = refl

module _ (s : Text) (id : Part) (other : ArraySize) {c : ArraySize} where
  counted-known : (by : Option Reference) → c ≡ counted_by s id by ArraySize.Unknown → (c ≡ ArraySize.Unknown → ⊥) → c ≡ counted_by s id by other
  counted-known None e n = absurd (n e)
  counted-known (Some (Reference.Size of width)) e n = picked ArraySize.DynamicSize other (same_name s of id) e n
  counted-known (Some (Reference.Count of)) e n = picked ArraySize.DynamicCount other (same_name s of id) e n
  counted-known (Some (Reference.ElementSize of)) e n = absurd (n e)

  counted-unknown : (by : Option Reference) → c ≡ counted_by s id by ArraySize.Unknown → c ≡ ArraySize.Unknown → other ≡ counted_by s id by other
  counted-unknown None e u = refl
  counted-unknown (Some (Reference.Size of width)) e u = passed ArraySize.DynamicSize other (same_name s of id) refl e u
  counted-unknown (Some (Reference.Count of)) e u = passed ArraySize.DynamicCount other (same_name s of id) refl e u
  counted-unknown (Some (Reference.ElementSize of)) e u = refl

module _ (s : Text) (id : Part) (values fields : List ℕ) (j n k : ℕ) {e : ArraySize}
    (inv : first_count s id (fields_from values fields (j + k) (n - k)) ≡ e) where
  pub count-end : n ≤ k → ArraySize.Unknown ≡ e
  unfolding first_count
  count-end h = ap (first_count s id) (sym (fields-end values fields j n k h)) ∙ inv

  module _ (h : k < n) {by : Option Reference} (er : by ≡ reference (field_here values (get_or fields (j + k) 0)).desc)
      {c : ArraySize} (ec : c ≡ counted_by s id by ArraySize.Unknown) where
    opened : counted_by s id by (first_count s id (fields_from values fields (j + (k + 1)) (n - (k + 1)))) ≡ e
    unfolding first_count
    opened =
        ap (λ (by : Option Reference). counted_by s id by (first_count s id (fields_from values fields (j + (k + 1)) (n - (k + 1))))) er
        ∙ ap (first_count s id) (sym (fields-more values fields j n k h)) ∙ inv

    pub count-found : (c ≡ ArraySize.Unknown → ⊥) → c ≡ e
    count-found n = counted-known s id _ by ec n ∙ opened

    pub count_turn : c ≡ ArraySize.Unknown → first_count s id (fields_from values fields (j + (k + 1)) (n - (k + 1))) ≡ e
    count_turn u = counted-unknown s id _ by ec u ∙ opened
