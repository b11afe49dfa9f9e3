-- A walk over the entries of a table, one index after the other: what is left of what the tables give (`fields_from`, `declarations_from`), and `any`
-- of it.
-- Assumes nothing.
use Rattle.std.specs.Prelude.{Option}
use Rattle.std.specs.Fn.{Called}
use Rattle.std.specs.Iterator.{YieldsThen}
use Rattle.std.specs.List.{FoldsTo, list_any, range_with_len}
use Rattle.std.specs.Option.{MatchOption}
use Rattle.std.proofs.lemmas.Iterator.{YieldsList}
use Rattle.std.proofs.lemmas.Iterator.Search.{any_from_yields_List}
use denote.Param.Members.{Mut}
use Prim.Native.Nat.{ℕ, zero, suc, ◌+◌, ◌-◌, ◌≤◌, ◌<◌}
use mathlib.Core.Bool.{Bool, true, false, ◌||◌}
use mathlib.Core.List.{List, [], ◌∷◌}
use mathlib.Core.Path.{◌≡◌, refl, sym, ap, ◌∙◌}
use native.Mathlib.Nat.{add-zero, sub-zero, zero-add}
use native.Mathlib.Omega.{arith}
use lib.ListN.{length, get_or}
use Rattle.definitions.specs.Bytes.{any}
use Rattle.definitions.specs.Record.{Declaration}
use Rattle.definitions.specs.declared.Field.{Field}
use Rattle.tables.specs.Tables.{field_here, fields_from, declaration_in, declarations_from}

-- ---- any list that is given by an index and a number

pub record Indexed {A : Type 0} (here : ℕ → A) (from : ℕ → ℕ → List A) : Type 0 where
  pub none : (i : ℕ) → from i 0 ≡ []
  pub more : (i m : ℕ) → from i (suc m) ≡ here i ∷ from (i + 1) m

module _ {A : Type 0} {here : ℕ → A} {from : ℕ → ℕ → List A} (x : Indexed here from) where
  -- what is left of n from the i-th on
  pub from_end : (n i : ℕ) → n ≤ i → from i (n - i) ≡ []
  from_end n i h = ap (from i) (let z : n - i ≡ 0 = omega arith in z) ∙ x.none i

  pub from_more : (n i : ℕ) → i < n → from i (n - i) ≡ here i ∷ from (i + 1) (n - (i + 1))
  from_more n i h = ap (from i) (let z : n - i ≡ suc (n - (i + 1)) = omega arith in z) ∙ x.more i (n - (i + 1))

  module _ (P : A → Bool) where
    module _ (n i : ℕ) {e : Bool} (inv : any P (from i (n - i)) ≡ e) where
      pub walk_end : n ≤ i → false ≡ e
      walk_end h = ap (any P) (sym (from_end n i h)) ∙ inv

      walk-opened : i < n → P (here i) || any P (from (i + 1) (n - (i + 1))) ≡ e
      walk-opened h = ap (any P) (sym (from_more n i h)) ∙ inv

      pub walk-found : i < n → P (here i) ≡ true → true ≡ e
      walk-found h p = sym (ap (λ (b : Bool). b || any P (from (i + 1) (n - (i + 1)))) p) ∙ walk-opened h

      pub walk_turn : i < n → P (here i) ≡ false → any P (from (i + 1) (n - (i + 1))) ≡ e
      walk_turn h p = sym (ap (λ (b : Bool). b || any P (from (i + 1) (n - (i + 1)))) p) ∙ walk-opened h

    -- where none passes the test, each fails it
    walk-false : (n i : ℕ) → any P (from i n) ≡ false → (k : ℕ) → k < n → P (here (i + k)) ≡ false
    walk-false zero i e k h = absurd (omega arith)
    walk-false (suc n) i e k h = by k h (P (here i)) refl (sym (ap (any P) (x.more i n)) ∙ e) (walk-false n (i + 1))
      where
        by : (k : ℕ) → k < suc n → (b : Bool) → P (here i) ≡ b → b || any P (from (i + 1) n) ≡ false
            → (any P (from (i + 1) n) ≡ false → (m : ℕ) → m < n → P (here (i + 1 + m)) ≡ false) → P (here (i + k)) ≡ false
        by k h true ep e ih = absurd (let z : ◌≡◌ {A = ℕ} 0 1 = cc in omega arith)
        by zero h false ep e ih = ap (λ (m : ℕ). P (here m)) (add-zero i) ∙ ep
        by (suc k) h false ep e ih = ap (λ (m : ℕ). P (here m)) (let z : i + suc k ≡ i + 1 + k = omega arith in z) ∙ ih e k (omega arith)

  -- `(a..n).any(f)`, where f tests the entry with the index that it is given
  any-tests : (P : A → Bool) (i m : ℕ) → list_any (λ k. P (here k)) (range_with_len i m) ≡ any P (from i m)
  any-tests P i zero = ap (any P) (sym (x.none i))
  any-tests P i (suc m) = ap (λ (b : Bool). P (here i) || b) (any-tests P (i + 1) m) ∙ ap (any P) (sym (x.more i m))

  module _ {S F : Type 0} {steps : S → Option ℕ → S → Type 0} {g : Mut F (ℕ × Unit {0}) Bool} {s : S} (P : A → Bool) (i m : ℕ) (u : S) (f : F) (r : Bool) where
    pub any_turns : (xs : List ℕ) × (o : Option ℕ) × (j : F) × YieldsThen steps s xs o u × FoldsTo (λ p x q. Called g p (x, tt) false q) f xs j
        × MatchOption o (r ≡ false) (λ x. (r ≡ true) × ((h : F) × Called g j (x, tt) true h))
        → YieldsList steps (λ x. x) s (range_with_len i m) → {all : List A} → from i m ≡ all
        → ((k : ℕ) (b : Bool) (q : F) → Called g f (k, tt) b q → (q ≡ f) × (b ≡ P (here k))) → r ≡ any P all
    any_turns ran e a h = any_from_yields_List (λ k. P (here k)) u f r ran e h ∙ any-tests P i m ∙ ap (any P) a

-- ---- the fields that a table has from the entry j on

module _ (values fields : List ℕ) (j : ℕ) where
  abbrev placed : ℕ → Field
  placed k = field_here values (get_or fields (j + k) 0)

  abbrev placed-from : ℕ → ℕ → List Field
  placed-from k m = fields_from values fields (j + k) m

  pub by_index : Indexed placed placed-from
  unfolding fields_from
  by_index = record {
    none = λ k. refl;
    more = λ k m. ap (λ (i : ℕ). placed k ∷ fields_from values fields i m) (let z : j + k + 1 ≡ j + (k + 1) = omega arith in z);
  }

  module _ (n : ℕ) where
    pub fields-all : fields_from values fields (j + 0) n ≡ fields_from values fields j n
    fields-all = ap (λ (j : ℕ). fields_from values fields j n) (add-zero j)

    pub fields-start : fields_from values fields (j + 0) (n - 0) ≡ fields_from values fields j n
    fields-start = ap (λ (j : ℕ). fields_from values fields j (n - 0)) (add-zero j) ∙ ap (fields_from values fields j) (sub-zero n)

    pub fields-end : (k : ℕ) → n ≤ k → fields_from values fields (j + k) (n - k) ≡ []
    fields-end k h = from_end by_index n k h

    pub fields-more : (k : ℕ) → k < n
        → fields_from values fields (j + k) (n - k) ≡ field_here values (get_or fields (j + k) 0) ∷ fields_from values fields (j + (k + 1)) (n - (k + 1))
    fields-more k h = from_more by_index n k h

module _ (P : Field → Bool) (values fields : List ℕ) (j m : ℕ) where
  module _ (k : ℕ) {e : Bool} (inv : any P (fields_from values fields (j + k) (m - k)) ≡ e) where
    pub any-fields-end : m ≤ k → false ≡ e
    any-fields-end h = walk_end (by_index values fields j) P m k inv h

    pub any-fields-found : k < m → P (field_here values (get_or fields (j + k) 0)) ≡ true → true ≡ e
    any-fields-found h b = walk-found (by_index values fields j) P m k inv h b

    pub any-fields-turn : k < m → P (field_here values (get_or fields (j + k) 0)) ≡ false → any P (fields_from values fields (j + (k + 1)) (m - (k + 1))) ≡ e
    any-fields-turn h b = walk_turn (by_index values fields j) P m k inv h b

-- the same by their places in the table
module _ (values fields : List ℕ) where
  abbrev at-place : ℕ → Field
  at-place j = field_here values (get_or fields j 0)

  pub by_place : Indexed at-place (fields_from values fields)
  unfolding fields_from
  by_place = record { none = λ j. refl; more = λ j m. refl }

-- ---- the declarations that the tables have

module _ (rows values fields : List ℕ) where
  pub declarations : Indexed (declaration_in rows values fields) (declarations_from rows values fields)
  unfolding declarations_from
  declarations = record { none = λ i. refl; more = λ i m. refl }

module _ (P : Declaration → Bool) (rows values fields : List ℕ) where
  pub any-declarations-false : (n : ℕ) → any P (declarations_from rows values fields 0 n) ≡ false
      → (k : ℕ) → k < n → P (declaration_in rows values fields k) ≡ false
  any-declarations-false n e k h =
      sym (ap (λ (i : ℕ). P (declaration_in rows values fields i)) (zero-add k)) ∙ walk-false (declarations rows values fields) P n 0 e k h

module _ (rows values fields : List ℕ) where
  pub length-declarations : (i n : ℕ) → length (declarations_from rows values fields i n) ≡ n
  unfolding declarations_from
  length-declarations i zero = refl
  length-declarations i (suc n) = ap suc (length-declarations (i + 1) n)

pub length_fields : (values fields : List ℕ) (j n : ℕ) → length (fields_from values fields j n) ≡ n
unfolding fields_from
length_fields values fields j zero = refl
length_fields values fields j (suc n) = ap suc (length_fields values fields (j + 1) n)
