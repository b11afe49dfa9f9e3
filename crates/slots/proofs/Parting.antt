-- The pieces of a text (`parted`), by the loops over its bytes: where a piece ends, how many pieces there are, and the k-th.
-- Assumes nothing.
use Rattle.std.specs.Prelude.{cond}
use Rattle.std.specs.List.{filter}
use Prim.Native.Nat.{ℕ, zero, suc, ◌+◌, ◌-◌, ◌≤◌, ◌<◌}
use mathlib.Core.Bool.{Bool, true, false}
use mathlib.Core.List.{List, [], ◌∷◌}
use mathlib.Core.Path.{◌≡◌, refl, sym, ap, ◌∙◌}
use native.Mathlib.Numerals.{add-one}
use native.Mathlib.Omega.{arith}
use borrow.Author.Tests.{eq-eqb, ne_eqb}
use lib.Dec.{eqb}
use lib.ListN.{length, get_or, take, drop, drop_of_length-le, length-drop}
use lib.Seq.{drop-cons}
use Rattle.definitions.specs.Bytes.{Text}
use Rattle.definitions.specs.Keywords.{onto}
use Rattle.slots.specs.Pieces.{parted, up_to}

-- the pieces behind the first, of a text that starts with the separator or is empty
abbrev pub behind : ℕ → Text → List Text
behind c [] = []
behind c (x ∷ t) = parted c t

module _ (c : ℕ) where
  -- the first piece, and the others
  pub first_piece : (t : Text) → parted c t ≡ take (up_to c t) t ∷ behind c (drop (up_to c t) t)
  unfolding parted up_to
  first_piece [] = refl
  first_piece (x ∷ t) = by (eqb x c) (first_piece t)
    where
      by : (b : Bool) → parted c t ≡ take (up_to c t) t ∷ behind c (drop (up_to c t) t)
          → elim b [ true ↦ [] ∷ parted c t | false ↦ onto x (parted c t) ]
          ≡ take (elim b [ true ↦ 0 | false ↦ suc (up_to c t) ]) (x ∷ t) ∷ behind c (drop (elim b [ true ↦ 0 | false ↦ suc (up_to c t) ]) (x ∷ t))
      by true e = refl
      by false e = ap (onto x) e

  pub some-piece : (t : Text) → 0 < length (parted c t)
  some-piece t = rw (first_piece t) (omega arith)

  pub piece_inside : (t : Text) → up_to c t ≤ length t
  unfolding up_to
  piece_inside [] = omega arith
  piece_inside (x ∷ t) = by (eqb x c) (piece_inside t)
    where
      by : (b : Bool) → up_to c t ≤ length t → elim b [ true ↦ 0 | false ↦ suc (up_to c t) ] ≤ suc (length t)
      by true e = omega arith
      by false e = omega arith

  many-onto : (x : ℕ) (ws : List Text) → 0 < length ws → length (onto x ws) ≡ length ws
  many-onto x [] h = absurd (omega arith)
  many-onto x (w ∷ ws) h = refl

  later-onto : (x : ℕ) (ws : List Text) (k : ℕ) → 0 < length ws → get_or (onto x ws) (suc k) [] ≡ get_or ws (suc k) []
  later-onto x [] k h = absurd (omega arith)
  later-onto x (w ∷ ws) k h = refl

  module _ (s : Text) (p : ℕ) (w : p < length s) where
    at-separator : get_or s p 0 ≡ c → parted c (drop p s) ≡ [] ∷ parted c (drop (p + 1) s)
    unfolding parted
    at-separator h = rw (add-one p, drop-cons s p 0 w, eq-eqb _ _ h, parted)

    at_other : (get_or s p 0 ≡ c → ⊥) → parted c (drop p s) ≡ onto (get_or s p 0) (parted c (drop (p + 1) s))
    unfolding parted
    at_other h = rw (add-one p, drop-cons s p 0 w, ne_eqb _ _ h, parted)

-- ---- where a piece ends

module _ (c : ℕ) (s : Text) (p : ℕ) {e : ℕ} (inv : p + up_to c (drop p s) ≡ e) where
  pub end-past : length s ≤ p → p ≡ e
  unfolding up_to
  end-past w = omega (arith, (rw (drop_of_length-le s w) at inv))

  module _ (w : p < length s) where
    pub end-here : get_or s p 0 ≡ c → p ≡ e
    unfolding up_to
    end-here h = omega (arith, (rw (drop-cons s p 0 w, eq-eqb _ _ h, up_to) at inv))

    pub end_later : (get_or s p 0 ≡ c → ⊥) → p + 1 + up_to c (drop (p + 1) s) ≡ e
    unfolding up_to
    end_later h = omega (arith, ap (λ (k : ℕ). up_to c (drop k s)) (add-one p), (rw (drop-cons s p 0 w, ne_eqb _ _ h, up_to) at inv))

-- ---- how many pieces there are: one more than the separators

pub count-pieces : (c : ℕ) (s : Text) → length (filter (λ x. eqb x c) s) + 1 ≡ length (parted c s)
unfolding parted
count-pieces c [] = refl
count-pieces c (x ∷ s) = by (eqb x c) (count-pieces c s)
  where
    by : (b : Bool) → length (filter (λ x. eqb x c) s) + 1 ≡ length (parted c s)
        → length (cond b (x ∷ filter (λ x. eqb x c) s) (filter (λ x. eqb x c) s)) + 1
        ≡ length {A = Text} (elim b [ true ↦ [] ∷ parted c s | false ↦ onto x (parted c s) ])
    by true e = omega (arith, e)
    by false e = omega (arith, e, many-onto c x (parted c s) (some-piece c s))

-- ---- the k-th piece: so many are left to pass

module _ (c : ℕ) (s : Text) (p k : ℕ) {e : Text} (inv : get_or (parted c (drop p s)) k [] ≡ e) where
  pub kth-end : length s ≤ p → [] ≡ e
  unfolding parted
  kth-end w = sym (nothing k) ∙ (rw (drop_of_length-le s w) at inv)
    where
      nothing : (j : ℕ) → get_or {A = Text} ([] ∷ []) j [] ≡ []
      nothing zero = refl
      nothing (suc j) = refl

  pub kth-here : k ≡ 0 → {q : ℕ} → q ≡ p + up_to c (drop p s) → take (q - p) (drop p s) ≡ e
  kth-here z {q} h =
      ap (λ (j : ℕ). take j (drop p s)) (let d : q - p ≡ up_to c (drop p s) = omega arith in d)
      ∙ sym (rw (first_piece c (drop p s)))
      ∙ ap (λ (j : ℕ). get_or (parted c (drop p s)) j []) (sym z)
      ∙ inv

  module _ (w : p < length s) (more : k ≡ 0 → ⊥) (m : ℕ) where
    before : k ≡ suc (k - 1)
    before = omega arith

    pub kth-separator : get_or s p 0 ≡ c → m ≡ k - 1 → get_or (parted c (drop (p + 1) s)) m [] ≡ e
    kth-separator h d =
        ap (λ (j : ℕ). get_or (parted c (drop (p + 1) s)) j []) d
        ∙ sym (ap (λ (j : ℕ). get_or ([] ∷ parted c (drop (p + 1) s)) j []) before)
        ∙ sym (ap (λ (l : List Text). get_or l k []) (at-separator c s p w h))
        ∙ inv

    pub kth-other : (get_or s p 0 ≡ c → ⊥) → m ≡ k → get_or (parted c (drop (p + 1) s)) m [] ≡ e
    kth-other h d =
        ap (λ (j : ℕ). get_or (parted c (drop (p + 1) s)) j []) (d ∙ before)
        ∙ sym (later-onto c (get_or s p 0) (parted c (drop (p + 1) s)) (k - 1) (some-piece c (drop (p + 1) s)))
        ∙ sym (ap (λ (j : ℕ). get_or (onto (get_or s p 0) (parted c (drop (p + 1) s))) j []) before)
        ∙ sym (ap (λ (l : List Text). get_or l k []) (at_other c s p w h))
        ∙ inv

-- ---- a piece inside the text

pub end-inside : (c : ℕ) (s : Text) (p q : ℕ) → q ≡ p + up_to c (drop p s) → p ≤ length s → q ≤ length s
end-inside c s p q h w = omega (arith, piece_inside c (drop p s), length-drop p s)

pub end_before : (c : ℕ) (s : Text) (p q : ℕ) → q ≡ p + up_to c (drop p s) → p < length s → q ≤ length s
end_before c s p q h w = end-inside c s p q h (omega arith)

-- there is a piece to choose
pub counted : (c : ℕ) (s : Text) {n : ℕ} → n ≡ length (parted c s) → 0 < n
counted c s h = rw h (some-piece c s)
