-- A name is a keyword when it is one of those of its length, and only if one of that length begins as it does: what the code's lists and its table of
-- first letters say is what the list of the definitions says (`is_keyword`, `may_be`). Each list and the table are held to it by one computed test.
-- Assumes nothing.
use Prim.Native.Nat.{ℕ, zero, suc, ◌+◌, ◌-◌, ◌/◌, ◌%◌, ◌^◌, ◌≤◌, ◌<◌}
use mathlib.Core.Bool.{Bool, true, false, not, ◌&&◌, ◌||◌}
use mathlib.Core.List.{List, [], ◌∷◌}
use mathlib.Core.Path.{◌≡◌, refl, sym, ap, ◌∙◌, subst}
use native.Mathlib.Omega.{arith}
use native.Mathlib.Nat.{not-suc-le-zero}
use borrow.Author.Tests.{eqb-true, eqb-false, eq-eqb, ne_eqb, le-ltb, leb-true, not-false}
use lib.Dec.{T, eqb, ltb, leb}
use lib.ListN.{length, get_or}
use store.Enc.{and_l, and_r}
use Rattle.definitions.specs.Bytes.{Text, any, all, same}
use Rattle.definitions.specs.Keywords.{keywords, is_keyword}
use Rattle.std.specs.Char.{is_ascii_lowercase}
use Rattle.text.proofs.Table.{every, entry}
use Rattle.keywords.specs.Pieces.{pieces, begins, may_be}

-- ---- none of a list, by a test of each

none-by : (f g : Text → Bool) → ((w : Text) → T (g w) → f w ≡ false) → (ws : List Text) → T (all g ws) → any f ws ≡ false
none-by f g k [] e = refl
none-by f g k (w ∷ ws) e = rw (k w (and_l (g w) (all g ws) e), none-by f g k ws (and_r (g w) (all g ws) e))

none-where : (f g : Text → Bool) → ((w : Text) → g w ≡ false → f w ≡ false) → (ws : List Text) → any g ws ≡ false → any f ws ≡ false
none-where f g k [] e = refl
none-where f g k (w ∷ ws) e = by (g w) refl (none-where f g k ws) e
  where
    by : (b : Bool) → g w ≡ b → (any g ws ≡ false → any f ws ≡ false) → (b || any g ws) ≡ false → (f w || any f ws) ≡ false
    by true h ih e = absurd (let z : ◌≡◌ {A = ℕ} 0 1 = cc in omega arith)
    by false h ih e = rw (k w h, ih e)

-- ---- by length

unfoldable pub of_length : ℕ → List Text → List Text
of_length n [] = []
of_length n (w ∷ ws) = elim (eqb (length w) n) [ true ↦ w ∷ of_length n ws | false ↦ of_length n ws ]

same_length : (a b : Text) → same a b ≡ true → length b ≡ length a
same_length [] [] e = refl
same_length [] (y ∷ b) e = absurd (let z : ◌≡◌ {A = ℕ} 0 1 = cc in omega arith)
same_length (x ∷ a) [] e = absurd (let z : ◌≡◌ {A = ℕ} 0 1 = cc in omega arith)
same_length (x ∷ a) (y ∷ b) e = ap suc (same_length a b (by (eqb x y) e))
  where
    by : (c : Bool) → (c && same a b) ≡ true → same a b ≡ true
    by true h = h
    by false h = absurd (let z : ◌≡◌ {A = ℕ} 0 1 = cc in omega arith)

of_length_lem : (t : Text) (ws : List Text) → any (same t) ws ≡ any (same t) (of_length (length t) ws)
unfolding of_length
of_length_lem t [] = refl
of_length_lem t (w ∷ ws) = rw (of_length_lem t ws) (by (same t w) refl (eqb (length w) (length t)) refl)
  where
    rest : Bool
    rest = any (same t) (of_length (length t) ws)

    by : (b : Bool) → same t w ≡ b → (c : Bool) → eqb (length w) (length t) ≡ c
        → (b || rest) ≡ any (same t) (elim c [ true ↦ w ∷ of_length (length t) ws | false ↦ of_length (length t) ws ])
    by b e true f = ap (λ (x : Bool). x || rest) (sym e)
    by true e false f = absurd (eqb-false (length w) (length t) f (same_length t w e))
    by false e false f = refl

unfoldable pub same_words : List Text → List Text → Bool
same_words [] [] = true
same_words [] (y ∷ ys) = false
same_words (x ∷ xs) [] = false
same_words (x ∷ xs) (y ∷ ys) = same x y && same_words xs ys

same-is : (a b : Text) → T (same a b) → a ≡ b
same-is [] [] e = refl
same-is [] (y ∷ b) e = absurd e
same-is (x ∷ a) [] e = absurd e
same-is (x ∷ a) (y ∷ b) e = rw (head, same-is a b (and_r (eqb x y) (same a b) e))
  where
    head : x ≡ y
    head = by (eqb x y) refl (and_l (eqb x y) (same a b) e)
      where
        by : (c : Bool) → eqb x y ≡ c → T c → x ≡ y
        by true h t = eqb-true x y h
        by false h t = absurd t

words_are : (a b : List Text) → T (same_words a b) → a ≡ b
unfolding same_words
words_are [] [] e = refl
words_are [] (y ∷ b) e = absurd e
words_are (x ∷ a) [] e = absurd e
words_are (x ∷ a) (y ∷ b) e = rw (same-is x y (and_l (same x y) (same_words a b) e), words_are a b (and_r (same x y) (same_words a b) e))

-- the test of a list of the code
unfoldable pub holds : ℕ → ℕ → Text → Bool
holds count n list = same_words (pieces count n list) (of_length n keywords)

module _ (t : Text) where
  by_length : {n : ℕ} → length t ≡ n → is_keyword t ≡ any (same t) (of_length n keywords)
  unfolding is_keyword
  by_length e = of_length_lem t keywords ∙ ap (λ (k : ℕ). any (same t) (of_length k keywords)) e

  pub listed : (list : Text) (count : ℕ) {n : ℕ} {r : Bool}
      → r ≡ any (same t) (pieces count (length t) list) → length t ≡ n → T (holds count n list) → r ≡ is_keyword t
  unfolding holds
  listed list count {n} er e h =
      er
      ∙ ap (λ (k : ℕ). any (same t) (pieces count k list)) e
      ∙ ap (any (same t)) (words_are (pieces count n list) (of_length n keywords) h)
      ∙ sym (by_length e)

  none_of : {n : ℕ} → length t ≡ n → T (same_words [] (of_length n keywords)) → false ≡ is_keyword t
  none_of {n} e h = ap (any (same t)) (words_are [] (of_length n keywords) h) ∙ sym (by_length e)

  pub none-empty : length t ≡ 0 → false ≡ is_keyword t
  unfolding same_words of_length keywords
  none-empty e = none_of e tt

  -- a name whose length no keyword has, out of those from `low` on
  none_other : (low : ℕ) (lengths : List ℕ) → low ≤ length t → any (eqb (length t)) lengths ≡ false
      → T (all (λ (w : Text). ltb (length w) low || any (eqb (length w)) lengths) keywords) → false ≡ is_keyword t
  unfolding is_keyword
  none_other low lengths h e k = sym (none-by (same t) (λ (w : Text). tested (length w)) (λ w f. other w f (same t w) refl) keywords k)
    where
      tested : ℕ → Bool
      tested n = ltb n low || any (eqb n) lengths

      fails : tested (length t) ≡ false
      fails = rw (le-ltb (length t) low h, e)

      other : (w : Text) → T (tested (length w)) → (b : Bool) → same t w ≡ b → b ≡ false
      other w f false g = refl
      other w f true g = absurd (subst T (ap tested (same_length t w g) ∙ fails) f)

  pub none-short : length t ≤ 6 → (length t ≡ 2 → ⊥) → (length t ≡ 3 → ⊥) → (length t ≡ 4 → ⊥) → (length t ≡ 5 → ⊥) → (length t ≡ 6 → ⊥) → false ≡ is_keyword t
  unfolding same_words of_length keywords
  none-short h no2 no3 no4 no5 no6 = by (length t) refl
    where
      by : (n : ℕ) → length t ≡ n → false ≡ is_keyword t
      by zero e = none_of e tt
      by (suc zero) e = none_of e tt
      by (suc (suc zero)) e = absurd (no2 e)
      by (suc (suc (suc zero))) e = absurd (no3 e)
      by (suc (suc (suc (suc zero)))) e = absurd (no4 e)
      by (suc (suc (suc (suc (suc zero))))) e = absurd (no5 e)
      by (suc (suc (suc (suc (suc (suc zero)))))) e = absurd (no6 e)
      by (suc (suc (suc (suc (suc (suc (suc n))))))) e = absurd (omega (arith, e, h))

  module _ (h : 6 < length t) where
    pub none-long : (length t ≡ 7 → ⊥) → (length t ≡ 8 → ⊥) → (length t ≡ 9 → ⊥) → (length t ≡ 10 → ⊥) → (length t ≡ 11 → ⊥) → (length t ≡ 12 → ⊥)
        → (length t ≡ 13 → ⊥) → (length t ≡ 16 → ⊥) → false ≡ is_keyword t
    unfolding keywords
    none-long a b c d e f g k =
        none_other 7 (7 ∷ 8 ∷ 9 ∷ 10 ∷ 11 ∷ 12 ∷ 13 ∷ 16 ∷ []) (omega (arith, h))
        (rw (ne_eqb _ _ a, ne_eqb _ _ b, ne_eqb _ _ c, ne_eqb _ _ d, ne_eqb _ _ e, ne_eqb _ _ f, ne_eqb _ _ g, ne_eqb _ _ k)) tt

-- ---- by length and first byte

first-same : (t w : Text) → same t w ≡ true → (length t ≡ 0 → ⊥) → begins (length t) (get_or t 0 0) w ≡ true
first-same [] w e some = absurd (some refl)
first-same (x ∷ t) [] e some = absurd (let z : ◌≡◌ {A = ℕ} 0 1 = cc in omega arith)
first-same (x ∷ t) (y ∷ w) e some = by (eqb x y) refl e
  where
    by : (c : Bool) → eqb x y ≡ c → (c && same t w) ≡ true → (eqb (length (y ∷ w)) (length (x ∷ t)) && eqb y x) ≡ true
    by true f g = rw (eq-eqb _ _ (ap suc (same_length t w g)), eq-eqb y x (sym (eqb-true x y f)))
    by false f g = absurd (let z : ◌≡◌ {A = ℕ} 0 1 = cc in omega arith)

pub not_first : (t : Text) → (length t ≡ 0 → ⊥) → {r : Bool} → r ≡ may_be (length t) (get_or t 0 0) → r ≡ false → false ≡ is_keyword t
unfolding may_be is_keyword
not_first t some er e =
    sym (none-where (same t) (begins (length t) (get_or t 0 0)) (λ w h. by w (same t w) refl h) keywords (sym er ∙ e))
  where
    by : (w : Text) (b : Bool) → same t w ≡ b → begins (length t) (get_or t 0 0) w ≡ false → b ≡ false
    by w true e h = absurd (let z : true ≡ false = sym (first-same t w e some) ∙ h in let y : ◌≡◌ {A = ℕ} 0 1 = cc in omega arith)
    by w false e h = refl

-- keywords have at most 16 bytes
pub too_long : (t : Text) → 16 < length t → false ≡ is_keyword t
unfolding keywords
too_long t h = none_other t 17 [] (omega (arith, h)) refl tt

-- ---- the table of first letters

-- a test of all numbers below n
unfoldable pub up_to : ℕ → (ℕ → Bool) → Bool
up_to zero f = true
up_to (suc n) f = f n && up_to n f

below : (f : ℕ → Bool) (n k : ℕ) → k < n → T (up_to n f) → T (f k)
unfolding up_to
below f zero k h e = absurd (not-suc-le-zero h)
below f (suc n) k h e = by (λ (g : k < n). below f n k g (and_r (f n) (up_to n f) e)) (eqb k n) refl
  where
    by : (k < n → T (f k)) → (b : Bool) → eqb k n ≡ b → T (f k)
    by ih true g = subst (λ (j : ℕ). T (f j)) (sym (eqb-true k n g)) (and_l (f n) (up_to n f) e)
    by ih false g = ih (let z : k ≡ n → ⊥ = eqb-false k n g in omega (arith, h, z))

unfoldable pub alike : Bool → Bool → Bool
alike true b = b
alike false b = not b

alike_is : (a b : Bool) → T (alike a b) → a ≡ b
unfolding alike
alike_is true true e = refl
alike_is true false e = absurd e
alike_is false true e = absurd e
alike_is false false e = refl

-- an entry has the bit of each letter with which one of the words, all n bytes long, begins
unfoldable pub letters_of : ℕ → List Text → ℕ → Bool
letters_of n ws entry = up_to 26 (λ (k : ℕ). alike (eqb (entry / 2 ^ k % 2) 1) (any (begins n (97 + k)) ws))

unfoldable pub letters : ℕ → ℕ → Bool
letters n entry = letters_of n (of_length n keywords) entry

begins-length : (n c : ℕ) (ws : List Text) → any (begins n c) (of_length n ws) ≡ any (begins n c) ws
unfolding of_length
begins-length n c [] = refl
begins-length n c (w ∷ ws) = by w (eqb (length w) n) refl (begins-length n c ws)
  where
    by : (v : Text) (b : Bool) → eqb (length v) n ≡ b → any (begins n c) (of_length n ws) ≡ any (begins n c) ws
        → any (begins n c) (elim b [ true ↦ v ∷ of_length n ws | false ↦ of_length n ws ]) ≡ (begins n c v || any (begins n c) ws)
    by v true e ih = ap (λ (r : Bool). begins n c v || r) ih
    by [] false e ih = ih
    by (x ∷ v) false e ih = ih ∙ rw e

both : (x y : Bool) → (x && y) ≡ true → (x ≡ true) × (y ≡ true)
both true y e = (refl, e)
both false y e = absurd (let z : ◌≡◌ {A = ℕ} 0 1 = cc in omega arith)

-- a small letter, and a word that begins with one
letter : ℕ → Bool
letter c = leb 97 c && leb c 122

small : Text → Bool
small [] = false
small (x ∷ t) = letter x

module _ (n c : ℕ) where
  other-letter : letter c ≡ false → (w : Text) → T (small w) → begins n c w ≡ false
  unfolding small
  other-letter h [] f = refl
  other-letter h (x ∷ t) f = by (eqb x c) refl (eqb (length (x ∷ t)) n)
    where
      by : (b : Bool) → eqb x c ≡ b → (a : Bool) → (a && b) ≡ false
      by true e a = absurd (subst T (ap letter (eqb-true x c e) ∙ h) f)
      by false e true = refl
      by false e false = refl

  pub no-letter : is_ascii_lowercase c ≡ false → false ≡ may_be n c
  unfolding may_be keywords small letter
  no-letter h = sym (none-by (begins n c) small (other-letter h) keywords tt)

  pub from-letters : (entries : List ℕ) → length entries ≡ 17 → n ≤ 16 → {b : Bool} → b ≡ is_ascii_lowercase c → not b ≡ false → T (every letters 0 entries)
      → {k : ℕ} → k ≡ c - 97 → eqb (get_or entries n 0 / 2 ^ k % 2) 1 ≡ may_be n c
  unfolding letters letters_of may_be
  from-letters entries long h {b} q y t e =
      let l = both (leb 97 c) (leb c 122) (sym q ∙ not-false b y) in
      let low : 97 ≤ c = leb-true 97 c l.0 in
      let high : c ≤ 122 = leb-true c 122 l.1 in
      rw e
      (alike_is (eqb (get_or entries n 0 / 2 ^ (c - 97) % 2) 1) (any (begins n (97 + (c - 97))) (of_length n keywords))
      (below (λ (k : ℕ). alike (eqb (get_or entries n 0 / 2 ^ k % 2) 1) (any (begins n (97 + k)) (of_length n keywords))) 26 (c - 97) (omega arith)
      (entry letters entries t n (omega (arith, long))))
      ∙ begins-length n (97 + (c - 97)) keywords
      ∙ ap (may_be n) (let z : 97 + (c - 97) ≡ c = omega arith in z))
