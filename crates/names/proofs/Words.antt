-- A name and a line of digits, by the first byte that is none of theirs (`name_of`, `some_digits`).
-- Assumes nothing.
use Rattle.std.specs.Prelude.{Option, Some, None, min}
use Rattle.std.specs.Char.{is_ascii_digit}
use Rattle.std.specs.List.{position_from, position}
use Rattle.std.proofs.Math.Nat.{min_comm, min-le_left, min-le_right}
use Rattle.std.proofs.lemmas.List.{length-take, take_min, get_or-take}
use Rattle.std.proofs.lemmas.List.Quantifiers.{position-Some}
use Rattle.std.proofs.lemmas.Iterator.Adapters.{position_from-zero}
use Rattle.definitions.specs.Record.{Read, word_of, name_of, part_of, digits_line, some_digits}
use Rattle.definitions.specs.declared.Part.{Part}
use Prim.Native.Nat.{ℕ, zero, suc, ◌+◌, ◌-◌, ◌≤◌, ◌<◌}
use mathlib.Core.List.{List, [], ◌∷◌}
use mathlib.Core.Bool.{Bool, true, false, not}
use mathlib.Core.Path.{◌≡◌, refl, sym, ap, ◌∙◌}
use native.Mathlib.Omega.{arith}
use native.Mathlib.Nat.{add-zero, le_trans}
use borrow.Author.Tests.{eq-eqb, ne_eqb, not-true, not-false}
use lib.Dec.{eqb}
use lib.ListN.{drop, take, length, get_or, drop_of_length-le}
use Rattle.definitions.specs.Bytes.{is_digit, is_word}
use Rattle.names.proofs.Bytes.{digit_is}

no-two : {A : Type 0} → true ≡ false → A
no-two h = absurd (let v : ◌≡◌ {A = ℕ} 0 1 = cc in omega arith)

newline-no-word : is_word 10 ≡ false
unfolding is_word is_digit
newline-no-word = refl

word-newline : {b : ℕ} → is_word b ≡ true → b ≡ 10 → ⊥
word-newline h e = no-two (sym h ∙ ap is_word e ∙ newline-no-word)

digit-newline : {b : ℕ} → is_digit b ≡ true → b ≡ 10 → ⊥
unfolding is_digit
digit-newline h e = no-two (sym h ∙ ap is_digit e)

-- ---- a name

abbrev pub other : ℕ → Bool
other b = not (is_word b)

-- the byte that ends it stands at k
module _ (start : ℕ) where
  word-end : (s : List ℕ) (n at k : ℕ) → n + k ≤ 32 → k < length s → get_or s k 0 ≡ 10 → ((j : ℕ) → j < k → is_word (get_or s j 0) ≡ true)
      → Some (part_of start (at + k), at + k + 1) ≡ word_of s start n at
  unfolding word_of
  word-end [] n at k l w z f = absurd (omega (arith, w))
  word-end (x ∷ s) n at zero l w z f = rw (eq-eqb x 10 z, add-zero at, word_of)
  word-end (x ∷ s) n at (suc k) l w z f =
      rw (ne_eqb x 10 (word-newline (f 0 (omega arith))), ne_eqb n 32 (λ h. absurd (omega arith)), f 0 (omega arith), word_of)
      (let q : at + suc k ≡ at + 1 + k = omega arith in rw q (word-end s (n + 1) (at + 1) k (omega arith) (omega (arith, w)) z (λ j h. f (suc j) (omega arith))))

  word-bad : (s : List ℕ) (n at k : ℕ) → n ≤ 32 → k < length s → is_word (get_or s k 0) ≡ false → ((j : ℕ) → j < k → is_word (get_or s j 0) ≡ true)
      → (get_or s k 0 ≡ 10 → 32 < n + k) → None ≡ word_of s start n at
  unfolding word_of
  word-bad [] n at k l w z f g = absurd (omega (arith, w))
  word-bad (x ∷ s) n at zero l w z f g = rw (ne_eqb x 10 (λ h. absurd (omega (arith, g h))), word_of) (by (eqb n 32))
    where
      by : (b : Bool) → ◌≡◌ {A = Read Part} None (elim b [ true ↦ None | false ↦ elim (is_word x) [ true ↦ word_of s start (n + 1) (at + 1) | false ↦ None ] ])
      by true = refl
      by false = rw z
  word-bad (x ∷ s) n at (suc k) l w z f g = rw (ne_eqb x 10 (word-newline (f 0 (omega arith))), word_of)
      (by (33 - suc n) refl (λ m. word-bad s (n + 1) (at + 1) k m (omega (arith, w)) z (λ j h. f (suc j) (omega arith)) (λ h. let q : 32 < n + suc k = g h in omega arith)))
    where
      by : (d : ℕ) → d ≡ 33 - suc n → (n + 1 ≤ 32 → None ≡ word_of s start (n + 1) (at + 1)) → ◌≡◌ {A = Read Part} None (elim (eqb n 32) [ true ↦ None | false ↦ elim (is_word x) [ true ↦ word_of s start (n + 1) (at + 1) | false ↦ None ] ])
      by zero e t = rw (eq-eqb n 32 (omega arith))
      by (suc d) e t = rw (ne_eqb n 32 (λ h. absurd (omega arith)), f 0 (omega arith)) (t (omega arith))

name-by : (x : ℕ) (s : List ℕ) (at : ℕ) → (is_digit x ≡ false → (x ≡ 10 → ⊥) → None ≡ word_of (x ∷ s) at 0 at) → None ≡ name_of (x ∷ s) at
unfolding name_of
name-by x s at h = by (is_digit x) (eqb x 10) refl refl
  where
    by : (a b : Bool) → is_digit x ≡ a → eqb x 10 ≡ b
        → ◌≡◌ {A = Read Part} None (elim a [ true ↦ None | false ↦ elim b [ true ↦ None | false ↦ word_of (x ∷ s) at 0 at ] ])
    by true b d e = refl
    by false true d e = refl
    by false false d e = h d (λ q. no-two (sym (eq-eqb x 10 q) ∙ e))

pub name-past : (s : List ℕ) (at : ℕ) → length s ≤ at → None ≡ name_of (drop at s) at
unfolding name_of
name-past s at w = rw (drop_of_length-le s w)

-- no byte that ends it among the first 33
near-word : (s : List ℕ) (start n at i d : ℕ) → n + d ≡ 33 → n ≤ 32 → position_from other i (take d s) ≡ None → None ≡ word_of s start n at
unfolding word_of
near-word [] start n at i d q m h = refl
near-word (x ∷ s) start n at i zero q m h = absurd (omega arith)
near-word (x ∷ s) start n at i (suc d) q m h = by (is_word x) refl (λ l k. near-word s start (n + 1) (at + 1) (i + 1) d (omega arith) l k)
  where
    last : (j : ℕ) → j ≡ 32 - n → is_word x ≡ true → (n + 1 ≤ 32 → None ≡ word_of s start (n + 1) (at + 1))
        → ◌≡◌ {A = Read Part} None (elim (eqb n 32) [ true ↦ None | false ↦ elim (is_word x) [ true ↦ word_of s start (n + 1) (at + 1) | false ↦ None ] ])
    last zero z e k = rw (eq-eqb n 32 (omega arith))
    last (suc j) z e k = rw (ne_eqb n 32 (λ y. absurd (omega arith)), e) (k (omega arith))

    by : (b : Bool) → is_word x ≡ b → (n + 1 ≤ 32 → position_from other (i + 1) (take d s) ≡ None → None ≡ word_of s start (n + 1) (at + 1))
        → None ≡ word_of (x ∷ s) start n at
    by false e k = absurd (let q : ◌≡◌ {A = Option ℕ} (Some i) None = rw e at h in cc)
    by true e k = rw (ne_eqb x 10 (word-newline e), word_of) (last (32 - n) refl e (λ l. k l (rw e at h)))

pub near-none : (s : List ℕ) (at : ℕ) → position other (take 33 s) ≡ None → None ≡ name_of s at
unfolding name_of
near-none [] at h = refl
near-none (x ∷ s) at h =
    name-by x s at (λ d e. near-word (x ∷ s) at 0 at 0 33 refl (omega arith) (sym (position_from-zero other (take 33 (x ∷ s))) ∙ h))

-- the first byte that is no letter stands at k
pub record Ends (s : List ℕ) (k : ℕ) : Type 0 where
  pub inside : k < length s
  pub last : is_word (get_or s k 0) ≡ false
  pub before : (j : ℕ) → j < k → is_word (get_or s j 0) ≡ true

pub ends : (s : List ℕ) (k : ℕ) {r : Option ℕ} → r ≡ position (λ b. not (is_word b)) s → r ≡ Some k → Ends s k
ends s k p h =
    let f = position-Some other s k 0 (sym p ∙ h) in
    record { inside = f.0; last = not-true (is_word (get_or s k 0)) f.1; before = λ j l. not-false (is_word (get_or s j 0)) (f.2 j l) }

-- the same of the first 33 bytes, where only they are read
pub near-is : (s : List ℕ) {m : ℕ} → m ≡ min (length s) 33 → take m s ≡ take 33 s
near-is s e = ap (λ m. take m s) (e ∙ min_comm (length s) 33) ∙ take_min 33 s

module _ (s : List ℕ) (k : ℕ) {r : Option ℕ} (p : r ≡ position (λ b. not (is_word b)) (take 33 s)) (h : r ≡ Some k) where
  found : Ends (take 33 s) k
  found = ends (take 33 s) k p h

  pub near-short : k < 33
  near-short = let i : k < length (take 33 s) = found.inside in let l : k < min 33 (length s) = rw (length-take 33 s) at i in le_trans l (min-le_left 33 (length s))

  pub near-byte : (j : ℕ) → j ≤ k → get_or (take 33 s) j 0 ≡ get_or s j 0
  near-byte j l = get_or-take 33 s j 0 (let m = near-short in omega (arith, m))

  pub near-ends : Ends s k
  near-ends = record {
    inside = let i : k < length (take 33 s) = found.inside in let l : k < min 33 (length s) = rw (length-take 33 s) at i in le_trans l (min-le_right 33 (length s));
    last = sym (ap is_word (near-byte k (omega arith))) ∙ found.last;
    before = λ j l. sym (ap is_word (near-byte j (omega (arith, l)))) ∙ found.before j l;
  }

module _ (s : List ℕ) (k : ℕ) (at : ℕ) where
  pub name-wrong : Ends s k → (get_or s k 0 ≡ 10 → k ≤ 32 → k ≡ 0) → None ≡ name_of s at
  name-wrong = by s
    where
      by : (s : List ℕ) → Ends s k → (get_or s k 0 ≡ 10 → k ≤ 32 → k ≡ 0) → None ≡ name_of s at
      by [] q h = absurd (let l : k < length {A = ℕ} [] = q.inside in omega arith)
      by (x ∷ s) q h = name-by x s at (λ d e. word-bad at (x ∷ s) 0 at k (omega arith) q.inside q.last q.before (λ z. long z (33 - k) refl e))
        where
          long : get_or (x ∷ s) k 0 ≡ 10 → (d : ℕ) → d ≡ 33 - k → (x ≡ 10 → ⊥) → 32 < 0 + k
          long z zero e n = omega arith
          long z (suc d) e n = let o : k ≡ 0 = h z (omega arith) in absurd (n (rw o at z))

  pub name-digit : k < length s → is_digit (get_or s 0 0) ≡ true → None ≡ name_of s at
  name-digit = by s
    where
      by : (s : List ℕ) → k < length s → is_digit (get_or s 0 0) ≡ true → None ≡ name_of s at
      by [] l d = absurd (omega (arith, l))
      by (x ∷ s) l d = name-by x s at (λ e f. no-two (sym d ∙ e))

  pub name-whole : Ends s k → (k ≡ 0 → ⊥) → k ≤ 32 → get_or s k 0 ≡ 10 → is_digit (get_or s 0 0) ≡ false → Some (part_of at (at + k), at + k + 1) ≡ name_of s at
  unfolding name_of
  name-whole = by s
    where
      by : (s : List ℕ) → Ends s k → (k ≡ 0 → ⊥) → k ≤ 32 → get_or s k 0 ≡ 10 → is_digit (get_or s 0 0) ≡ false
          → Some (part_of at (at + k), at + k + 1) ≡ name_of s at
      by [] q n l z d = absurd (let m : k < length {A = ℕ} [] = q.inside in omega arith)
      by (x ∷ s) q n l z d = rw (d, ne_eqb x 10 (word-newline (q.before 0 (omega arith))), name_of) (word-end at (x ∷ s) 0 at k (omega arith) q.inside z q.before)

-- ---- digits

abbrev pub no-digit : ℕ → Bool
no-digit b = not (is_ascii_digit b)

line-none : (s : List ℕ) (i : ℕ) → position_from no-digit i s ≡ None → false ≡ digits_line s
unfolding digits_line
line-none [] i h = refl
line-none (x ∷ s) i h = by (is_ascii_digit x) refl (line-none s (i + 1))
  where
    by : (b : Bool) → is_ascii_digit x ≡ b → (position_from no-digit (i + 1) s ≡ None → false ≡ digits_line s) → false ≡ digits_line (x ∷ s)
    by false e k = absurd (let q : ◌≡◌ {A = Option ℕ} (Some i) None = rw e at h in cc)
    by true e k = let d = sym (digit_is x) ∙ e in rw (ne_eqb x 10 (digit-newline d), d, digits_line) (k (rw e at h))

line-at : (s : List ℕ) (k : ℕ) → k < length s → is_digit (get_or s k 0) ≡ false → ((j : ℕ) → j < k → is_digit (get_or s j 0) ≡ true)
    → eqb (get_or s k 0) 10 ≡ digits_line s
unfolding digits_line
line-at [] k w z f = absurd (omega (arith, w))
line-at (x ∷ s) zero w z f = by (eqb x 10)
  where
    by : (b : Bool) → b ≡ elim b [ true ↦ true | false ↦ elim (is_digit x) [ true ↦ digits_line s | false ↦ false ] ]
    by true = refl
    by false = rw z
line-at (x ∷ s) (suc k) w z f =
    rw (ne_eqb x 10 (digit-newline (f 0 (omega arith))), f 0 (omega arith), digits_line) (line-at s k (omega (arith, w)) z (λ j h. f (suc j) (omega arith)))

pub some-none : (s : List ℕ) {r : Option ℕ} → r ≡ position (λ b. not (is_ascii_digit b)) s → r ≡ None → false ≡ some_digits s
unfolding some_digits digits_line
some-none [] p h = refl
some-none (x ∷ s) p h = by (is_digit x) refl
  where
    n : position_from no-digit 0 (x ∷ s) ≡ None
    n = sym (position_from-zero no-digit (x ∷ s)) ∙ sym p ∙ h

    by : (b : Bool) → is_digit x ≡ b → ◌≡◌ {A = Bool} false (elim b [ true ↦ digits_line s | false ↦ false ])
    by false e = refl
    by true e = let l : false ≡ digits_line (x ∷ s) = line-none (x ∷ s) 0 n in rw (ne_eqb x 10 (digit-newline e), e, digits_line) at l

some-first : (s : List ℕ) (k : ℕ) {r : Option ℕ} → r ≡ position (λ b. not (is_ascii_digit b)) s → r ≡ Some k → k ≡ 0 → false ≡ some_digits s
unfolding some_digits
some-first [] k p h z = refl
some-first (x ∷ s) k p h z =
    let f = position-Some no-digit (x ∷ s) 0 0 (sym p ∙ h ∙ ap Some z) in
    let d : is_digit x ≡ false = sym (digit_is x) ∙ not-true (is_ascii_digit x) f.1 in
    rw (d, some_digits)

some-at : (s : List ℕ) (k : ℕ) {r : Option ℕ} → r ≡ position (λ b. not (is_ascii_digit b)) s → r ≡ Some k → (k ≡ 0 → ⊥)
    → eqb (get_or s k 0) 10 ≡ some_digits s
unfolding some_digits digits_line
some-at [] k p h z = let f = position-Some no-digit [] k 0 (sym p ∙ h) in absurd (let l : k < length {A = ℕ} [] = f.0 in omega arith)
some-at (x ∷ s) k p h z =
    let f = position-Some no-digit (x ∷ s) k 0 (sym p ∙ h) in
    let d : is_digit x ≡ true = sym (digit_is x) ∙ not-false (is_ascii_digit x) (f.2 0 (omega arith)) in
    let l : eqb (get_or (x ∷ s) k 0) 10 ≡ digits_line (x ∷ s) =
    line-at (x ∷ s) k f.0 (sym (digit_is (get_or (x ∷ s) k 0)) ∙ not-true (is_ascii_digit (get_or (x ∷ s) k 0)) f.1)
    (λ j m. sym (digit_is (get_or (x ∷ s) j 0)) ∙ not-false (is_ascii_digit (get_or (x ∷ s) j 0)) (f.2 j m)) in
    rw (d, some_digits) (rw (ne_eqb x 10 (digit-newline d), d, digits_line) at l)

module _ (s : List ℕ) (k : ℕ) {r : Option ℕ} (p : r ≡ position (λ b. not (is_ascii_digit b)) s) (h : r ≡ Some k) where
  pub some-line : get_or s k 0 ≡ 10 → not (eqb k 0) ≡ some_digits s
  some-line n = by k refl
    where
      by : (j : ℕ) → k ≡ j → not (eqb k 0) ≡ some_digits s
      by zero z = rw (eq-eqb k 0 z) (some-first s k p h z)
      by (suc j) z = rw (ne_eqb k 0 (λ y. absurd (omega arith))) (sym (eq-eqb (get_or s k 0) 10 n) ∙ some-at s k p h (λ y. absurd (omega arith)))

  pub some-other : (get_or s k 0 ≡ 10 → ⊥) → eqb (get_or s k 0) 10 ≡ some_digits s
  some-other n = by k refl
    where
      by : (j : ℕ) → k ≡ j → eqb (get_or s k 0) 10 ≡ some_digits s
      by zero z = ne_eqb (get_or s k 0) 10 n ∙ some-first s k p h z
      by (suc j) z = some-at s k p h (λ y. absurd (omega arith))
