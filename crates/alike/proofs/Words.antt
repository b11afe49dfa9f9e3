-- A name that was read is a word and the newline behind it, and is read wherever the same word stands before a newline (`name-spelled`).
-- Assumes nothing.
use Rattle.std.proofs.lemmas.Option.{some_pair_parts}
use Rattle.std.specs.Prelude.{Option, Some, None}
use Rattle.definitions.specs.Record.{Read, key_of, key_at, part_of, word_of, name_of, digits_line, some_digits, digits_behind, is_forbidden, name_at}
use mathlib.Core.Bool.{Bool, true, false}
use mathlib.Core.List.{[], ◌∷◌, ◌++◌}
use mathlib.Core.Path.{◌≡◌, refl, sym, ap, ◌∙◌, subst}
use Prim.Native.Nat.{ℕ, ◌+◌, ◌-◌, ◌≤◌}
use native.Mathlib.Decide.{dec_lt}
use native.Mathlib.Omega.{arith}
use lib.Dec.{eqb}
use lib.ListN.{length, take, drop}
use lib.Seq.{take-append_seam, drop-append_seam, drop-drop}
use borrow.Author.Tests.{eqb-true, eqb-false}
use Rattle.definitions.specs.Bytes.{Text, text, part, is_digit, is_word}
use Rattle.definitions.specs.declared.Part.{Part}
use Rattle.lengths.proofs.Booleans.{impossible}
use Rattle.alike.proofs.Leaves.{fits, rest-behind, FoundAs, found-same}

-- no newline
abbrev Clear : Text → Type 0
Clear [] = Unit {0}
Clear (x ∷ w) = (eqb x 10 ≡ false) × Clear w

-- ---- whether a name is forbidden is told by its line

module _ (s t r₁ r₂ : Text) where
  -- at both places the line goes on with `w`
  abbrev Along : Text → ℕ → ℕ → Type 0
  Along w p q = Clear w × (drop p s ≡ w ++ (10 ∷ r₁)) × (drop q t ≡ w ++ (10 ∷ r₂))

  -- behind a key: the line ended with it, or goes on
  abbrev Behind : Bool → ℕ → ℕ → Type 0
  Behind true p q = Unit {0}
  Behind false p q = (w : Text) × Along w p q

  -- so a key is there in both or in none
  key-line : (b : Bool) (key w : Text) (p q : ℕ) → fits b key ≡ true → Along w p q
      → FoundAs (Behind b) (key_of key (w ++ (10 ∷ r₁)) p) (key_of key (w ++ (10 ∷ r₂)) q)
  unfolding key_of
  key-line true [] w p q f a = impossible (cc)
  key-line false [] w p q f a = (w, a)
  key-line b (k ∷ ks) [] p q f a = by (eqb 10 k) refl
    where
      last : (c : Bool) (ls : Text) → fits c (10 ∷ ls) ≡ true → FoundAs (Behind c) (key_of ls r₁ (p + 1)) (key_of ls r₂ (q + 1))
      last true [] h = tt
      last true (z ∷ ls) h = impossible (cc)
      last false ls h = impossible (cc)

      by : (c : Bool) → eqb 10 k ≡ c
          → FoundAs (Behind b) (elim c [ true ↦ key_of ks r₁ (p + 1) | false ↦ None ])
          (elim c [ true ↦ key_of ks r₂ (q + 1) | false ↦ None ])
      by false e = tt
      by true e = last b ks (subst (λ (y : ℕ). fits b (y ∷ ks) ≡ true) (sym (eqb-true 10 k e)) f)
  key-line b (k ∷ ks) (x ∷ w) p q f a = by (eqb x k) refl (key-line b ks w (p + 1) (q + 1))
    where
      goes : Along w (p + 1) (q + 1)
      goes = (a.0.1, rest-behind s p x (w ++ (10 ∷ r₁)) a.1, rest-behind t q x (w ++ (10 ∷ r₂)) a.2)

      by : (c : Bool) → eqb x k ≡ c
          → (fits b ks ≡ true → Along w (p + 1) (q + 1) → FoundAs (Behind b) (key_of ks (w ++ (10 ∷ r₁)) (p + 1)) (key_of ks (w ++ (10 ∷ r₂)) (q + 1)))
          → FoundAs (Behind b) (elim c [ true ↦ key_of ks (w ++ (10 ∷ r₁)) (p + 1) | false ↦ None ])
          (elim c [ true ↦ key_of ks (w ++ (10 ∷ r₂)) (q + 1) | false ↦ None ])
      by false e ih = tt
      by true e ih = ih (rw a.0.0 at (subst (λ (y : ℕ). fits b (y ∷ ks) ≡ true) (sym (eqb-true x k e)) f)) goes

  digits-line : (w : Text) → digits_line (w ++ (10 ∷ r₁)) ≡ digits_line (w ++ (10 ∷ r₂))
  unfolding digits_line
  digits-line [] = refl
  digits-line (x ∷ w) =
      ap (λ (b : Bool). elim (eqb x 10) as (λ _. Bool) [ true ↦ true | false ↦ elim (is_digit x) [ true ↦ b | false ↦ false ] ]) (digits-line w)

  some-digits : (w : Text) → some_digits (w ++ (10 ∷ r₁)) ≡ some_digits (w ++ (10 ∷ r₂))
  unfolding some_digits is_digit
  some-digits [] = refl
  some-digits (x ∷ w) = ap (λ (b : Bool). elim (is_digit x) as (λ _. Bool) [ true ↦ b | false ↦ false ]) (digits-line w)

  forbidden-line : (w : Text) (p q : ℕ) → Along w p q → is_forbidden s p ≡ is_forbidden t q
  unfolding is_forbidden
  forbidden-line w p q a =
      rw (
        found-same (Behind true) (key_at s p (text "span\n")) (key_at t q (text "span\n")) (there true (text "span\n") refl),
        found-same (Behind true) (key_at s p (text "output\n")) (key_at t q (text "output\n")) (there true (text "output\n") refl),
        digits (key_at s p (text "chunk")) (key_at t q (text "chunk")) (there false (text "chunk") refl),
      )
    where
      there : (b : Bool) (key : Text) → fits b key ≡ true → FoundAs (Behind b) (key_at s p key) (key_at t q key)
      there b key f = rw (a.1, a.2) (key-line b key w p q f a)

      digits : (i j : Option ℕ) → FoundAs (Behind false) i j → digits_behind s i ≡ digits_behind t j
      digits (Some i) (Some j) h = ap some_digits h.1.1 ∙ some-digits h.0 ∙ sym (ap some_digits h.1.2)
      digits (Some i) None h = absurd h
      digits None (Some j) h = absurd h
      digits None None h = refl

-- ---- a word that was read

-- a name up to the place `to`, where its newline is
abbrev pub name_to : ℕ → ℕ → Read Part
name_to from to = Some (part_of from to, to + 1)

-- the answer `a` at the place `at`, with `c` bytes before it
record Word (u : Text) (from c at : ℕ) (a : Read Part) : Type 0 where
  word : Text
  rest : Text
  are : u ≡ word ++ (10 ∷ rest)
  clear : Clear word
  short : c + length word ≤ 32
  read : a ≡ name_to from (at + length word)
  again : (r : Text) (to q : ℕ) → word_of (word ++ (10 ∷ r)) to c q ≡ name_to to (q + length word)

-- a word that is read ends in a newline, and what stands behind that has no part in it
word_read : (u : Text) (from c at : ℕ) (n : Part) (j : ℕ) → c ≤ 32 → word_of u from c at ≡ Some (n, j) → Word u from c at (Some (n, j))
unfolding word_of
word_read [] from c at n j l e = impossible (cc)
word_read (x ∷ u) from c at n j l e =
    by (eqb x 10) refl (eqb c 32) refl (is_word x) refl (word_read u from (c + 1) (at + 1) n j) e
  where
    by : (a : Bool) → eqb x 10 ≡ a → (b : Bool) → eqb c 32 ≡ b → (d : Bool) → is_word x ≡ d
        → (c + 1 ≤ 32 → word_of u from (c + 1) (at + 1) ≡ Some (n, j) → Word u from (c + 1) (at + 1) (Some (n, j)))
        → ◌≡◌ {A = Read Part} (elim a [
          | true ↦ Some (part_of from at, at + 1)
          | false ↦ elim b [ true ↦ None | false ↦ elim d [ true ↦ word_of u from (c + 1) (at + 1) | false ↦ None ] ]
        ]) (Some (n, j))
        → Word (x ∷ u) from c at (Some (n, j))
    by true f b g d h ih z =
        record {
          word = [];
          rest = u;
          are = ap (λ (y : ℕ). y ∷ u) (eqb-true x 10 f);
          clear = tt;
          short = omega arith;
          read = sym z ∙ ap (name_to from) (omega arith);
          again = λ r to q. ap (name_to to) (omega arith);
        }
    by false f true g d h ih z = impossible (cc)
    by false f false g false h ih z = impossible (cc)
    by false f false g true h ih z =
        let w : Word u from (c + 1) (at + 1) (Some (n, j)) = ih (below (eqb-false c 32 g)) z in
        record {
          word = x ∷ w.word;
          rest = w.rest;
          are = ap (λ (y : Text). x ∷ y) w.are;
          clear = (f, w.clear);
          short = omega (arith, w.short);
          read = w.read ∙ ap (name_to from) (omega arith);
          again = λ r to q. rw (word_of, f, g, h) (w.again r to (q + 1) ∙ ap (name_to to) (omega arith));
        }
      where
        below : (c ≡ 32 → ⊥) → c + 1 ≤ 32
        below k = elim (dec_lt c 32) [ yes w ↦ omega arith | no w ↦ absurd (k (omega arith)) ]

-- ---- a name that was read

-- the answer `a` at the place `p`
pub record Spelled (s : Text) (p : ℕ) (a : Read Part) : Type 0 where
  pub word : Text
  pub rest : Text
  pub are : drop p s ≡ word ++ (10 ∷ rest)
  pub short : length word ≤ 32
  pub read : a ≡ name_to p (p + length word)
  -- the same word before a newline is a name too
  pub again : (t r : Text) (q : ℕ) → drop q t ≡ word ++ (10 ∷ r) → name_at t q ≡ name_to q (q + length word)

-- of a word that begins with no digit, a name is read
first_byte : (x : ℕ) (u w r v : Text) (q : ℕ) → is_digit x ≡ false → eqb x 10 ≡ false → x ∷ u ≡ w ++ (10 ∷ r)
    → name_of (w ++ (10 ∷ v)) q ≡ word_of (w ++ (10 ∷ v)) q 0 q
unfolding name_of
first_byte x u [] r v q d z e = impossible (cc)
first_byte x u (y ∷ w) r v q d z e = let f : is_digit y ≡ false = cc in let g : eqb y 10 ≡ false = cc in rw (name_of, f, g)

-- so is every name that is read
pub name-spelled : (s : Text) (p : ℕ) (n : Part) (j : ℕ) → name_at s p ≡ Some (n, j) → Spelled s p (Some (n, j))
unfolding name_at name_of
name-spelled s p n j e = by (is_forbidden s p) refl (drop p s) refl e
  where
    spelled : is_forbidden s p ≡ false → (x : ℕ) (u : Text) → drop p s ≡ x ∷ u → is_digit x ≡ false → eqb x 10 ≡ false
        → Word (x ∷ u) p 0 p (Some (n, j)) → Spelled s p (Some (n, j))
    spelled f x u g d z w =
        record {
          word = w.word;
          rest = w.rest;
          are = g ∙ w.are;
          short = omega (arith, w.short);
          read = w.read;
          again = λ t r q k.
              rw (name_at, sym (forbidden-line s t w.rest r w.word p q (w.clear, g ∙ w.are, k)) ∙ f, k)
              (first_byte x u w.word w.rest r q d z w.are ∙ w.again r q q);
        }

    first : is_forbidden s p ≡ false → (x : ℕ) (u : Text) → drop p s ≡ x ∷ u → (a : Bool) → is_digit x ≡ a → (b : Bool) → eqb x 10 ≡ b
        → ◌≡◌ {A = Read Part} (elim a [ true ↦ None | false ↦ elim b [ true ↦ None | false ↦ word_of (x ∷ u) p 0 p ] ]) (Some (n, j))
        → Spelled s p (Some (n, j))
    first f x u g true d b z k = impossible (cc)
    first f x u g false d true z k = impossible (cc)
    first f x u g false d false z k = spelled f x u g d z (word_read (x ∷ u) p 0 p n j (omega arith) k)

    by : (b : Bool) → is_forbidden s p ≡ b → (u : Text) → drop p s ≡ u
        → ◌≡◌ {A = Read Part} (elim b [ true ↦ None | false ↦ name_of u p ]) (Some (n, j)) → Spelled s p (Some (n, j))
    by true f u g z = impossible (cc)
    by false f [] g z = impossible (cc)
    by false f (x ∷ u) g z = first f x u g (is_digit x) refl (eqb x 10) refl z

-- behind a word, and behind its newline
pub newline-behind : (s w r : Text) (p : ℕ) → drop p s ≡ w ++ (10 ∷ r) → drop (p + length w) s ≡ 10 ∷ r
newline-behind s w r p e = sym (drop-drop (length w) p s) ∙ ap (drop (length w)) e ∙ drop-append_seam w (10 ∷ r)

pub line-behind : (s w r : Text) (p : ℕ) → drop p s ≡ w ++ (10 ∷ r) → drop (p + length w + 1) s ≡ r
line-behind s w r p e = rest-behind s (p + length w) 10 r (newline-behind s w r p e)

-- the bytes of a name are its word
pub part-word : (s w r : Text) (p : ℕ) → drop p s ≡ w ++ (10 ∷ r) → part s (part_of p (p + length w)) ≡ w
part-word s w r p e =
    ap (λ (k : ℕ). take k (drop p s)) (let z : p + length w - p ≡ length w = omega arith in z) ∙ ap (take (length w)) e ∙ take-append_seam w (10 ∷ r)

pub part-spelled : (s : Text) (p : ℕ) (n : Part) (j : ℕ) (w : Spelled s p (Some (n, j))) → part s n ≡ w.word
part-spelled s p n j w =
    let e : n ≡ part_of p (p + length w.word) = (some_pair_parts _ _ _ _ w.read).0 in
    ap (part s) e ∙ part-word s w.word w.rest p w.are
