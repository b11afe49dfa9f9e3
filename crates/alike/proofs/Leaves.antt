-- The reader's leaves at two places whose rests say the same: a key, a number, a name is read at both, and the rests behind it say the same.
-- Assumes nothing.
use Rattle.std.specs.Prelude.{Option, Some, None}
use Rattle.definitions.specs.Record.{Read, key_of, key_at, digits_of, number_of, number_at, part_of, word_of, name_of, is_found, digits_line, some_digits, digits_behind, is_forbidden, name_at}
use Rattle.definitions.specs.declared.Part.{Part}
use mathlib.Core.Bool.{Bool, true, false, ◌&&◌, not}
use mathlib.Core.List.{[], ◌∷◌, ◌++◌}
use mathlib.Core.Path.{◌≡◌, refl, sym, ap, ◌∙◌, subst}
use Prim.Native.Nat.{ℕ, suc, ◌+◌, ◌*◌, ◌-◌, ◌^◌, ◌≤◌, ◌<◌}
use native.Mathlib.Omega.{arith}
use lib.Dec.{ltb, eqb}
use lib.ListN.{length, take, drop}
use lib.Seq.{drop-drop, take-add}
use borrow.Author.Tests.{eqb-true}
use Rattle.definitions.specs.Bytes.{Text, text, pick, part, is_digit, is_word}
use Rattle.lengths.proofs.Booleans.{impossible}
use Rattle.alike.specs.Without.{begins}
use Rattle.alike.proofs.Same.{SamePart}
use Rattle.alike.proofs.Rests.{LeftOut, is_out, Place, start, inside, away, behind, Rests, done, gone, next, skip, same, cut, nothing-out}

-- ---- keys: a newline at the end, where `b`, and nowhere else

abbrev is_nil : Text → Bool
is_nil [] = true
is_nil (x ∷ xs) = false

abbrev pub fits : Bool → Text → Bool
fits b [] = not b
fits b (k ∷ ks) = pick (eqb k 10) (b && is_nil ks) (fits b ks)

-- what begins with one does not begin with the other
abbrev pub differ : Text → Text → Bool
differ [] ls = false
differ (k ∷ ks) [] = false
differ (k ∷ ks) (l ∷ ls) = pick (eqb k l) (differ ks ls) true

-- ---- the rest behind a byte

pub rest-behind : (s : Text) (p x : ℕ) (u : Text) → drop p s ≡ x ∷ u → drop (p + 1) s ≡ u
rest-behind s p x u e = sym (drop-drop 1 p s) ∙ ap (drop 1) e

part-grows : (s : Text) (from p x : ℕ) (u : Text) → from ≤ p → drop p s ≡ x ∷ u → part s (part_of from (p + 1)) ≡ part s (part_of from p) ++ (x ∷ [])
part-grows s from p x u h e =
    ap (λ (k : ℕ). take k (drop from s)) (let z : p + 1 - from ≡ p - from + 1 = omega arith in z) ∙ take-add (p - from) 1 (drop from s)
    ∙ ap (λ (w : Text). part s (part_of from p) ++ take 1 w)
    (drop-drop (p - from) from s ∙ ap (λ (k : ℕ). drop k s) (let z : from + (p - from) ≡ p = omega arith in z) ∙ e)

-- a digit is no newline
digit-only : (x : ℕ) → is_digit x ≡ true → eqb x 10 ≡ false
unfolding is_digit
digit-only x h = by (eqb x 10) refl
  where
    by : (b : Bool) → eqb x 10 ≡ b → b ≡ false
    by false e = refl
    by true e = let g : is_digit 10 ≡ true = ap is_digit (sym (eqb-true x 10 e)) ∙ h in impossible (cc)

-- ---- answers at both

module _ (R : ℕ → ℕ → Type 0) where
  abbrev pub FoundAs : Option ℕ → Option ℕ → Type 0
  FoundAs (Some p) (Some q) = R p q
  FoundAs (Some p) None = ⊥
  FoundAs None (Some q) = ⊥
  FoundAs None None = Unit {0}

  abbrev pub NumberAs : Read ℕ → Read ℕ → Type 0
  NumberAs None r = Unit {0}
  NumberAs (Some (a, p)) None = ⊥
  NumberAs (Some (a, p)) (Some (b, q)) = (a ≡ b) × R p q

  abbrev pub NameAs : Text → Text → Read Part → Read Part → Type 0
  NameAs s t None r = Unit {0}
  NameAs s t (Some (a, p)) None = ⊥
  NameAs s t (Some (a, p)) (Some (b, q)) = SamePart s t a b × R p q

pub found-same : (R : ℕ → ℕ → Type 0) (a b : Option ℕ) → FoundAs R a b → is_found a ≡ is_found b
found-same R (Some p) (Some q) h = refl
found-same R (Some p) None h = absurd h
found-same R None (Some q) h = absurd h
found-same R None None h = refl

module _ (out : LeftOut) (s t : Text) (n : ℕ) where
  -- rests that say the same, the second of them shorter than n
  pub record To (m : Place) (p q : ℕ) : Type 0 where
    pub rests : Rests out m (drop p s) (drop q t)
    pub less : length (drop q t) < n

  to : (m : Place) (p q : ℕ) (u v : Text) → drop p s ≡ u → drop q t ≡ v → length v < n → Rests out m u v → To m p q
  to m p q u v e g l r = record { rests = rw (e, g) r; less = rw g l }

  key-inside : (b : Bool) (key : Text) {u v : Text} (p q : ℕ) → fits b key ≡ true → drop p s ≡ u → drop q t ≡ v → length v < n + length key
      → Rests out inside u v → FoundAs (To (behind b inside)) (key_of key u p) (key_of key v q)
  unfolding key_of
  key-inside true [] {u} {v} p q f e g l r = impossible (cc)
  key-inside false [] {u} {v} p q f e g l r = to inside p q u v e g (omega arith) r
  key-inside b (k ∷ ks) p q f e g l done = tt
  key-inside b (k ∷ ks) p q f e g l (next {x = x} {u = u} {v = v} r) =
      by (eqb x k) refl (eqb k 10) refl (key-inside b ks {u = u} {v = v} (p + 1) (q + 1)) f
    where
      e₁ : drop (p + 1) s ≡ u
      e₁ = rest-behind s p x u e

      g₁ : drop (q + 1) t ≡ v
      g₁ = rest-behind t q x v g

      newline : eqb x k ≡ true → eqb x 10 ≡ eqb k 10
      newline h = ap (λ (y : ℕ). eqb y 10) (eqb-true x k h)

      last : (c : Bool) (ls : Text) → (c && is_nil ls) ≡ true → Rests out start u v → length v < n + length ls
          → FoundAs (To (behind c inside)) (key_of ls u (p + 1)) (key_of ls v (q + 1))
      last true [] h w i = to start (p + 1) (q + 1) u v e₁ g₁ (omega arith) w
      last true (z ∷ ls) h w i = impossible (cc)
      last false ls h w i = impossible (cc)

      by : (c : Bool) → eqb x k ≡ c → (d : Bool) → eqb k 10 ≡ d
          → (fits b ks ≡ true → drop (p + 1) s ≡ u → drop (q + 1) t ≡ v → length v < n + length ks → Rests out inside u v
          → FoundAs (To (behind b inside)) (key_of ks u (p + 1)) (key_of ks v (q + 1)))
          → pick d (b && is_nil ks) (fits b ks) ≡ true
          → FoundAs (To (behind b inside)) (elim c [ true ↦ key_of ks u (p + 1) | false ↦ None ])
          (elim c [ true ↦ key_of ks v (q + 1) | false ↦ None ])
      by false h d i ih j = tt
      by true h true i ih j =
          last b ks j (subst (λ (y : Bool). Rests out (behind y inside) u v) (newline h ∙ i) r) (omega arith)
      by true h false i ih j =
          ih j e₁ g₁ (omega arith) (subst (λ (y : Bool). Rests out (behind y inside) u v) (newline h ∙ i) r)

  -- a key that is read inside of a line
  pub key-there : (b : Bool) (key : Text) (p q : ℕ) → fits b key ≡ true → To inside p q
      → FoundAs (To (behind b inside)) (key_at s p key) (key_at t q key)
  key-there b key p q f k = key-inside b key p q f refl refl (omega (arith, k.less)) k.rests

  -- a line that is read first: it takes a byte or more
  pub line_first : (key : Text) (p q : ℕ) → fits true key ≡ true → Rests out inside (drop p s) (drop q t) → length (drop q t) ≤ n
      → FoundAs (To start) (key_at s p key) (key_at t q key)
  line_first [] p q f r l = impossible (cc)
  line_first (k ∷ ks) p q f r l = key-inside true (k ∷ ks) p q f refl refl (omega arith) r

  -- ---- a number

  digits-inside : (u v : Text) (value p q : ℕ) → drop p s ≡ u → drop q t ≡ v → length v < n → Rests out inside u v
      → NumberAs (To start) (digits_of u value p) (digits_of v value q)
  unfolding digits_of
  digits-inside [] v value p q e g l r = tt
  digits-inside (x ∷ u) v value p q e g l (next {v = w} r) =
      by (eqb x 10) (is_digit x) (eqb value 0) (ltb (value * 10 + (x - 48)) (2 ^ 64)) (digits_of u (value * 10 + (x - 48)) (p + 1))
      (digits_of w (value * 10 + (x - 48)) (q + 1)) r
      (digits-inside u w (value * 10 + (x - 48)) (p + 1) (q + 1) (rest-behind s p x u e) (rest-behind t q x w g) (omega arith))
    where
      by : (a b c d : Bool) (i j : Read ℕ) → Rests out (behind a inside) u w → (Rests out inside u w → NumberAs (To start) i j)
          → NumberAs (To start) (elim a [
            | true ↦ Some (value, p + 1)
            | false ↦ elim b [
              | true ↦ elim c [ true ↦ None | false ↦ elim d [ true ↦ i | false ↦ None ] ]
              | false ↦ None
            ]
          ])
          (elim a [
            | true ↦ Some (value, q + 1)
            | false ↦ elim b [
              | true ↦ elim c [ true ↦ None | false ↦ elim d [ true ↦ j | false ↦ None ] ]
              | false ↦ None
            ]
          ])
      by true b c d i j k h = (refl, to start (p + 1) (q + 1) u w (rest-behind s p x u e) (rest-behind t q x w g) (omega arith) k)
      by false false c d i j k h = tt
      by false true true d i j k h = tt
      by false true false true i j k h = h k
      by false true false false i j k h = tt

  number-inside : (u v : Text) (p q : ℕ) → drop p s ≡ u → drop q t ≡ v → length v < n → Rests out inside u v
      → NumberAs (To start) (number_of u p) (number_of v q)
  unfolding number_of
  number-inside [] v p q e g l r = tt
  number-inside (x ∷ u) v p q e g l (next {v = w} r) = by (is_digit x) refl
    where
      by : (b : Bool) → is_digit x ≡ b
          → NumberAs (To start) (elim b [ true ↦ digits_of u (x - 48) (p + 1) | false ↦ None ])
          (elim b [ true ↦ digits_of w (x - 48) (q + 1) | false ↦ None ])
      by false h = tt
      by true h =
          digits-inside u w (x - 48) (p + 1) (q + 1) (rest-behind s p x u e) (rest-behind t q x w g) (omega arith)
          (subst (λ (y : Bool). Rests out (behind y inside) u w) (digit-only x h) r)

  pub number-there : (p q : ℕ) → To inside p q → NumberAs (To start) (number_at s p) (number_at t q)
  number-there p q k = number-inside (drop p s) (drop q t) p q refl refl k.less k.rests

  -- ---- a name

  word-inside : (u v : Text) (from₁ from₂ c p q : ℕ) → from₁ ≤ p → from₂ ≤ q → drop p s ≡ u → drop q t ≡ v → length v < n
      → SamePart s t (part_of from₁ p) (part_of from₂ q) → Rests out inside u v → NameAs (To start) s t (word_of u from₁ c p) (word_of v from₂ c q)
  unfolding word_of
  word-inside [] v from₁ from₂ c p q h₁ h₂ e g l k r = tt
  word-inside (x ∷ u) v from₁ from₂ c p q h₁ h₂ e g l k (next {v = w} r) =
      by (eqb x 10) (eqb c 32) (is_word x) (word_of u from₁ (c + 1) (p + 1)) (word_of w from₂ (c + 1) (q + 1)) r
      (word-inside u w from₁ from₂ (c + 1) (p + 1) (q + 1) (omega arith) (omega arith) (rest-behind s p x u e) (rest-behind t q x w g) (omega arith)
      (part-grows s from₁ p x u h₁ e ∙ ap (λ (y : Text). y ++ (x ∷ [])) k ∙ sym (part-grows t from₂ q x w h₂ g)))
    where
      by : (a b d : Bool) (i j : Read Part) → Rests out (behind a inside) u w → (Rests out inside u w → NameAs (To start) s t i j)
          → NameAs (To start) s t (elim a [
            | true ↦ Some (part_of from₁ p, p + 1)
            | false ↦ elim b [ true ↦ None | false ↦ elim d [ true ↦ i | false ↦ None ] ]
          ])
          (elim a [
            | true ↦ Some (part_of from₂ q, q + 1)
            | false ↦ elim b [ true ↦ None | false ↦ elim d [ true ↦ j | false ↦ None ] ]
          ])
      by true b d i j o h = (k, to start (p + 1) (q + 1) u w (rest-behind s p x u e) (rest-behind t q x w g) (omega arith) o)
      by false true d i j o h = tt
      by false false true i j o h = h o
      by false false false i j o h = tt

  name-inside : (u v : Text) (p q : ℕ) → drop p s ≡ u → drop q t ≡ v → length v < n → Rests out inside u v
      → NameAs (To start) s t (name_of u p) (name_of v q)
  unfolding name_of
  name-inside [] v p q e g l r = tt
  name-inside (x ∷ u) v p q e g l (next {v = w} r) =
      by (is_digit x) (eqb x 10) (word_of (x ∷ u) p 0 p) (word_of (x ∷ w) q 0 q)
      (word-inside (x ∷ u) (x ∷ w) p q 0 p q (omega arith) (omega arith) e g l nothing (next r))
    where
      nothing : SamePart s t (part_of p p) (part_of q q)
      nothing =
          ap (λ (k : ℕ). take k (drop p s)) (let z : p - p ≡ 0 = omega arith in z)
          ∙ ap (λ (k : ℕ). take k (drop q t)) (let z : 0 ≡ q - q = omega arith in z)

      by : (a b : Bool) (i j : Read Part) → NameAs (To start) s t i j
          → NameAs (To start) s t (elim a [ true ↦ None | false ↦ elim b [ true ↦ None | false ↦ i ] ])
          (elim a [ true ↦ None | false ↦ elim b [ true ↦ None | false ↦ j ] ])
      by true b i j h = tt
      by false true i j h = tt
      by false false i j h = h

  digits-line-same : (u v : Text) → Rests out inside u v → digits_line u ≡ digits_line v
  unfolding digits_line
  digits-line-same [] v done = refl
  digits-line-same (x ∷ u) v (next {v = w} r) = by (eqb x 10) (is_digit x) r (digits-line-same u w)
    where
      by : (a b : Bool) → Rests out (behind a inside) u w → (Rests out inside u w → digits_line u ≡ digits_line w)
          → ◌≡◌ {A = Bool} (elim a [ true ↦ true | false ↦ elim b [ true ↦ digits_line u | false ↦ false ] ])
          (elim a [ true ↦ true | false ↦ elim b [ true ↦ digits_line w | false ↦ false ] ])
      by true b k h = refl
      by false true k h = h k
      by false false k h = refl

  some-digits-same : (u v : Text) → Rests out inside u v → some_digits u ≡ some_digits v
  unfolding some_digits
  some-digits-same [] v done = refl
  some-digits-same (x ∷ u) v (next {v = w} r) = by (is_digit x) refl
    where
      by : (a : Bool) → is_digit x ≡ a
          → ◌≡◌ {A = Bool} (elim a [ true ↦ digits_line u | false ↦ false ]) (elim a [ true ↦ digits_line w | false ↦ false ])
      by true h = digits-line-same u w (subst (λ (y : Bool). Rests out (behind y inside) u w) (digit-only x h) r)
      by false h = refl

  forbidden-same : (p q : ℕ) → To inside p q → is_forbidden s p ≡ is_forbidden t q
  unfolding is_forbidden
  forbidden-same p q k =
      rw (
        found-same (To start) (key_at s p (text "span\n")) (key_at t q (text "span\n")) (key-there true (text "span\n") p q refl k),
        found-same (To start) (key_at s p (text "output\n")) (key_at t q (text "output\n")) (key-there true (text "output\n") p q refl k),
        digits (key_at s p (text "chunk")) (key_at t q (text "chunk")) (key-there false (text "chunk") p q refl k),
      )
    where
      digits : (a b : Option ℕ) → FoundAs (To inside) a b → digits_behind s a ≡ digits_behind t b
      digits (Some i) (Some j) h = some-digits-same (drop i s) (drop j t) h.rests
      digits (Some i) None h = absurd h
      digits None (Some j) h = absurd h
      digits None None h = refl

  pub name-there : (p q : ℕ) → To inside p q → NameAs (To start) s t (name_at s p) (name_at t q)
  unfolding name_at
  name-there p q k = by (is_forbidden s p) (is_forbidden t q) (forbidden-same p q k)
      (name-inside (drop p s) (drop q t) p q refl refl k.less k.rests)
    where
      by : (a b : Bool) → a ≡ b → NameAs (To start) s t (name_of (drop p s) p) (name_of (drop q t) q)
          → NameAs (To start) s t (elim a [ true ↦ None | false ↦ name_of (drop p s) p ])
          (elim b [ true ↦ None | false ↦ name_of (drop q t) q ])
      by true b e h = tt
      by false true e h = impossible (cc)
      by false false e h = h

-- ---- beginning with a key

-- whether a key is there, wherever that is
found-anywhere : (key u : Text) (p q : ℕ) → is_found (key_of key u p) ≡ is_found (key_of key u q)
unfolding key_of
found-anywhere [] u p q = refl
found-anywhere (k ∷ ks) [] p q = refl
found-anywhere (k ∷ ks) (x ∷ u) p q = by (eqb x k) (found-anywhere ks u (p + 1) (q + 1))
  where
    by : (b : Bool) → is_found (key_of ks u (p + 1)) ≡ is_found (key_of ks u (q + 1))
        → is_found (elim b [ true ↦ key_of ks u (p + 1) | false ↦ None ]) ≡ is_found (elim b [ true ↦ key_of ks u (q + 1) | false ↦ None ])
    by true h = h
    by false h = refl

pub key-begins : (s : Text) (p : ℕ) (key : Text) → is_found (key_at s p key) ≡ begins key (drop p s)
unfolding begins
key-begins s p key = found-anywhere key (drop p s) p 0

-- a key is not there where its beginning is not
longer : (ks ls u : Text) (p q : ℕ) → is_found (key_of ks u q) ≡ false → key_of (ks ++ ls) u p ≡ None
unfolding key_of
longer [] ls u p q h = impossible (cc)
longer (k ∷ ks) ls [] p q h = refl
longer (k ∷ ks) ls (x ∷ u) p q h = by (eqb x k) h (longer ks ls u (p + 1) (q + 1))
  where
    by : (b : Bool) → is_found (elim b [ true ↦ key_of ks u (q + 1) | false ↦ None ]) ≡ false
        → (is_found (key_of ks u (q + 1)) ≡ false → key_of (ks ++ ls) u (p + 1) ≡ None)
        → ◌≡◌ {A = Option ℕ} (elim b [ true ↦ key_of (ks ++ ls) u (p + 1) | false ↦ None ]) None
    by true i ih = ih i
    by false i ih = refl

pub longer-key : (s : Text) (p : ℕ) (key more : Text) → begins key (drop p s) ≡ false → key_at s p (key ++ more) ≡ None
unfolding begins
longer-key s p key more h = longer key more (drop p s) p 0 h

-- of two keys that differ, one is not there
not-both : (ks ls u : Text) (p q : ℕ) → differ ks ls ≡ true → is_found (key_of ls u q) ≡ true → key_of ks u p ≡ None
unfolding key_of
not-both [] ls u p q d h = impossible (cc)
not-both (k ∷ ks) [] u p q d h = impossible (cc)
not-both (k ∷ ks) (l ∷ ls) [] p q d h = refl
not-both (k ∷ ks) (l ∷ ls) (x ∷ u) p q d h = by (eqb x k) refl (eqb x l) refl d h (not-both ks ls u (p + 1) (q + 1))
  where
    same_byte : eqb x k ≡ true → eqb x l ≡ true → eqb k l ≡ true
    same_byte e g = ap (λ (y : ℕ). eqb y l) (sym (eqb-true x k e)) ∙ g

    by : (a : Bool) → eqb x k ≡ a → (b : Bool) → eqb x l ≡ b → pick (eqb k l) (differ ks ls) true ≡ true
        → is_found (elim b [ true ↦ key_of ls u (q + 1) | false ↦ None ]) ≡ true
        → (differ ks ls ≡ true → is_found (key_of ls u (q + 1)) ≡ true → key_of ks u (p + 1) ≡ None)
        → ◌≡◌ {A = Option ℕ} (elim a [ true ↦ key_of ks u (p + 1) | false ↦ None ]) None
    by false e b g i j ih = refl
    by true e false g i j ih = impossible (cc)
    by true e true g i j ih = ih (subst (λ (b : Bool). pick b (differ ks ls) true ≡ true) (same_byte e g) i) j

pub differing-key : (s : Text) (p : ℕ) (key other : Text) → differ key other ≡ true → begins other (drop p s) ≡ true → key_at s p key ≡ None
unfolding begins
differing-key s p key other d h = not-both key other (drop p s) p 0 d h

-- ---- lines that are left out, and the keys of others

-- of no line that is left out
abbrev pub apart_from : LeftOut → Text → Bool
apart_from LeftOut.none key = true
apart_from LeftOut.bits key = differ key (text "bits=")
apart_from LeftOut.raw key = differ key (text "raw=")
apart_from LeftOut.products key = differ key (text "products=")

-- of none that may be
abbrev pub apart : Text → Bool
apart key = apart_from LeftOut.bits key && (apart_from LeftOut.raw key && apart_from LeftOut.products key)

pub both : (a b : Bool) → (a && b) ≡ true → (a ≡ true) × (b ≡ true)
both true b e = (refl, e)
both false b e = impossible (cc)

apart-each : (out : LeftOut) (key : Text) → apart key ≡ true → apart_from out key ≡ true
apart-each out key d = by out
  where
    later : (apart_from LeftOut.bits key ≡ true) × ((apart_from LeftOut.raw key && apart_from LeftOut.products key) ≡ true)
    later = both (apart_from LeftOut.bits key) (apart_from LeftOut.raw key && apart_from LeftOut.products key) d

    last : (apart_from LeftOut.raw key ≡ true) × (apart_from LeftOut.products key ≡ true)
    last = both (apart_from LeftOut.raw key) (apart_from LeftOut.products key) later.1

    by : (o : LeftOut) → apart_from o key ≡ true
    by LeftOut.none = refl
    by LeftOut.bits = later.0
    by LeftOut.raw = last.0
    by LeftOut.products = last.1

pub key_apart : (out : LeftOut) (s : Text) (p : ℕ) (key : Text) → apart_from out key ≡ true → is_out out (drop p s) ≡ true → key_at s p key ≡ None
key_apart LeftOut.none s p key d h = impossible (cc)
key_apart LeftOut.bits s p key d h = differing-key s p key (text "bits=") d h
key_apart LeftOut.raw s p key d h = differing-key s p key (text "raw=") d h
key_apart LeftOut.products s p key d h = differing-key s p key (text "products=") d h

pub other_key : (out : LeftOut) (s : Text) (p : ℕ) (key : Text) → apart key ≡ true → is_out out (drop p s) ≡ true → key_at s p key ≡ None
other_key out s p key d h = key_apart out s p key (apart-each out key d) h

-- where another key is there, none is left out
pub not-out : (out : LeftOut) (s : Text) (p : ℕ) (key : Text) → apart key ≡ true → is_found (key_at s p key) ≡ true → is_out out (drop p s) ≡ false
not-out out s p key d h = by (is_out out (drop p s)) refl
  where
    by : (b : Bool) → is_out out (drop p s) ≡ b → b ≡ false
    by true e = impossible (cc (other_key out s p key d e))
    by false e = refl

-- and a key of no newline is there in both texts or in none
pub key-same : (out : LeftOut) (s t : Text) (p q : ℕ) (key : Text) → fits false key ≡ true → Rests out inside (drop p s) (drop q t)
    → is_found (key_at s p key) ≡ is_found (key_at t q key)
key-same out s t p q key f r =
    found-same (To out s t (suc (length (drop q t))) inside) (key_at s p key) (key_at t q key)
    (key-there out s t (suc (length (drop q t))) false key p q f (record { rests = r; less = omega arith }))

out-same : (out : LeftOut) (u v : Text) → Rests out inside u v → is_out out u ≡ is_out out v
unfolding begins
out-same LeftOut.none u v r = refl
out-same LeftOut.bits u v r = key-same LeftOut.bits u v 0 0 (text "bits=") refl r
out-same LeftOut.raw u v r = key-same LeftOut.raw u v 0 0 (text "raw=") refl r
out-same LeftOut.products u v r = key-same LeftOut.products u v 0 0 (text "products=") refl r

abbrev Clean : LeftOut → Place → Text → Type 0
Clean out inside v = Unit {0}
Clean out start v = is_out out v ≡ false
Clean out away v = is_out out v ≡ false

clean : {out : LeftOut} {m : Place} {u v : Text} → Rests out m u v → Clean out m v
clean done = tt
clean {out} gone = nothing-out out
clean (next r) = tt
clean {out} (skip {x = x} {v = v} r) = by (eqb x 10) (clean r)
  where
    by : (b : Bool) → Clean out (behind b away) v → is_out out v ≡ false
    by true h = h
    by false h = h
clean {out} (same {u = u} {v = v} e r) = sym (out-same out u v r) ∙ e
clean (cut e r) = clean r

-- no such line is left
pub cleaned : {out : LeftOut} {u v : Text} → Rests out start u v → is_out out v ≡ false
cleaned r = clean r

-- ---- a line that is left out

module _ (P : ℕ → Type 0) where
  abbrev pub FoundOn : Option ℕ → Type 0
  FoundOn (Some p) = P p
  FoundOn None = Unit {0}

  abbrev pub NumberOn : Read ℕ → Type 0
  NumberOn (Some (a, p)) = P p
  NumberOn None = Unit {0}

module _ (out : LeftOut) (s v : Text) where
  -- the rest that says what `v` does
  abbrev pub From : Place → ℕ → Type 0
  From m p = Rests out m (drop p s) v

  key-away : (b : Bool) (key u : Text) (p : ℕ) → fits b key ≡ true → drop p s ≡ u → Rests out away u v → FoundOn (From (behind b away)) (key_of key u p)
  unfolding key_of
  key-away true [] u p f e r = impossible (cc)
  key-away false [] u p f e r = rw e r
  key-away b (k ∷ ks) [] p f e r = tt
  key-away b (k ∷ ks) (x ∷ u) p f e (skip r) = by (eqb x k) refl (eqb k 10) refl (key-away b ks u (p + 1)) f
    where
      e₁ : drop (p + 1) s ≡ u
      e₁ = rest-behind s p x u e

      newline : eqb x k ≡ true → eqb x 10 ≡ eqb k 10
      newline h = ap (λ (y : ℕ). eqb y 10) (eqb-true x k h)

      last : (c : Bool) (ls : Text) → (c && is_nil ls) ≡ true → Rests out start u v → FoundOn (From (behind c away)) (key_of ls u (p + 1))
      last true [] h w = rw e₁ w
      last true (z ∷ ls) h w = impossible (cc)
      last false ls h w = impossible (cc)

      by : (c : Bool) → eqb x k ≡ c → (d : Bool) → eqb k 10 ≡ d
          → (fits b ks ≡ true → drop (p + 1) s ≡ u → Rests out away u v → FoundOn (From (behind b away)) (key_of ks u (p + 1)))
          → pick d (b && is_nil ks) (fits b ks) ≡ true
          → FoundOn (From (behind b away)) (elim c [ true ↦ key_of ks u (p + 1) | false ↦ None ])
      by false h d i ih j = tt
      by true h true i ih j = last b ks j (subst (λ (y : Bool). Rests out (behind y away) u v) (newline h ∙ i) r)
      by true h false i ih j = ih j e₁ (subst (λ (y : Bool). Rests out (behind y away) u v) (newline h ∙ i) r)

  pub key_left : (b : Bool) (key : Text) (p : ℕ) → fits b key ≡ true → From away p → FoundOn (From (behind b away)) (key_at s p key)
  key_left b key p f r = key-away b key (drop p s) p f refl r

  digits-away : (u : Text) (value p : ℕ) → drop p s ≡ u → Rests out away u v → NumberOn (From start) (digits_of u value p)
  unfolding digits_of
  digits-away [] value p e r = tt
  digits-away (x ∷ u) value p e (skip r) =
      by (eqb x 10) (is_digit x) (eqb value 0) (ltb (value * 10 + (x - 48)) (2 ^ 64)) (digits_of u (value * 10 + (x - 48)) (p + 1)) r
      (digits-away u (value * 10 + (x - 48)) (p + 1) (rest-behind s p x u e))
    where
      by : (a b c d : Bool) (i : Read ℕ) → Rests out (behind a away) u v → (Rests out away u v → NumberOn (From start) i)
          → NumberOn (From start) (elim a [
            | true ↦ Some (value, p + 1)
            | false ↦ elim b [
              | true ↦ elim c [ true ↦ None | false ↦ elim d [ true ↦ i | false ↦ None ] ]
              | false ↦ None
            ]
          ])
      by true b c d i k h = rw (rest-behind s p x u e) k
      by false false c d i k h = tt
      by false true true d i k h = tt
      by false true false true i k h = h k
      by false true false false i k h = tt

  number-away : (u : Text) (p : ℕ) → drop p s ≡ u → Rests out away u v → NumberOn (From start) (number_of u p)
  unfolding number_of
  number-away [] p e r = tt
  number-away (x ∷ u) p e (skip r) = by (is_digit x) refl
    where
      by : (b : Bool) → is_digit x ≡ b → NumberOn (From start) (elim b [ true ↦ digits_of u (x - 48) (p + 1) | false ↦ None ])
      by false h = tt
      by true h =
          digits-away u (x - 48) (p + 1) (rest-behind s p x u e)
          (subst (λ (y : Bool). Rests out (behind y away) u v) (digit-only x h) r)

  pub number-left : (p : ℕ) → From away p → NumberOn (From start) (number_at s p)
  number-left p r = number-away (drop p s) p refl r
