-- The head's optional lines, each a choice of two words, read one behind the other in two texts of which the second may leave out lines. Where declarations
-- follow in the first, both choose the same, and a line that is left out is read as its first word (`choices-as`).
-- Assumes nothing.
use Rattle.std.specs.Prelude.{Option, Some, None}
use mathlib.Core.Bool.{Bool, true, false, ◌&&◌}
use mathlib.Core.List.{List, [], ◌∷◌, ◌++◌}
use mathlib.Core.Logic.{◌⊎◌, inl, inr}
use mathlib.Core.Path.{◌≡◌, refl, sym, ap, ◌∙◌, subst}
use Prim.Native.Nat.{ℕ, ◌≤◌}
use native.Mathlib.Omega.{arith}
use lib.ListN.{length, drop}
use Rattle.definitions.specs.Bytes.{Text, text, pick}
use Rattle.definitions.specs.Record.{key_at, is_found, on_found}
use Rattle.lengths.proofs.Booleans.{impossible}
use Rattle.alike.specs.Without.{begins}
use Rattle.alike.proofs.Rests.{LeftOut, out_key, is_out, start, inside, away, Rests, same, cut, same_line}
use Rattle.alike.proofs.Leaves.{fits, differ, both, apart_from, key_apart, key-begins, key-same, longer-key, differing-key, not-out, FoundOn, From, key_left}
use Rattle.alike.proofs.Lines.{Beyond, then-line}

-- what its lines begin with, and its words with their newline
pub record Choice : Type 0 where
  pub key : Text
  pub first : Text
  pub second : Text

-- whether the second word stands there, and the place behind the line; an absent line is as the first word
abbrev pub chosen_at : Choice → Text → ℕ → Bool × ℕ
chosen_at o u p = on_found (key_at u p (o.key ++ o.first)) (on_found (key_at u p (o.key ++ o.second)) (false, p) λ i. (true, i)) λ i. (false, i)

-- behind all of them
abbrev pub behind_all : List Choice → Text → ℕ → ℕ
behind_all [] u p = p
behind_all (o ∷ os) u p = behind_all os u (chosen_at o u p).1

-- declarations begin here
abbrev pub Declares : Text → ℕ → Type 0
Declares u p = is_found (key_at u p (text "decl=")) ≡ true

-- ---- lines that are absent

not-begun : (u : Text) (p : ℕ) (key : Text) → key_at u p key ≡ None → begins key (drop p u) ≡ false
not-begun u p key e = sym (key-begins u p key) ∙ ap is_found e

absent : (o : Choice) (u : Text) (p : ℕ) → begins o.key (drop p u) ≡ false → chosen_at o u p ≡ (false, p)
absent o u p e = rw (longer-key u p o.key o.first e, longer-key u p o.key o.second e)

-- a line of this key is none of these, and no declaration
abbrev stops : Text → List Choice → Bool
stops key [] = differ (text "decl=") key
stops key (o ∷ os) = differ o.key key && stops key os

-- so where it stands before them, no declarations follow
stuck {ℓ} : {A : Type ℓ} (os : List Choice) (u : Text) (p : ℕ) (key : Text) → stops key os ≡ true → begins key (drop p u) ≡ true
    → Declares u (behind_all os u p) → A
stuck [] u p key d e h = impossible (cc (differing-key u p (text "decl=") key d e))
stuck (o ∷ os) u p key d e h =
    let c = both (differ o.key key) (stops key os) d in
    stuck os u p key c.1 e
    (subst (λ (x : Bool × ℕ). Declares u (behind_all os u x.1)) (absent o u p (not-begun u p o.key (differing-key u p o.key key c.0 e))) h)

-- two words that end in a newline, under a key that none of the later lines has
record Formed (o : Choice) (os : List Choice) : Type 0 where
  first : fits true (o.key ++ o.first) ≡ true
  second : fits true (o.key ++ o.second) ≡ true
  stops : stops o.key os ≡ true

abbrev pub formed : List Choice → Bool
formed [] = true
formed (o ∷ os) = (fits true (o.key ++ o.first) && fits true (o.key ++ o.second)) && (stops o.key os && formed os)

well-formed : (o : Choice) (os : List Choice) → formed (o ∷ os) ≡ true → Formed o os × (formed os ≡ true)
well-formed o os e =
    let a = both (fits true (o.key ++ o.first) && fits true (o.key ++ o.second)) (stops o.key os && formed os) e in
    let b = both (fits true (o.key ++ o.first)) (fits true (o.key ++ o.second)) a.0 in
    let c = both (stops o.key os) (formed os) a.1 in
    (record { first = b.0; second = b.1; stops = c.0 }, c.1)

-- ---- in two texts

module _ (out : LeftOut) where
  -- a line is told from those that are left out, or it is one of these
  abbrev IsTold : Choice → Type 0
  IsTold o = (apart_from out o.key ≡ true) ⊎ (o.key ≡ out_key out)

  abbrev pub Told : List Choice → Type 0
  Told [] = Unit {0}
  Told (o ∷ os) = IsTold o × Told os

  -- what the second text says where the first says `w`
  abbrev pub word_in : Choice → Bool → Bool
  word_in o w = pick (apart_from out o.key) w false

  -- lines of the key of those that are left out
  key-out : (key u : Text) → apart_from out key ≡ false → key ≡ out_key out → is_out out u ≡ false → begins key u ≡ false
  key-out key u a e f = by out a e f
    where
      by : (x : LeftOut) → apart_from x key ≡ false → key ≡ out_key x → is_out x u ≡ false → begins key u ≡ false
      by LeftOut.none a e f = impossible (cc)
      by LeftOut.bits a e f = rw e f
      by LeftOut.raw a e f = rw e f
      by LeftOut.products a e f = rw e f

  module _ (o : Choice) (u : Text) (p : ℕ) where
    -- where no line is left out
    word_same : IsTold o → is_out out (drop p u) ≡ false → word_in o (chosen_at o u p).0 ≡ (chosen_at o u p).0
    word_same told f = by (apart_from out o.key) refl told
      where
        by : (b : Bool) → apart_from out o.key ≡ b → IsTold o → pick b (chosen_at o u p).0 false ≡ (chosen_at o u p).0
        by true a w = refl
        by false a (inl e) = impossible (cc)
        by false a (inr e) = rw (absent o u p (key-out o.key (drop p u) a e f))

    -- and where one is
    word_cut : is_out out (drop p u) ≡ true → word_in o (chosen_at o u p).0 ≡ false
    word_cut f = by (apart_from out o.key) refl
      where
        by : (b : Bool) → apart_from out o.key ≡ b → pick b (chosen_at o u p).0 false ≡ false
        by true a = rw (absent o u p (not-begun u p o.key (key_apart out u p o.key a f)))
        by false a = refl

  module _ (s t : Text) (n : ℕ) where
    -- the same words, and places of which the rests say the same
    abbrev pub Agree : List Choice → ℕ → ℕ → Type 0
    Agree [] p q = Beyond out s t n p q
    Agree (o ∷ os) p q = (word_in o (chosen_at o s p).0 ≡ (chosen_at o t q).0) × Agree os (chosen_at o s p).1 (chosen_at o t q).1

    pub agree-behind : (os : List Choice) (p q : ℕ) → Agree os p q → Beyond out s t n (behind_all os s p) (behind_all os t q)
    agree-behind [] p q k = k
    agree-behind (o ∷ os) p q k = agree-behind os (chosen_at o s p).1 (chosen_at o t q).1 k.1

    -- both texts read the line, or neither does
    chosen-both : (o : Choice) {os : List Choice} → Formed o os → (p q : ℕ) → Rests out inside (drop p s) (drop q t) → Beyond out s t n p q
        → ((chosen_at o s p).0 ≡ (chosen_at o t q).0) × Beyond out s t n (chosen_at o s p).1 (chosen_at o t q).1
    chosen-both o f p q r k =
        let l : length (drop q t) ≤ n = omega (arith, k.less) in
        then-line out s t n (λ (x y : Bool × ℕ). (x.0 ≡ y.0) × Beyond out s t n x.1 y.1) p q r l (o.key ++ o.first) f.first _ _
        (then-line out s t n (λ (x y : Bool × ℕ). (x.0 ≡ y.0) × Beyond out s t n x.1 y.1) p q r l (o.key ++ o.second) f.second
        (false, p) (false, q) (refl, k) _ _ (λ i j u. (refl, u))) _ _ (λ i j u. (refl, u))

    -- the first text may read the line, and the second leaves it out
    chosen-first : (o : Choice) {os : List Choice} → Formed o os → (p q : ℕ) → Rests out away (drop p s) (drop q t) → Beyond out s t n p q
        → Beyond out s t n (chosen_at o s p).1 q
    chosen-first o f p q r k =
        by (key_at s p (o.key ++ o.first)) (key_left out s (drop q t) true (o.key ++ o.first) p f.first r) (key_at s p (o.key ++ o.second))
        (key_left out s (drop q t) true (o.key ++ o.second) p f.second r)
      where
        chosen : Option ℕ → Option ℕ → Bool × ℕ
        chosen a b = on_found a (on_found b (false, p) λ i. (true, i)) λ i. (false, i)

        by : (a : Option ℕ) → FoundOn (From out s (drop q t) start) a → (b : Option ℕ) → FoundOn (From out s (drop q t) start) b
            → Beyond out s t n (chosen a b).1 q
        by (Some i) u b v = record { rests = u; less = k.less }
        by None u (Some i) v = record { rests = v; less = k.less }
        by None u None v = k

    pub choices-as : (os : List Choice) → formed os ≡ true → Told os → (p q : ℕ) → Beyond out s t n p q → Declares s (behind_all os s p) → Agree os p q
    choices-as [] f a p q k h = k
    choices-as (o ∷ os) f a p q k h = by k.rests (λ i j u g. choices-as os (well-formed o os f).1 a.1 i j u g)
      where
        here : Formed o os
        here = (well-formed o os f).0

        Later : Type 0
        Later = (i j : ℕ) → Beyond out s t n i j → Declares s (behind_all os s i) → Agree os i j

        -- the second text does not go on with this line behind one that is left out: no declarations could follow
        gone : Declares t (behind_all os t q) → (b : Bool) → begins o.key (drop q t) ≡ b → b ≡ false
        gone g true e = stuck os t q o.key here.stops e g
        gone g false e = refl

        by : Rests out start (drop p s) (drop q t) → Later → Agree (o ∷ os) p q
        by (same e r) later =
            let u = chosen-both o here p q r k in
            (word_same o s p a.0 e ∙ u.0, later (chosen_at o s p).1 (chosen_at o t q).1 u.1 h)
        by (cut e r) later =
            let i = (chosen_at o s p).1 in
            let v : Agree os i q = later i q (chosen-first o here p q r k) h in
            let b : Beyond out s t n (behind_all os s i) (behind_all os t q) = agree-behind os i q v in
            let g : Declares t (behind_all os t q) =
            sym (key-same out s t (behind_all os s i) (behind_all os t q) (text "decl=") refl
            (same_line (not-out out s (behind_all os s i) (text "decl=") refl h) b.rests)) ∙ h in
            rw (absent o t q (gone g (begins o.key (drop q t)) refl)) (word_cut o s p e, v)
