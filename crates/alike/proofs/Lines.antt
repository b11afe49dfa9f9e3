-- A line that is read at one of two places whose rests say the same is read at the other: a key and a value, and what follows it.
-- Assumes nothing.
use Rattle.std.specs.Prelude.{Option, Some, None}
use Rattle.definitions.specs.Record.{Read, key_at, number_at, name_at, on_found, on_read, number_line, name_line, bit_line, maybe_number_line, maybe_name_line, modifier_line, stated_at, bits_line}
use mathlib.Core.Bool.{Bool, true, false, ◌&&◌}
use mathlib.Core.Logic.{◌⊎◌, inl, inr}
use mathlib.Core.Path.{◌≡◌, refl, sym, ap, subst}
use Prim.Native.Nat.{ℕ, ◌≤◌}
use lib.ListN.{length, drop}
use Rattle.definitions.specs.Bytes.{Text, text, pick}
use Rattle.definitions.specs.declared.Part.{Part}
use Rattle.definitions.specs.declared.Modifier.{Modifier}
use Rattle.definitions.specs.declared.Size.{Size}
use Rattle.lengths.proofs.Booleans.{impossible}
use Rattle.alike.specs.Without.{begins}
use Rattle.alike.proofs.Same.{SamePart, SameMaybe}
use Rattle.alike.proofs.Rests.{LeftOut, is_out, start, inside, away, Rests, same, cut}
use Rattle.alike.proofs.Leaves.{fits, FoundAs, NumberAs, NameAs, To, key-there, line_first, number-there, name-there, key-begins, apart_from, apart, both, key_apart, other_key, cleaned, FoundOn, NumberOn, From, key_left, number-left}

-- a key of no newline, of no line that may be left out
abbrev pub plain : Text → Bool
plain key = fits false key && apart key

-- ---- on from two answers

module _ {A : Type 0} (Q : A → A → Type 0) (R : ℕ → ℕ → Type 0) where
  on-found : (bad bad₂ : A) → Q bad bad₂ → (a b : Option ℕ) (f g : ℕ → A) → FoundAs R a b → ((i j : ℕ) → R i j → Q (f i) (g j))
      → Q (on_found a bad f) (on_found b bad₂ g)
  on-found bad bad₂ w (Some i) (Some j) f g u h = h i j u
  on-found bad bad₂ w (Some i) None f g u h = absurd u
  on-found bad bad₂ w None (Some j) f g u h = absurd u
  on-found bad bad₂ w None None f g u h = w

-- where nothing was read at the first, nothing is asked
module _ {A : Type 0} (Q : A → A → Type 0) (bad : A) (w : (x : A) → Q bad x) (R : ℕ → ℕ → Type 0) where
  on-number : (a b : Read ℕ) (f g : ℕ → ℕ → A) → NumberAs R a b → ((m i j : ℕ) → R i j → Q (f m i) (g m j)) → Q (on_read a bad f) (on_read b bad g)
  on-number None b f g u h = w (on_read b bad g)
  on-number (Some (m, i)) None f g u h = absurd u
  on-number (Some (m, i)) (Some (k, j)) f g u h = subst (λ (y : ℕ). Q (f m i) (g y j)) u.0 (h m i j u.1)

  on-name : (s t : Text) (a b : Read Part) (f g : Part → ℕ → A) → NameAs R s t a b
      → ((m k : Part) (i j : ℕ) → SamePart s t m k → R i j → Q (f m i) (g k j)) → Q (on_read a bad f) (on_read b bad g)
  on-name s t None b f g u h = w (on_read b bad g)
  on-name s t (Some (m, i)) None f g u h = absurd u
  on-name s t (Some (m, i)) (Some (k, j)) f g u h = h m k i j u.0 u.1

-- whether the second text has the lines `bits` of the first
abbrev pub keeps : LeftOut → Bool
keeps LeftOut.none = true
keeps LeftOut.bits = false
keeps LeftOut.raw = true
keeps LeftOut.products = true

-- what it states: the same as the first, or nothing
kept_here : (out : LeftOut) (u : Text) → begins (text "bits=") u ≡ true → is_out out u ≡ false → (m : Option Size) → m ≡ pick (keeps out) m None
kept_here LeftOut.none u e f m = refl
kept_here LeftOut.bits u e f m = impossible (cc)
kept_here LeftOut.raw u e f m = refl
kept_here LeftOut.products u e f m = refl

pub in-none : (out : LeftOut) → ◌≡◌ {A = Option Size} None (pick (keeps out) None None)
in-none LeftOut.none = refl
in-none LeftOut.bits = refl
in-none LeftOut.raw = refl
in-none LeftOut.products = refl

module _ (out : LeftOut) (s t : Text) (n : ℕ) where
  -- places at the beginning of a line
  abbrev pub Beyond : ℕ → ℕ → Type 0
  Beyond = To out s t n start

  abbrev BitAs : Read Bool → Read Bool → Type 0
  BitAs None r = Unit {0}
  BitAs (Some (a, p)) None = ⊥
  BitAs (Some (a, p)) (Some (b, q)) = (a ≡ b) × Beyond p q

  abbrev ModifierAs : Read Modifier → Read Modifier → Type 0
  ModifierAs None r = Unit {0}
  ModifierAs (Some (a, p)) None = ⊥
  ModifierAs (Some (a, p)) (Some (b, q)) = (a ≡ b) × Beyond p q

  abbrev MaybeNumberAs : Read (Option ℕ) → Read (Option ℕ) → Type 0
  MaybeNumberAs None r = Unit {0}
  MaybeNumberAs (Some (a, p)) None = ⊥
  MaybeNumberAs (Some (a, p)) (Some (b, q)) = (a ≡ b) × Beyond p q

  abbrev MaybePartAs : Read (Option Part) → Read (Option Part) → Type 0
  MaybePartAs None r = Unit {0}
  MaybePartAs (Some (a, p)) None = ⊥
  MaybePartAs (Some (a, p)) (Some (b, q)) = SameMaybe s t a b × Beyond p q

  abbrev MaybeSizeAs : Read (Option Size) → Read (Option Size) → Type 0
  MaybeSizeAs None r = Unit {0}
  MaybeSizeAs (Some (a, p)) None = ⊥
  MaybeSizeAs (Some (a, p)) (Some (b, q)) = (b ≡ pick (keeps out) a None) × Beyond p q

  -- ---- a line's key, and the value under it

  module _ {A : Type 0} (Q : A → A → Type 0) (bad : A) (w : (x : A) → Q bad x) (p q : ℕ) (key : Text) (c : plain key ≡ true) (k : Beyond p q) where
    on-key : (f g : ℕ → A) → ((i j : ℕ) → To out s t n inside i j → Q (f i) (g j)) → Q (on_found (key_at s p key) bad f) (on_found (key_at t q key) bad g)
    on-key f g h = by k.rests
      where
        by : Rests out start (drop p s) (drop q t) → Q (on_found (key_at s p key) bad f) (on_found (key_at t q key) bad g)
        by (same e r) =
            on-found Q (To out s t n inside) bad bad (w bad) (key_at s p key) (key_at t q key) f g
            (key-there out s t n false key p q (both (fits false key) (apart key) c).0 (record { rests = r; less = k.less })) h
        by (cut e r) =
            subst (λ (a : Option ℕ). Q (on_found a bad f) (on_found (key_at t q key) bad g))
            (sym (other_key out s p key (both (fits false key) (apart key) c).1 e)) (w (on_found (key_at t q key) bad g))

  -- the alternatives of a value: a line's end that is found or not at both
  module _ {A : Type 0} (Q : A → A → Type 0) (p q : ℕ) (key : Text) (c : fits true key ≡ true) (k : To out s t n inside p q) where
    on-end : (bad bad₂ : A) (f g : ℕ → A) → Q bad bad₂ → ((i j : ℕ) → Beyond i j → Q (f i) (g j))
        → Q (on_found (key_at s p key) bad f) (on_found (key_at t q key) bad₂ g)
    on-end bad bad₂ f g w h = on-found Q Beyond bad bad₂ w (key_at s p key) (key_at t q key) f g (key-there out s t n true key p q c k) h

  module _ (p q : ℕ) (key : Text) (c : plain key ≡ true) (k : Beyond p q) where
    number-line : NumberAs Beyond (number_line s p key) (number_line t q key)
    number-line = on-key (NumberAs Beyond) None (λ x. tt) p q key c k _ _ (number-there out s t n)

    name-line : NameAs Beyond s t (name_line s p key) (name_line t q key)
    unfolding name_line
    name-line = on-key (NameAs Beyond s t) None (λ x. tt) p q key c k _ _ (name-there out s t n)

    bit-line : BitAs (bit_line s p key) (bit_line t q key)
    bit-line =
        on-key BitAs None (λ x. tt) p q key c k _ _ λ i j h.
        on-end BitAs i j (text "0\n") refl h _ _ _ _ (on-end BitAs i j (text "1\n") refl h None None _ _ tt λ x y u. (refl, u))
        λ x y u. (refl, u)

    maybe-number-line : MaybeNumberAs (maybe_number_line s p key) (maybe_number_line t q key)
    maybe-number-line =
        on-key MaybeNumberAs None (λ x. tt) p q key c k _ _ λ i j h.
        on-end MaybeNumberAs i j (text "-\n") refl h _ _ _ _
        (on-number MaybeNumberAs None (λ x. tt) Beyond (number_at s i) (number_at t j) _ _ (number-there out s t n i j h)
        λ m x y u. (refl, u))
        λ x y u. (refl, u)

    maybe-name-line : MaybePartAs (maybe_name_line s p key) (maybe_name_line t q key)
    unfolding maybe_name_line
    maybe-name-line =
        on-key MaybePartAs None (λ x. tt) p q key c k _ _ λ i j h.
        on-end MaybePartAs i j (text "-\n") refl h _ _ _ _
        (on-name MaybePartAs None (λ x. tt) Beyond s t (name_at s i) (name_at t j) _ _ (name-there out s t n i j h)
        λ a b x y e u. (SameMaybe.some e, u))
        λ x y u. (SameMaybe.none, u)

    modifier-line : ModifierAs (modifier_line s p key) (modifier_line t q key)
    modifier-line =
        on-key ModifierAs None (λ x. tt) p q key c k _ _ λ i j h.
        on-end ModifierAs i j (text "-\n") refl h _ _ _ _
        (on-found ModifierAs (To out s t n inside) _ _
        (on-found ModifierAs (To out s t n inside) None None tt (key_at s i (text "+")) (key_at t j (text "+")) _ _
        (key-there out s t n false (text "+") i j refl h) (signed Modifier.Plus))
        (key_at s i (text "-")) (key_at t j (text "-")) _ _ (key-there out s t n false (text "-") i j refl h) (signed Modifier.Minus))
        λ x y u. (refl, u)
      where
        signed : (sign : ℕ → Modifier) (i j : ℕ) → To out s t n inside i j
            → ModifierAs (on_read (number_at s i) None λ m x. Some (sign m, x))
            (on_read (number_at t j) None λ m x. Some (sign m, x))
        signed sign i j h =
            on-number ModifierAs None (λ x. tt) Beyond (number_at s i) (number_at t j) _ _ (number-there out s t n i j h)
            λ m x y u. (refl, u)

  -- ---- a line of one word

  -- one of a line's choices
  pub then-line : {A : Type 0} (Q : A → A → Type 0) (p q : ℕ) → Rests out inside (drop p s) (drop q t) → length (drop q t) ≤ n
      → (line : Text) → fits true line ≡ true → (bad bad₂ : A) → Q bad bad₂ → (f g : ℕ → A) → ((i j : ℕ) → Beyond i j → Q (f i) (g j))
      → Q (on_found (key_at s p line) bad f) (on_found (key_at t q line) bad₂ g)
  then-line Q p q r l line c bad bad₂ w f g h =
      on-found Q Beyond bad bad₂ w (key_at s p line) (key_at t q line) f g (line_first out s t n line p q c r l) h

  -- ---- a line, and what follows it

  module _ {A : Type 0} (Q : A → A → Type 0) (bad : A) (w : (x : A) → Q bad x) (p q : ℕ) (k : Beyond p q) where
    module _ (key : Text) (c : plain key ≡ true) where
      pub then-number : (f g : ℕ → ℕ → A) → ((m i j : ℕ) → Beyond i j → Q (f m i) (g m j))
          → Q (on_read (number_line s p key) bad f) (on_read (number_line t q key) bad g)
      then-number f g h = on-number Q bad w Beyond (number_line s p key) (number_line t q key) f g (number-line p q key c k) h

      pub then-name : (f g : Part → ℕ → A) → ((a b : Part) (i j : ℕ) → SamePart s t a b → Beyond i j → Q (f a i) (g b j))
          → Q (on_read (name_line s p key) bad f) (on_read (name_line t q key) bad g)
      then-name f g h = on-name Q bad w Beyond s t (name_line s p key) (name_line t q key) f g (name-line p q key c k) h

      pub then-bit : (f g : Bool → ℕ → A) → ((m : Bool) (i j : ℕ) → Beyond i j → Q (f m i) (g m j))
          → Q (on_read (bit_line s p key) bad f) (on_read (bit_line t q key) bad g)
      then-bit f g h = by (bit_line s p key) (bit_line t q key) (bit-line p q key c k)
        where
          by : (a b : Read Bool) → BitAs a b → Q (on_read a bad f) (on_read b bad g)
          by None b u = w (on_read b bad g)
          by (Some (m, i)) None u = absurd u
          by (Some (m, i)) (Some (o, j)) u = subst (λ (y : Bool). Q (f m i) (g y j)) u.0 (h m i j u.1)

      pub then-modifier : (f g : Modifier → ℕ → A) → ((m : Modifier) (i j : ℕ) → Beyond i j → Q (f m i) (g m j))
          → Q (on_read (modifier_line s p key) bad f) (on_read (modifier_line t q key) bad g)
      then-modifier f g h = by (modifier_line s p key) (modifier_line t q key) (modifier-line p q key c k)
        where
          by : (a b : Read Modifier) → ModifierAs a b → Q (on_read a bad f) (on_read b bad g)
          by None b u = w (on_read b bad g)
          by (Some (m, i)) None u = absurd u
          by (Some (m, i)) (Some (o, j)) u = subst (λ (y : Modifier). Q (f m i) (g y j)) u.0 (h m i j u.1)

      pub then-maybe-number : (f g : Option ℕ → ℕ → A) → ((m : Option ℕ) (i j : ℕ) → Beyond i j → Q (f m i) (g m j))
          → Q (on_read (maybe_number_line s p key) bad f) (on_read (maybe_number_line t q key) bad g)
      then-maybe-number f g h = by (maybe_number_line s p key) (maybe_number_line t q key) (maybe-number-line p q key c k)
        where
          by : (a b : Read (Option ℕ)) → MaybeNumberAs a b → Q (on_read a bad f) (on_read b bad g)
          by None b u = w (on_read b bad g)
          by (Some (m, i)) None u = absurd u
          by (Some (m, i)) (Some (o, j)) u = subst (λ (y : Option ℕ). Q (f m i) (g y j)) u.0 (h m i j u.1)

      pub then-maybe-name : (f g : Option Part → ℕ → A) → ((a b : Option Part) (i j : ℕ) → SameMaybe s t a b → Beyond i j → Q (f a i) (g b j))
          → Q (on_read (maybe_name_line s p key) bad f) (on_read (maybe_name_line t q key) bad g)
      then-maybe-name f g h = by (maybe_name_line s p key) (maybe_name_line t q key) (maybe-name-line p q key c k)
        where
          by : (a b : Read (Option Part)) → MaybePartAs a b → Q (on_read a bad f) (on_read b bad g)
          by None b u = w (on_read b bad g)
          by (Some (m, i)) None u = absurd u
          by (Some (m, i)) (Some (o, j)) u = h m o i j u.0 u.1

-- ---- the line `bits`: both read it, or the second leaves it out

module _ (out : LeftOut) (s t : Text) (n p q : ℕ) (k : Beyond out s t n p q) where
  -- both
  stated : ((m : Option Size) → m ≡ pick (keeps out) m None) → (i j : ℕ) → To out s t n inside i j
      → MaybeSizeAs out s t n (stated_at s i) (stated_at t j)
  stated given i j h =
      on-end out s t n (MaybeSizeAs out s t n) i j (text "dynamic\n") refl h _ _ _ _
      (on-end out s t n (MaybeSizeAs out s t n) i j (text "unknown\n") refl h _ _ _ _
      (on-number (MaybeSizeAs out s t n) None (λ x. tt) (Beyond out s t n) (number_at s i) (number_at t j) _ _ (number-there out s t n i j h)
      λ m x y u. (given (Some (Size.Static m)), u))
      λ x y u. (given (Some Size.Unknown), u))
      λ x y u. (given (Some Size.Dynamic), u)

  here : (a : Option ℕ) → key_at s p (text "bits=") ≡ a → is_out out (drop p s) ≡ false → (b : Option ℕ) → FoundAs (To out s t n inside) a b
      → MaybeSizeAs out s t n (on_found a (Some (None, p)) λ i. stated_at s i)
      (on_found b (Some (None, q)) λ i. stated_at t i)
  here (Some i) e f (Some j) u =
      let c : begins (text "bits=") (drop p s) ≡ true = cc (key-begins s p (text "bits=")) in
      stated (kept_here out (drop p s) c f) i j u
  here (Some i) e f None u = absurd u
  here None e f (Some j) u = absurd u
  here None e f None u = (in-none out, k)

-- only the first
module _ (s t : Text) (n p q : ℕ) (k : Beyond LeftOut.bits s t n p q) where
  from : (i : ℕ) → From LeftOut.bits s (drop q t) start i → Beyond LeftOut.bits s t n i q
  from i r = record { rests = r; less = k.less }

  left : (i : ℕ) → From LeftOut.bits s (drop q t) away i → MaybeSizeAs LeftOut.bits s t n (stated_at s i) (Some (None, q))
  left i r =
      ended (text "dynamic\n") refl _ _
      (ended (text "unknown\n") refl _ _ (number (number_at s i) (number-left LeftOut.bits s (drop q t) i r)) λ x u. (refl, from x u))
      λ x u. (refl, from x u)
    where
      AsNone : Read (Option Size) → Type 0
      AsNone a = MaybeSizeAs LeftOut.bits s t n a (Some (None, q))

      ended : (key : Text) → fits true key ≡ true → (bad : Read (Option Size)) (f : ℕ → Read (Option Size)) → AsNone bad
          → ((x : ℕ) → From LeftOut.bits s (drop q t) start x → AsNone (f x)) → AsNone (on_found (key_at s i key) bad f)
      ended key c bad f w h = by (key_at s i key) (key_left LeftOut.bits s (drop q t) true key i c r)
        where
          by : (a : Option ℕ) → FoundOn (From LeftOut.bits s (drop q t) start) a → AsNone (on_found a bad f)
          by (Some x) u = h x u
          by None u = w

      number : (a : Read ℕ) → NumberOn (From LeftOut.bits s (drop q t) start) a
          → AsNone (on_read a None λ m x. Some (Some (Size.Static m), x))
      number (Some (m, x)) u = (refl, from x u)
      number None u = tt

  first-only : (a : Option ℕ) → key_at s p (text "bits=") ≡ a → begins (text "bits=") (drop p s) ≡ true → FoundOn (From LeftOut.bits s (drop q t) away) a
      → (b : Option ℕ) → key_at t q (text "bits=") ≡ b
      → MaybeSizeAs LeftOut.bits s t n (on_found a (Some (None, p)) λ i. stated_at s i)
      (on_found b (Some (None, q)) λ i. stated_at t i)
  first-only (Some i) f e u None g = left i u
  first-only None f e u b g = impossible (cc (key-begins s p (text "bits=")))
  first-only (Some i) f e u (Some j) g = impossible (cc (key-begins t q (text "bits="), cleaned k.rests))

-- or a line of another key stands in its place, and the second text leaves that out
abbrev Instead : LeftOut → Text → ℕ → Type 0
Instead out s p = (is_out out (drop p s) ≡ true) × (bits_line s p ≡ Some (None, p))

bits-line : (out : LeftOut) (s t : Text) (n p q : ℕ) → Beyond out s t n p q → Instead out s p ⊎ MaybeSizeAs out s t n (bits_line s p) (bits_line t q)
bits-line out s t n p q k = by k.rests
  where
    instead : (o : LeftOut) → apart_from o (text "bits=") ≡ true → is_out o (drop p s) ≡ true → Instead o s p
    instead o d e =
        (e, ap (λ (a : Option ℕ). on_found a (Some (None, p)) λ i. stated_at s i) (key_apart o s p (text "bits=") d e))

    gone : (o : LeftOut) → Beyond o s t n p q → is_out o (drop p s) ≡ true → Rests o away (drop p s) (drop q t)
        → Instead o s p ⊎ MaybeSizeAs o s t n (bits_line s p) (bits_line t q)
    gone LeftOut.none h e r = impossible (cc)
    gone LeftOut.bits h e r =
        inr (first-only s t n p q h (key_at s p (text "bits=")) refl e (key_left LeftOut.bits s (drop q t) false (text "bits=") p refl r)
        (key_at t q (text "bits=")) refl)
    gone LeftOut.raw h e r = inl (instead LeftOut.raw refl e)
    gone LeftOut.products h e r = inl (instead LeftOut.products refl e)

    by : Rests out start (drop p s) (drop q t) → Instead out s p ⊎ MaybeSizeAs out s t n (bits_line s p) (bits_line t q)
    by (same e r) =
        inr (here out s t n p q k (key_at s p (text "bits=")) refl e (key_at t q (text "bits="))
        (key-there out s t n false (text "bits=") p q refl (record { rests = r; less = k.less })))
    by (cut e r) = gone out k e r

module _ (out : LeftOut) (s t : Text) (n : ℕ) {A : Type 0} (Q : A → A → Type 0) (bad : A) (w : (x : A) → Q bad x) (p q : ℕ) (k : Beyond out s t n p q) where
  -- where a line that is left out stands in the place of `bits`, nothing is known of the second text
  pub then-bits : (f g : Option Size → ℕ → A) → ((x : A) → is_out out (drop p s) ≡ true → Q (f None p) x)
      → ((a b : Option Size) (i j : ℕ) → b ≡ pick (keeps out) a None → Beyond out s t n i j → Q (f a i) (g b j))
      → Q (on_read (bits_line s p) bad f) (on_read (bits_line t q) bad g)
  then-bits f g z h = by (bits-line out s t n p q k)
    where
      both_read : (a b : Read (Option Size)) → MaybeSizeAs out s t n a b → Q (on_read a bad f) (on_read b bad g)
      both_read None b u = w (on_read b bad g)
      both_read (Some (m, i)) None u = absurd u
      both_read (Some (m, i)) (Some (o, j)) u = h m o i j u.0 u.1

      by : Instead out s p ⊎ MaybeSizeAs out s t n (bits_line s p) (bits_line t q) → Q (on_read (bits_line s p) bad f) (on_read (bits_line t q) bad g)
      by (inl e) = rw e.1 (z (on_read (bits_line t q) bad g) e.0)
      by (inr u) = both_read (bits_line s p) (bits_line t q) u
