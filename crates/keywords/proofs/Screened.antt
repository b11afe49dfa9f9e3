-- One step of a reader that hands out no keyword: what follows a name or a keyword (`on_screened`, `on_free`, ..), as Steps of `names` has it for the
-- form; and that such steps give what is screened of the form's.
-- Assumes nothing.
use Rattle.std.specs.Prelude.{Option, Some, None}
use Rattle.definitions.specs.Record.{Read, on_found, on_read}
use Rattle.definitions.specs.declared.Size.{Size}
use Rattle.definitions.specs.declared.FieldDesc.{FieldDesc}
use Prim.Native.Nat.{ℕ}
use mathlib.Core.Bool.{Bool, true, false, ◌||◌}
use mathlib.Core.Path.{◌≡◌, refl, sym, ap, ◌∙◌}
use Rattle.definitions.specs.Bytes.{Text, part, pick}
use Rattle.definitions.specs.Keywords.{is_keyword}
use Rattle.definitions.specs.declared.Part.{Part}
use Rattle.definitions.specs.declared.Modifier.{Modifier}
use Rattle.keywords.specs.Screens.{free_name, screen_name, free_part, screen_part, screen_desc}

-- ---- the leaf

module _ (s : Text) {r e : Read Part} (er : r ≡ e) where
  pub leaf-wrong : r ≡ None → None ≡ screen_name s e
  leaf-wrong h = ap (screen_name s) (sym h ∙ er)

  module _ {n : Part} {p : ℕ} (h : r ≡ Some (n, p)) {t : Text} (et : t ≡ part s n) {b : Bool} (eb : b ≡ is_keyword t) where
    tested : {c : Bool} → b ≡ c → Some ((pick c None (Some n)), p) ≡ screen_name s e
    tested hb =
        ap (λ (c : Bool). Some ((pick c None (Some n)), p)) (sym hb ∙ eb ∙ ap is_keyword et)
        ∙ ap (screen_name s) (sym h ∙ er)

    pub leaf-keyword : b ≡ true → Some (None, p) ≡ screen_name s e
    leaf-keyword hb = tested hb

    pub leaf-free : b ≡ false → Some ((Some n), p) ≡ screen_name s e
    leaf-free hb = tested hb

-- ---- what follows an answer

module _ {A : Type 0} where
  abbrev pub on_screened : Read (Option Part) → A → (Option Part → ℕ → A) → A
  on_screened (Some (n, p)) bad f = f n p
  on_screened None bad f = bad

  abbrev pub on_screened_part : Read (Option (Option Part)) → A → (Option (Option Part) → ℕ → A) → A
  on_screened_part (Some (n, p)) bad f = f n p
  on_screened_part None bad f = bad

  abbrev pub on_free : Option Part → A → (Part → A) → A
  on_free (Some n) kept f = f n
  on_free None kept f = kept

  abbrev pub on_free_part : Option (Option Part) → A → A → (Part → A) → A
  on_free_part (Some None) absent kept f = absent
  on_free_part (Some (Some n)) absent kept f = f n
  on_free_part None absent kept f = kept

module _ {A : Type 0} (bad : A) {x : A} where
  pub screened : (f : Option Part → ℕ → A) {r e : Read (Option Part)} {a : Option Part} {p : ℕ}
      → r ≡ e → r ≡ Some (a, p) → x ≡ f a p → x ≡ on_screened e bad f
  screened f h k t = t ∙ ap (λ (e : Read (Option Part)). on_screened e bad f) (sym k ∙ h)

  pub no-screened : (f : Option Part → ℕ → A) {r e : Read (Option Part)} → r ≡ e → r ≡ None → x ≡ bad → x ≡ on_screened e bad f
  no-screened f h k t = t ∙ ap (λ (e : Read (Option Part)). on_screened e bad f) (sym k ∙ h)

  pub screened-part : (f : Option (Option Part) → ℕ → A) {r e : Read (Option (Option Part))} {a : Option (Option Part)} {p : ℕ}
      → r ≡ e → r ≡ Some (a, p) → x ≡ f a p → x ≡ on_screened_part e bad f
  screened-part f h k t = t ∙ ap (λ (e : Read (Option (Option Part))). on_screened_part e bad f) (sym k ∙ h)

  pub no-screened-part : (f : Option (Option Part) → ℕ → A) {r e : Read (Option (Option Part))}
      → r ≡ e → r ≡ None → x ≡ bad → x ≡ on_screened_part e bad f
  no-screened-part f h k t = t ∙ ap (λ (e : Read (Option (Option Part))). on_screened_part e bad f) (sym k ∙ h)

module _ {A : Type 0} (kept : A) {x : A} where
  pub free : (f : Part → A) {e : Option Part} {a : Part} → e ≡ Some a → x ≡ f a → x ≡ on_free e kept f
  free f k t = t ∙ ap (λ (e : Option Part). on_free e kept f) (sym k)

  pub no-free : (f : Part → A) {e : Option Part} → e ≡ None → x ≡ kept → x ≡ on_free e kept f
  no-free f k t = t ∙ ap (λ (e : Option Part). on_free e kept f) (sym k)

  module _ (absent : A) where
    pub free_part_lem : (f : Part → A) {e : Option (Option Part)} {a : Part} → e ≡ Some (Some a) → x ≡ f a → x ≡ on_free_part e absent kept f
    free_part_lem f k t = t ∙ ap (λ (e : Option (Option Part)). on_free_part e absent kept f) (sym k)

    pub absent-part : (f : Part → A) {e : Option (Option Part)} → e ≡ (Some None) → x ≡ absent → x ≡ on_free_part e absent kept f
    absent-part f k t = t ∙ ap (λ (e : Option (Option Part)). on_free_part e absent kept f) (sym k)

    pub kept-part : (f : Part → A) {e : Option (Option Part)} → e ≡ None → x ≡ kept → x ≡ on_free_part e absent kept f
    kept-part f k t = t ∙ ap (λ (e : Option (Option Part)). on_free_part e absent kept f) (sym k)

pub ruleset through = (screened, no-screened, screened-part, no-screened-part, free, no-free, free_part_lem, absent-part, kept-part)

-- ---- steps of which each gives what g makes of the form's step

pub after-found : {A B : Type 0} (g : A → B) {bad : A} {other : B} → other ≡ g bad → {f : ℕ → A} {k : ℕ → B} → ((p : ℕ) → k p ≡ g (f p))
    → (r : Option ℕ) → on_found r other k ≡ g (on_found r bad f)
after-found g h e (Some p) = e p
after-found g h e None = h

module _ {A B : Type 0} (g : A → B) (bad : A) where
  pub after-number : {f : ℕ → ℕ → A} {k : ℕ → ℕ → B} → ((n p : ℕ) → k n p ≡ g (f n p)) → (r : Read ℕ) → on_read r (g bad) k ≡ g (on_read r bad f)
  after-number e (Some (n, p)) = e n p
  after-number e None = refl

  pub after-bit : {f : Bool → ℕ → A} {k : Bool → ℕ → B} → ((b : Bool) (p : ℕ) → k b p ≡ g (f b p)) → (r : Read Bool) → on_read r (g bad) k ≡ g (on_read r bad f)
  after-bit e (Some (b, p)) = e b p
  after-bit e None = refl

  pub after-modifier : {f : Modifier → ℕ → A} {k : Modifier → ℕ → B} → ((m : Modifier) (p : ℕ) → k m p ≡ g (f m p)) → (r : Read Modifier)
      → on_read r (g bad) k ≡ g (on_read r bad f)
  after-modifier e (Some (m, p)) = e m p
  after-modifier e None = refl

  pub after-maybe-number : {f : Option ℕ → ℕ → A} {k : Option ℕ → ℕ → B} → ((n : Option ℕ) (p : ℕ) → k n p ≡ g (f n p)) → (r : Read (Option ℕ))
      → on_read r (g bad) k ≡ g (on_read r bad f)
  after-maybe-number e (Some (n, p)) = e n p
  after-maybe-number e None = refl

  pub after-maybe-size : {f : Option Size → ℕ → A} {k : Option Size → ℕ → B} → ((n : Option Size) (p : ℕ) → k n p ≡ g (f n p)) → (r : Read (Option Size))
      → on_read r (g bad) k ≡ g (on_read r bad f)
  after-maybe-size e (Some (n, p)) = e n p
  after-maybe-size e None = refl

  pub after-name : (s : Text) {f : Part → ℕ → A} (k : Option Part → ℕ → B) → ((n : Part) (p : ℕ) → k (free_name s n) p ≡ g (f n p)) → (r : Read Part)
      → on_screened (screen_name s r) (g bad) k ≡ g (on_read r bad f)
  after-name s k e (Some (n, p)) = e n p
  after-name s k e None = refl

  pub after-maybe-name : (s : Text) {f : Option Part → ℕ → A} (k : Option (Option Part) → ℕ → B) → ((n : Option Part) (p : ℕ) → k (free_part s n) p ≡ g (f n p))
      → (r : Read (Option Part)) → on_screened_part (screen_part s r) (g bad) k ≡ g (on_read r bad f)
  after-maybe-name s k e (Some (n, p)) = e n p
  after-maybe-name s k e None = refl

-- ---- what is made of one name, and of two, by whether they are keywords

module _ {A : Type 0} (kept : A) where
  pub one_name : (n : Part) (f : Part → A) (b : Bool) → on_free (pick b None (Some n)) kept f ≡ pick (b || false) kept (f n)
  one_name n f true = refl
  one_name n f false = refl

  pub two-names : (n m : Part) (f : Part → Part → A) (b c : Bool)
      → on_free (pick b None (Some n)) kept (λ (i : Part).
      on_free (pick c None (Some m)) kept (f i))
      ≡ pick (b || (c || false)) kept (f n m)
  two-names n m f true c = refl
  two-names n m f false true = refl
  two-names n m f false false = refl

  pub one-part : (absent : A) (n : Part) (f : Part → A) (b : Bool)
      → on_free_part (pick b None (Some (Some n))) absent kept f ≡ pick (b || false) kept (f n)
  one-part absent n f true = refl
  one-part absent n f false = refl

  -- whatever it is
  pub same-part : (absent : A) (n : Part) (b : Bool) → on_free_part (pick b None (Some (Some n))) absent kept (λ n. kept) ≡ kept
  same-part absent n true = refl
  same-part absent n false = refl

-- ---- a chain of keys, screened: the first that stands there decides

module _ (s : Text) (bad : Read FieldDesc) (f : ℕ → Read FieldDesc) {x : Read (Option FieldDesc)} {r e : Option ℕ} where
  pub desc-found : {p : ℕ} → r ≡ e → r ≡ Some p → x ≡ screen_desc s (f p) → x ≡ screen_desc s (on_found e bad f)
  desc-found h k t = t ∙ ap (λ (e : Option ℕ). screen_desc s (on_found e bad f)) (sym k ∙ h)

  pub desc-no-found : r ≡ e → r ≡ None → x ≡ screen_desc s bad → x ≡ screen_desc s (on_found e bad f)
  desc-no-found h k t = t ∙ ap (λ (e : Option ℕ). screen_desc s (on_found e bad f)) (sym k ∙ h)

pub ruleset desc-chain = (desc-found, desc-no-found)
