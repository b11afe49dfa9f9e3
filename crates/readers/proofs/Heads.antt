-- The head, by the word that its lines choose and by whether its target is a keyword (`head_at`).
-- Assumes nothing.
use Rattle.std.specs.Prelude.{Option, Some, None}
use Rattle.std.proofs.lemmas.Option.{some_pair_parts}
use Rattle.definitions.specs.Record.{Read, on_found, on_read}
use Rattle.definitions.specs.declared.Head.{Head}
use Rattle.definitions.specs.declared.Options.{Options}
use Rattle.definitions.specs.declared.Part.{Part}
use Prim.Native.Nat.{ℕ}
use mathlib.Core.Bool.{Bool, true, false}
use mathlib.Core.Path.{◌≡◌, refl, sym, ap, ◌∙◌}
use native.Mathlib.Omega.{arith}
use Rattle.definitions.specs.Bytes.{Text, part, pick}
use Rattle.definitions.specs.Keywords.{is_keyword}
use Rattle.keywords.specs.Screens.{screen_name, screen_head}

-- what follows a line of two words
by-choice : {A B : Type 0} (one two : A) (bad : B) (f : A → ℕ → B) (a b : Option ℕ)
    → on_found a (on_found b bad λ p. f two p) (λ p. f one p) ≡ on_read (on_found a (on_found b None λ p. Some (two, p)) λ p. Some (one, p)) bad f
by-choice one two bad f (Some p) b = refl
by-choice one two bad f None (Some q) = refl
by-choice one two bad f None None = refl

pub chosen : {A B : Type 0} (one two : A) (bad : B) (f : A → ℕ → B) (a b : Option ℕ) {r : Read A}
    → r ≡ on_found a (on_found b None λ p. Some (two, p)) (λ p. Some (one, p)) → {x : A} {p : ℕ} → r ≡ Some (x, p)
    → f x p ≡ on_found a (on_found b bad λ p. f two p) (λ p. f one p)
chosen one two bad f a b e h = sym (by-choice one two bad f a b ∙ ap (λ (g : Read _). on_read g bad f) (sym e ∙ h))

-- what follows the target
module _ (s : Text) {r : Read (Option Part)} (f : Part → ℕ → Read Head) where
  pub target-free : (g : Read Part) → r ≡ screen_name s g → {n : Part} {p : ℕ} → r ≡ Some (Some n, p) → {o : Options} {next : ℕ}
      → f n p ≡ Some (record { options = o; target = n }, next)
      → ◌≡◌ {A = Read (Option Head)} (Some (Some (record { options = o; target = n }), next)) (screen_head s (on_read g None f))
  target-free None e h k = absurd (let q : ◌≡◌ {A = Read (Option Part)} _ None = sym h ∙ e in cc)
  target-free (Some (m, q)) e {n} {p} h {o} {next} k = by (is_keyword (part s m)) refl (sym h ∙ e)
    where
      by : (b : Bool) → is_keyword (part s m) ≡ b → ◌≡◌ {A = Read (Option Part)} (Some (Some n, p)) (Some (pick b None (Some m), q))
          → ◌≡◌ {A = Read (Option Head)} (Some (Some (record { options = o; target = n }), next)) (screen_head s (f m q))
      by true d z = absurd (let y = some_pair_parts _ _ _ _ z in cc)
      by false d z =
          let y = some_pair_parts _ _ _ _ z in
          let nm : n ≡ m = cc in
          let fm : f m q ≡ Some (record { options = o; target = n }, next) = cc in
          let t : is_keyword (part s n) ≡ false = cc in
          rw (fm, t)

  pub target-taken : (g : Read Part) → r ≡ screen_name s g → {p : ℕ} → ◌≡◌ {A = Read (Option Part)} r (Some (None, p)) → {o : Options} {next : ℕ}
      → ((n : Part) → f n p ≡ Some (record { options = o; target = n }, next)) → ◌≡◌ {A = Read (Option Head)} (Some (None, next)) (screen_head s (on_read g None f))
  target-taken None e h k = absurd (let q : ◌≡◌ {A = Read (Option Part)} _ None = sym h ∙ e in cc)
  target-taken (Some (m, q)) e {p} h {o} {next} k = by (is_keyword (part s m)) refl (sym h ∙ e)
    where
      by : (b : Bool) → is_keyword (part s m) ≡ b → ◌≡◌ {A = Read (Option Part)} (Some (None, p)) (Some (pick b None (Some m), q))
          → ◌≡◌ {A = Read (Option Head)} (Some (None, next)) (screen_head s (f m q))
      by true d z =
          let y = some_pair_parts _ _ _ _ z in
          let fm : f m q ≡ Some (record { options = o; target = m }, next) = rw (sym y.1) (k m) in
          rw (fm, d)
      by false d z = absurd (let y = some_pair_parts _ _ _ _ z in cc)
