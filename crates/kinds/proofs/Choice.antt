-- The choice of a kind by the word behind `field=` is the choice by the whole line (`desc_at`): `field=` is read once.
-- Assumes nothing.
use Rattle.std.specs.Prelude.{Option, Some, None}
use Rattle.definitions.specs.Record.{Read, key_of, key_at, on_found, Kinds, choose, desc_at}
use Rattle.definitions.specs.declared.FieldDesc.{FieldDesc}
use Prim.Native.Nat.{ℕ, suc, ◌+◌}
use mathlib.Core.Bool.{Bool, true, false}
use mathlib.Core.List.{[], ◌∷◌, ◌++◌}
use mathlib.Core.Path.{◌≡◌, refl, sym, ap, ◌∙◌}
use native.Mathlib.Nat.{add-zero}
use native.Mathlib.Omega.{arith}
use lib.Dec.{eqb}
use lib.ListN.{length, drop}
use lib.Seq.{drop-drop}
use Rattle.definitions.specs.Bytes.{Text, text}
use Rattle.definitions.specs.declared.Part.{Part}
use Rattle.keywords.specs.Screens.{screen_desc}
use Rattle.kinds.specs.Words.{from_numbers}

-- a key is read in two pieces
key-append : (a k r : Text) (at : ℕ) → key_of (a ++ k) r at ≡ on_found (key_of a r at) None λ p. key_of k (drop (length a) r) p
unfolding key_of
key-append [] k r at = refl
key-append (x ∷ a) k [] at = refl
key-append (x ∷ a) k (y ∷ r) at = by (eqb y x) (key-append a k r (at + 1))
  where
    by : (b : Bool) → key_of (a ++ k) r (at + 1) ≡ on_found (key_of a r (at + 1)) None (λ p. key_of k (drop (length a) r) p)
        → ◌≡◌ {A = Option ℕ} (elim b [ true ↦ key_of (a ++ k) r (at + 1) | false ↦ None ])
        (on_found (elim b [ true ↦ key_of a r (at + 1) | false ↦ None ]) None λ p. key_of k (drop (length a) r) p)
    by true h = h
    by false h = refl

-- where it ends
key-end : (a r : Text) (at p : ℕ) → key_of a r at ≡ Some p → p ≡ at + length a
unfolding key_of
key-end [] r at p e = let q : at ≡ p = cc in sym q ∙ sym (add-zero at)
key-end (x ∷ a) [] at p e = absurd (let z : ◌≡◌ {A = ℕ} 0 1 = cc in omega arith)
key-end (x ∷ a) (y ∷ r) at p e = by (eqb y x) (key-end a r (at + 1) p) e
  where
    by : (b : Bool) → (key_of a r (at + 1) ≡ Some p → p ≡ at + 1 + length a)
        → elim b [ true ↦ key_of a r (at + 1) | false ↦ None ] ≡ Some p → p ≡ at + suc (length a)
    by true ih h = let q : p ≡ at + 1 + length a = ih h in omega arith
    by false ih h = absurd (let z : ◌≡◌ {A = ℕ} 0 1 = cc in omega arith)

-- kinds with a text before their words
prefixed : Text → Kinds → Kinds
prefixed a [] = []
prefixed a (k ∷ ks) = (a ++ k.0, k.1) ∷ prefixed a ks

choose-prefixed : (a : Text) (ks : Kinds) (s r : Text) (at : ℕ)
    → choose (prefixed a ks) s r at ≡ on_found (key_of a r at) None λ p. choose ks s (drop (length a) r) p
unfolding prefixed
choose-prefixed a [] s r at = by (key_of a r at)
  where
    by : (f : Option ℕ) → ◌≡◌ {A = Read FieldDesc} None (on_found f None λ p. None)
    by (Some p) = refl
    by None = refl
choose-prefixed a (k ∷ ks) s r at = rw (key-append a k.0 r at, choose-prefixed a ks s r at) (by (key_of a r at))
  where
    by : (f : Option ℕ)
        → on_found (on_found f None λ p. key_of k.0 (drop (length a) r) p)
        (on_found f None λ p. choose ks s (drop (length a) r) p) (λ p. k.1 s p)
        ≡ on_found f None λ p. on_found (key_of k.0 (drop (length a) r) p) (choose ks s (drop (length a) r) p) (λ q. k.1 s q)
    by (Some p) = refl
    by None = refl

module _ (s : Text) (at : ℕ) {f : Option ℕ} (ef : f ≡ key_at s at (text "field=")) where
  abbrev words : Option ℕ → Read FieldDesc
  words g = on_found g None λ p. choose from_numbers s (drop 6 (drop at s)) p

  by-words : desc_at s at ≡ words f
  unfolding desc_at prefixed
  by-words = choose-prefixed (text "field=") from_numbers s (drop at s) at ∙ ap words (sym ef)

  pub no_field : f ≡ None → None ≡ screen_desc s (desc_at s at)
  no_field h = sym (ap (screen_desc s) (by-words ∙ ap words h))

  pub by_word : {p : ℕ} → f ≡ Some p → {d : Read (Option FieldDesc)} → d ≡ screen_desc s (choose from_numbers s (drop p s) p) → d ≡ screen_desc s (desc_at s at)
  by_word {p} h e =
      e
      ∙ ap (λ (r : Text). screen_desc s (choose from_numbers s r p))
      (ap (λ (q : ℕ). drop q s) (key-end (text "field=") (drop at s) at p (sym ef ∙ h)) ∙ sym (drop-drop 6 at s))
      ∙ sym (ap (screen_desc s) (by-words ∙ ap words h))
