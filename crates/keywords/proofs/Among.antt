-- The turns and the ends of the loop over words of one length (`pieces`).
-- Assumes nothing.
use Rattle.std.specs.Prelude.{Option, Some, None}
use Prim.Native.Nat.{ℕ, suc, ◌+◌, ◌*◌, ◌-◌, ◌≤◌, ◌<◌}
use mathlib.Core.Bool.{Bool, true, false, ◌&&◌, ◌||◌}
use mathlib.Core.List.{[], ◌∷◌}
use mathlib.Core.Path.{◌≡◌, refl, sym, ap, ◌∙◌}
use native.Mathlib.Omega.{arith}
use borrow.Author.Tests.{eqb-true, eqb-false, eq-eqb, ne_eqb}
use lib.Dec.{eqb}
use lib.ListN.{length, take, drop}
use lib.Seq.{drop-drop}
use Rattle.definitions.specs.Bytes.{Text, any, same}
use Rattle.definitions.specs.Record.{key_of, key_at, is_found}
use Rattle.keywords.specs.Pieces.{pieces}

turned : (a b : ℕ) → eqb a b ≡ eqb b a
turned a b = by (eqb b a) refl
  where
    by : (c : Bool) → eqb b a ≡ c → eqb a b ≡ c
    by true e = eq-eqb a b (sym (eqb-true b a e))
    by false e = ne_eqb a b (λ h. eqb-false b a e (sym h))

-- a word stands at a place where the next bytes are the same
key-same : (t r : Text) (at : ℕ) → same t (take (length t) r) ≡ is_found (key_of t r at)
unfolding key_of
key-same [] r at = refl
key-same (k ∷ t) [] at = refl
key-same (k ∷ t) (x ∷ r) at = rw (turned k x) (by (eqb x k) (key-same t r (at + 1)))
  where
    by : (b : Bool) → same t (take (length t) r) ≡ is_found (key_of t r (at + 1))
        → (b && same t (take (length t) r)) ≡ is_found (elim b [ true ↦ key_of t r (at + 1) | false ↦ None ])
    by true h = h
    by false h = refl

-- the words that are left from the place p on say what all of them say
pub record Left (words : Text) (count : ℕ) (t : Text) (p left : ℕ) : Type 0 where
  pub few : left ≤ count
  pub near : p ≤ (count - left) * 17
  pub rest : any (same t) (pieces left (length t) (drop p words)) ≡ any (same t) (pieces count (length t) words)

pub left-start : (words t : Text) (count : ℕ) → Left words count t 0 count
left-start words t count = record { few = omega arith; near = omega arith; rest = refl }

module _ (words : Text) (count : ℕ) (t : Text) (p left : ℕ) (l : Left words count t p left) where
  pub left-none : left ≤ 0 → false ≡ any (same t) (pieces count (length t) words)
  unfolding pieces
  left-none h = rw (let z : left ≡ 0 = omega arith in z) at l.rest

  module _ (h : 0 < left) {r : Option ℕ} (er : r ≡ key_at words p t) where
    more : left ≡ suc (left - 1)
    more = omega arith

    -- the first word, and those behind it
    abbrev ahead : Bool → Bool
    ahead b = b || any (same t) (pieces (left - 1) (length t) (drop (suc (length t)) (drop p words)))

    parted : ahead (is_found r) ≡ any (same t) (pieces count (length t) words)
    unfolding pieces
    parted = ap (λ (f : Option ℕ). ahead (is_found f)) er ∙ ap ahead (sym (key-same t (drop p words) p)) ∙ (rw (more, pieces) at l.rest)

    pub left-found : {q : ℕ} → r ≡ Some q → true ≡ any (same t) (pieces count (length t) words)
    left-found hr = sym (ap (λ (f : Option ℕ). ahead (is_found f)) hr) ∙ parted

    pub left-turn : r ≡ None → length t ≤ 16 → Left words count t (p + (length t + 1)) (left - 1)
    left-turn hr n = record {
      few = omega (arith, l.few);
      near = omega (arith, l.few, l.near);
      rest =
          ap (λ (x : Text). any (same t) (pieces (left - 1) (length t) x)) (ap (λ (k : ℕ). drop k words) place ∙ sym (drop-drop (suc (length t)) p words))
          ∙ sym (ap (λ (f : Option ℕ). ahead (is_found f)) hr) ∙ parted;
    }
      where
        place : p + (length t + 1) ≡ p + suc (length t)
        place = omega arith
