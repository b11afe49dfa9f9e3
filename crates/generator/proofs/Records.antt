-- The family of a number, and a record: the step that chooses, the family's slots, the empty line.
-- Assumes nothing.
use Prim.Native.Nat.{ℕ, ◌<◌}
use mathlib.Core.List.{List, [], ◌∷◌, ◌++◌, map}
use mathlib.Core.Path.{◌≡◌}
use native.Mathlib.Omega.{arith}
use lib.ListN.{length, get_or}
use Rattle.definitions.specs.Bytes.{Text}
use Rattle.text.specs.Put.{Put}
use Rattle.text.proofs.Puts.{chain}
use Rattle.grammar.specs.Choices.{next, choice, draw_slots, draw_from}
use Rattle.grammar.specs.Fragments.{slots_of}
use Rattle.grammar.specs.Families.{families}
use Rattle.grammar.specs.Load.{draw_record}
use Rattle.slots.specs.Draws.{Draws}

-- slots that are those of the i-th family
module _ {k : ℕ} {x : List (List Text)} where
  pub numbered : (i : ℕ) → k ≡ i → x ≡ get_or (map slots_of families) i [] → x ≡ get_or (map slots_of families) k []
  numbered i h d = rw h d

  -- the last one has no number of its own
  pub last : k < 8 → ((k ≡ 0 → ⊥) × (k ≡ 1 → ⊥) × (k ≡ 2 → ⊥) × (k ≡ 3 → ⊥) × (k ≡ 4 → ⊥) × (k ≡ 5 → ⊥) × (k ≡ 6 → ⊥))
      → x ≡ get_or (map slots_of families) 7 [] → x ≡ get_or (map slots_of families) k []
  last h n d = numbered 7 (omega (arith, h, n)) d

module _ (state k : ℕ) {s : ℕ} {x : List (List Text)} {out mid : Text} {e t : ℕ} (steps : s ≡ next state)
    (picks : k ≡ choice s (length (map slots_of families))) (is : x ≡ get_or (map slots_of families) k []) (drawn : Draws (draw_slots x s) out e t mid) where
  from : draw_slots x s ≡ draw_record state
  unfolding draw_from
  from = rw (is, picks, steps)

  pub record-put : {left : Text} {r : ℕ} → Put mid e (10 ∷ []) r left → Put out 0 ((draw_record state).drawn ++ (10 ∷ [])) r left
  record-put put = chain (rw from at drawn.written) put

  pub record-stepped : t ≡ (draw_record state).state
  record-stepped = rw from at drawn.stepped
