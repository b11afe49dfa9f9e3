-- Slots that are written one behind the other, each by the choice in the state behind its step (`chosen`, `draw_slots`).
-- Assumes nothing.
use Prim.Native.Nat.{ℕ, ◌+◌, ◌-◌, ◌≤◌, ◌<◌}
use mathlib.Core.List.{List, [], ◌∷◌, map}
use mathlib.Core.Path.{◌≡◌, refl, sym, ap, ◌∙◌}
use native.Mathlib.Numerals.{add-one}
use native.Mathlib.Omega.{arith}
use lib.ListN.{length, get_or, take, drop, drop_of_length-le}
use lib.Seq.{drop-cons, drop-drop}
use Rattle.definitions.specs.Bytes.{Text}
use Rattle.grammar.specs.Choices.{next, choice, chosen, draw_slots}
use Rattle.text.specs.Put.{Put}
use Rattle.text.proofs.Puts.{chain, still, like, kept}
use Rattle.slots.specs.Pieces.{parted, slots, possibilities, up_to}
use Rattle.slots.specs.Draws.{Draws}
use Rattle.slots.proofs.Parting.{behind, first_piece}

-- the possibility that is chosen
pub slot-put : (slot : Text) (s : ℕ) {n k : ℕ} {x out left : Text} {at r : ℕ} → n ≡ length (possibilities slot) → k ≡ choice s n
    → x ≡ get_or (possibilities slot) k [] → Put out at x r left → Put out at (chosen s (possibilities slot)) r left
slot-put slot s {n} {k} hn hk hx put =
    like (hx ∙ ap (λ (j : ℕ). get_or (possibilities slot) j []) (hk ∙ ap (choice s) hn)) put

-- ---- one slot after the other: what stands in the family from p on is left

-- whatever puts what is left puts all, and the state behind what is left is the state behind all
pub record Left (family : Text) (state : ℕ) (out₀ : Text) (p s at : ℕ) (out : Text) : Type 0 where
  pub puts : (q : ℕ) (x : Text) → Put out at (draw_slots (map possibilities (parted 59 (drop p family))) s).drawn q x
      → Put out₀ 0 (draw_slots (slots family) state).drawn q x
  pub states : (draw_slots (map possibilities (parted 59 (drop p family))) s).state ≡ (draw_slots (slots family) state).state

pub all_left : (family : Text) (state : ℕ) (out : Text) → Left family state out 0 state 0 out
all_left family state out = record { puts = λ q x put. put; states = refl }

module _ (family : Text) (p s : ℕ) {e : ℕ} (ends : e ≡ p + up_to 59 (drop p family)) where
  abbrev slot : Text
  slot = take (e - p) (drop p family)

  here : parted 59 (drop p family) ≡ slot ∷ behind 59 (drop e family)
  here =
      first_piece 59 (drop p family)
      ∙ ap (λ (j : ℕ). take j (drop p family) ∷ behind 59 (drop (up_to 59 (drop p family)) (drop p family)))
      (let d : up_to 59 (drop p family) ≡ e - p = omega arith in d)
      ∙ ap (λ (l : Text). slot ∷ behind 59 l) (drop-drop (up_to 59 (drop p family)) p family ∙ ap (λ (j : ℕ). drop j family) (sym ends))

  last : length family ≤ e → parted 59 (drop p family) ≡ slot ∷ []
  last w = here ∙ rw (drop_of_length-le family w)

  more : e < length family → parted 59 (drop p family) ≡ slot ∷ parted 59 (drop (e + 1) family)
  more w = here ∙ rw (drop-cons family e 0 w, add-one e)

  module _ {state t at r : ℕ} {out₀ out out₁ : Text} (inv : Left family state out₀ p s at out) (steps : t ≡ next s)
      (put : Put out at (chosen t (possibilities slot)) r out₁) where
    stepped : Put out at (chosen (next s) (possibilities slot)) r out₁
    stepped = like (ap (λ (k : ℕ). chosen k (possibilities slot)) steps) put

    pub left_behind : e < length family → Left family state out₀ (e + 1) t r out₁
    unfolding draw_slots
    left_behind w = record {
      puts = λ q x later. inv.puts q x
          (like (sym (ap (λ (l : List Text). (draw_slots (map possibilities l) s).drawn) (more w)))
          (chain stepped (like (ap (λ (k : ℕ). (draw_slots (map possibilities (parted 59 (drop (e + 1) family))) k).drawn) steps) later)));
      states =
          ap (λ (k : ℕ). (draw_slots (map possibilities (parted 59 (drop (e + 1) family))) k).state) steps
          ∙ sym (ap (λ (l : List Text). (draw_slots (map possibilities l) s).state) (more w))
          ∙ inv.states;
    }

    pub all-drawn : length family ≤ e → Draws (draw_slots (slots family) state) out₀ r t out₁
    unfolding draw_slots
    all-drawn w = record {
      written = inv.puts r out₁
          (like (sym (ap (λ (l : List Text). (draw_slots (map possibilities l) s).drawn) (last w)))
          (chain stepped (still out₁ r (omega (arith, kept put, put.room)))));
      stepped = steps ∙ sym (ap (λ (l : List Text). (draw_slots (map possibilities l) s).state) (last w)) ∙ inv.states;
    }
