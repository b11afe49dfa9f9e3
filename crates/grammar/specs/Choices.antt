-- Document 02, Card 1: the state, a choice, and what is drawn from slots. A slot is the list of its possibilities.
-- Assumes nothing.
use Rattle.std.specs.Prelude.{List, [], ◌∷◌, ◌++◌, ℕ, ◌+◌, ◌*◌, ◌/◌, ◌%◌, ◌^◌, length, get_or}
use Rattle.definitions.specs.Bytes.{Text}

-- a step of the state
abbrev pub next : ℕ → ℕ
next s = (1664525 * s + 1013904223) % 2 ^ 32

-- the choice among `n`, counted from 0, in the state `s` behind its step: its top 16 bits modulo the number of choices
abbrev pub choice : ℕ → ℕ → ℕ
choice s n = s / 2 ^ 16 % n

-- the one of `xs` that is chosen in the state `s`
abbrev pub chosen : {A : Type 0} → ℕ → List (List A) → List A
chosen s xs = get_or xs (choice s (length xs)) []

-- what is drawn, and the state behind it
pub record Drawn : Type 0 where
  pub drawn : Text
  pub state : ℕ

-- each slot takes a step, also one with a single possibility, and gives the possibility that is chosen
unfoldable pub draw_slots : List (List Text) → ℕ → Drawn
draw_slots [] s = record { drawn = []; state = s }
draw_slots (slot ∷ rest) s =
    let later = draw_slots rest (next s) in record { drawn = chosen (next s) slot ++ later.drawn; state = later.state }

-- a step chooses among families of slots; then their slots
unfoldable pub draw_from : List (List (List Text)) → ℕ → Drawn
draw_from families s = draw_slots (chosen (next s) families) (next s)
