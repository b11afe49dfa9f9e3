-- What writing a piece comes to: the next place, and what the buffer then holds. `sets` of lib.Seq writes the bytes whose place is inside the
-- buffer and no others, so one writing follows another without a condition on lengths.
-- Assumes nothing.
use Rattle.std.specs.Prelude.{List, ◌≡◌, ℕ, ◌+◌, ◌<◌, ◌^◌, min, max, length}
use Rattle.std.proofs.lemmas.List.Edits.{sets}

-- the place n bytes after at. A place stops at 2 ^ 63: no slice is so long
abbrev pub after : ℕ → ℕ → ℕ
after at n = max at (min (2 ^ 63) (at + n))

-- a piece was written into buf from at on: r comes next, and left is what buf then holds
pub record Put (buf : List ℕ) (at : ℕ) (piece : List ℕ) (r : ℕ) (left : List ℕ) : Type 0 where
  pub room : length buf < 2 ^ 63
  pub next : r ≡ after at (length piece)
  pub written : left ≡ sets buf at piece
