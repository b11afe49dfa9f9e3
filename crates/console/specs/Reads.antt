-- What reading promises: how many bytes came, where they end, and which bytes stay; and, of a reader whose bytes are known, which bytes came.
-- Assumes nothing.
use Rattle.std.specs.Prelude.{ℕ, ◌≤◌, ◌<◌, List, ◌≡◌, length, take, drop, Option}
use Rattle.std.specs.Io.KnownBytes.{Consumes, IsAtEnd}
use Rattle.console.specs.declared.Input.{Input}

-- a buffer of `room` bytes, filled behind its first `at`: it is full, or the input ended before
abbrev pub FilledTo : Input → ℕ → ℕ → Type 0
FilledTo (Input.Full n) at room = n ≡ room
FilledTo (Input.Ended n) at room = (at ≤ n) × (n < room)
FilledTo Input.Failed at room = Unit {0}

-- the same, and its first `at` bytes are those that it had
pub record Filled (r : Input) (at : ℕ) (buf left : List ℕ) : Type 0 where
  pub ends : FilledTo r at (length buf)
  pub long : length left ≡ length buf
  pub kept : take at left ≡ take at buf

-- what stands behind the first `at` bytes are the first that the reader had: all of them where the input ended; after a failure up to some place
abbrev pub FilledFrom : Input → ℕ → Option (List ℕ) → Option (List ℕ) → List ℕ → Type 0
FilledFrom (Input.Full n) at old new left = Consumes old new (drop at left)
FilledFrom (Input.Ended n) at old new left = Consumes old new (drop at (take n left)) × IsAtEnd new
FilledFrom Input.Failed at old new left = (n : ℕ) × Consumes old new (drop at (take n left))

-- some of the first bytes are gone, and no others
abbrev pub Skips : Option (List ℕ) → Option (List ℕ) → Type 0
Skips old new = (bs : List ℕ) × Consumes old new bs
