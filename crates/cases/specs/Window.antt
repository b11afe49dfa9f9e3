-- The next case of a stream that arrives in pieces, in a window over it. Which bytes come, no contract can say; which of them stay, and what
-- case is found in them, is said here. Assumes nothing.
use Rattle.std.specs.Prelude.{Option, Some, None, Result, Ok, Err, true, false, ◌≡◌, ℕ, ◌-◌, ◌≤◌, min, eqb, length, take, drop}
use Rattle.definitions.specs.Bytes.{Text}
use Rattle.cases.specs.Form.{case_at}
use Rattle.cases.specs.declared.Broken.{Broken}
use Rattle.cases.specs.declared.Case.{Case}

-- how many bytes of a window stand from `at` up to `end`
abbrev pub unread : Text → ℕ → ℕ → ℕ
unread buf at end = min (end - at) (length buf - at)

-- these bytes come to the front, and behind them others, up to r
pub record Refilled (buf : Text) (at end r : ℕ) (left : Text) : Type 0 where
  pub long : length left ≡ length buf
  pub more : unread buf at end ≤ r
  pub fits : r ≤ length buf
  pub kept : take (unread buf at end) left ≡ take (unread buf at end) (drop at buf)

-- the next case and up to where the window is filled; none at the stream's end
abbrev pub Next : Type 0
Next = Result (Option (Case × ℕ)) Broken

-- what a window comes to that is filled up to `end` and holds all that the stream has left, or as much as it can
abbrev pub last_of : Result Case Broken → ℕ → Next
last_of (Ok case) end = Ok (Some (case, end))
last_of (Err Broken.Wrong) end = Err Broken.Wrong
last_of (Err Broken.Cut) end = elim (eqb end 0) [ true ↦ Ok None | false ↦ Err Broken.Cut ]

-- the case that begins at the front of a window that is filled again
pub record Again (buf : Text) (at end : ℕ) (r : Next) (left : Text) : Type 0 where
  pub filled : ℕ
  pub refilled : Refilled buf at end filled left
  pub next_is : r ≡ last_of (case_at (take filled left) 0) filled

-- the case that begins at `at` in a window that is filled up to `end`; where it is cut off, the window is filled again
abbrev pub NextOf : Result Case Broken → Text → ℕ → ℕ → Next → Text → Type 0
NextOf (Ok case) buf at end r left = (r ≡ Ok (Some (case, end))) × (left ≡ buf)
NextOf (Err Broken.Wrong) buf at end r left = (r ≡ Err Broken.Wrong) × (left ≡ buf)
NextOf (Err Broken.Cut) buf at end r left = Again buf at end r left

abbrev pub NextAt : Text → ℕ → ℕ → Next → Text → Type 0
NextAt buf at end r left = NextOf (case_at (take end buf) at) buf at end r left
