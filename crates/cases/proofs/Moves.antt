-- What `copy_within` moves to the front (`Slid`). Assumes nothing.
use Prim.Native.Nat.{ℕ, ◌-◌, ◌≤◌, min}
use mathlib.Core.List.{List}
use mathlib.Core.Path.{◌≡◌}
use native.Mathlib.Omega.{arith}
use lib.ListN.{length, drop}
use lib.Seq.{paste, paste-zero}
use Rattle.cases.specs.Form.{Slid}

module _ (b : List ℕ) (at end : ℕ) {there : ℕ} (t : there ≡ min end (length b)) where
  -- nothing is there
  pub slid-none : there ≤ at → Slid b at end 0 b
  slid-none h = record { count = omega (arith, t, h); moved = paste-zero b 0 (drop at b) }

  pub slid-all : {left : List ℕ} → left ≡ paste b 0 (drop at b) (there - at) → Slid b at end (there - at) left
  slid-all h = record { count = omega (arith, t); moved = h }

pub ruleset slides = (slid-none, slid-all)
