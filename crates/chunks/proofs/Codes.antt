-- `check_code`, by its tests; it is the stream's flush.
-- Assumes nothing.
use mathlib.Core.Bool.{Bool, true, false}
use mathlib.Core.List.{List, [], ◌∷◌}
use mathlib.Core.Path.{◌≡◌, refl, sym}
use Prim.Native.Nat.{ℕ}
use native.Mathlib.Omega.{arith}
use lib.ListN.{length}
use borrow.Author.Tests.{ne_eqb}
use Rattle.definitions.specs.Blocks.{Bit}
use Rattle.plans.specs.Told.{flush_verdict}
use Rattle.chunks.specs.Steps.{code_verdict}

-- the chunk has as many fields as its length says
pub code-flushes : (p : Bool) (bs : List Bit) (len : ℕ) → length bs ≡ len → code_verdict p len ≡ flush_verdict p bs
code-flushes false bs len e = refl
code-flushes true [] len e = rw (sym e) refl
code-flushes true (b ∷ bs) len e = rw (ne_eqb len 0 (λ q. omega (arith, q, e))) refl
