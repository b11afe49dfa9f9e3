-- Backing types, by a table of 65 entries.
-- Assumes nothing.
use mathlib.Core.Path.{◌≡◌, sym, ap, ◌∙◌}
use mathlib.Core.Bool.{Bool}
use mathlib.Core.List.{List}
use Prim.Native.Nat.{ℕ, ◌≤◌, ◌<◌, ◌^◌}
use lib.Dec.{T, eqb, ltb, eqb→eq, ltb→lt}
use lib.ListN.{length, get_or}
use native.Mathlib.Omega.{arith}
use mir.Syntax.{w64}
use mir.Val.{Fits}
use borrow.Author.Tests.{lt-ltb, le-ltb}
use Rattle.definitions.specs.Blocks.{get_cxx_scalar_type}
use Rattle.text.proofs.Table.{every, entry}
use Rattle.text.specs.Widths.{scalar_type_of}
use Rattle.std.specs.Prelude.{Option, Some, None}

-- the entry of a width is the rule's value
abbrev agrees : ℕ → ℕ → Bool
agrees w bits = eqb bits (get_cxx_scalar_type w)

-- the entry of a width is a number of 64 bits
abbrev small : ℕ → ℕ → Bool
small w bits = ltb bits (2 ^ 64)

module _ (w : ℕ) where
  pub fits : w ≤ 64 → scalar_type_of w ≡ Some (get_cxx_scalar_type w)
  unfolding scalar_type_of
  fits h = rw (le-ltb 64 w h, scalar_type_of)

  -- a table of 65 entries
  module _ (types : List ℕ) (all : length types ≡ 65) (h : w ≤ 64) where
    listed : T (every agrees 0 types) → get_or types w 0 ≡ get_cxx_scalar_type w
    listed t = eqb→eq (get_or types w 0) (get_cxx_scalar_type w) (entry agrees types t w (omega (arith, all)))

    pub from-table : T (every agrees 0 types) → Some (get_or types w 0) ≡ scalar_type_of w
    from-table t = ap Some (listed t) ∙ sym (fits h)

    pub entry-fits : T (every small 0 types) → Fits w64 (get_or types w 0)
    entry-fits t = record { fits = ltb→lt (get_or types w 0) (2 ^ 64) (entry small types t w (omega (arith, all))) }

  pub too_wide : 64 < w → ◌≡◌ {A = Option ℕ} None (scalar_type_of w)
  unfolding scalar_type_of
  too_wide h = rw (lt-ltb 64 w h, scalar_type_of)
