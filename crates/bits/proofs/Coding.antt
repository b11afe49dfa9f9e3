-- Sizes as numbers of a table: exact for what is not large.
-- Assumes nothing.
use Prim.Native.Nat.{ℕ, ◌+◌, ◌≤◌, ◌<◌, ◌^◌}
use mathlib.Core.Bool.{Bool, true, false}
use mathlib.Core.List.{List}
use mathlib.Core.Path.{◌≡◌, refl, sym, ap, ◌∙◌}
use native.Mathlib.Omega.{arith}
use borrow.Author.Tests.{lt-ltb, le-ltb, eq-eqb, ne_eqb, ltb-true, ltb-false}
use lib.Dec.{ltb, eqb}
use lib.ListN.{length, get_or, set, get_or-eq_default}
use lib.Seq.{set_out}
use Rattle.definitions.specs.Sizes.{add_size, static_width}
use Rattle.definitions.specs.Refusals.{large_size}
use Rattle.definitions.specs.Tables.{encode, decode}
use Rattle.definitions.specs.declared.Size.{Size}

module _ {n : ℕ} where
  pub decode-static : n < 2147483648 → Size.Static n ≡ decode n
  unfolding decode
  decode-static h = rw (decode, lt-ltb n 2147483648 h)

  module _ (h : 2147483648 ≤ n) where
    pub decode-dynamic : n ≡ 2147483648 → Size.Dynamic ≡ decode n
    unfolding decode
    decode-dynamic e = rw (decode, le-ltb n 2147483648 h, eq-eqb n 2147483648 e)

    pub decode-unknown : (n ≡ 2147483648 → ⊥) → Size.Unknown ≡ decode n
    unfolding decode
    decode-unknown e = rw (decode, le-ltb n 2147483648 h, ne_eqb n 2147483648 e)

pub decode-outside : (l : List ℕ) (i : ℕ) {r : Size} → length l ≤ i → r ≡ decode 0 → r ≡ decode (get_or l i 0)
decode-outside l i h e = e ∙ ap decode (sym (get_or-eq_default l 0 h))

pub set-outside : (l : List ℕ) (i v : ℕ) → length l ≤ i → l ≡ set l i v
set-outside l i v h = sym (set_out l i v h)

pub set-as : (l : List ℕ) (i : ℕ) {v w : ℕ} → v ≡ w → set l i v ≡ set l i w
set-as l i e = ap (set l i) e

-- what is not large is coded exactly
pub coded : (z : Size) → large_size z ≡ false → decode (encode z) ≡ z
unfolding decode
coded (Size.Static n) h = sym (decode-static (omega (arith, ltb-false 2147483647 n h)))
coded Size.Dynamic h = refl
coded Size.Unknown h = refl

pub decode-low : (n : ℕ) → static_width (decode n) ≤ 2147483647
unfolding decode
decode-low n = by (ltb n 2147483648) refl
  where
    other : (b : Bool) → static_width (elim b [ true ↦ Size.Dynamic | false ↦ Size.Unknown ]) ≤ 2147483647
    other true = omega arith
    other false = omega arith

    by : (b : Bool) → ltb n 2147483648 ≡ b
        → static_width (elim b [ true ↦ Size.Static n | false ↦ elim (eqb n 2147483648) [ true ↦ Size.Dynamic | false ↦ Size.Unknown ] ]) ≤ 2147483647
    by true e = omega (arith, ltb-true n 2147483648 e)
    by false e = other (eqb n 2147483648)

-- ---- sums of what the tables give

pub add_low : (a b : Size) → static_width (add_size a b) ≤ static_width a + static_width b
add_low (Size.Static x) (Size.Static y) = omega arith
add_low (Size.Static x) Size.Dynamic = omega arith
add_low (Size.Static x) Size.Unknown = omega arith
add_low Size.Dynamic (Size.Static y) = omega arith
add_low Size.Dynamic Size.Dynamic = omega arith
add_low Size.Dynamic Size.Unknown = omega arith
add_low Size.Unknown (Size.Static y) = omega arith
add_low Size.Unknown Size.Dynamic = omega arith
add_low Size.Unknown Size.Unknown = omega arith

module _ {a b : Size} (u v : ℕ) (ea : a ≡ decode u) (eb : b ≡ decode v) where
  pub two-fit : static_width a + static_width b < 2 ^ 64
  two-fit = rw (ea, eb) (omega (arith, decode-low u, decode-low v))

  pub three-fit : {c x : Size} (w : ℕ) → c ≡ decode w → x ≡ add_size a b → static_width x + static_width c < 2 ^ 64
  three-fit w ec ex =
      rw (ex, ea, eb, ec) (omega (arith, add_low (decode u) (decode v), decode-low u, decode-low v, decode-low w))
