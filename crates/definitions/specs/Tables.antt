-- Sizes as numbers of the code's tables, and read back: a static one is at most 2 ^ 31 - 1 (refusal 7). No part of the answer; what else the tables hold
-- stands in the crate `tables`.
-- Assumes nothing.
use Rattle.std.specs.Prelude.{ℕ, ◌+◌, ◌^◌, true, false, ◌==◌, nat_lt}
use Rattle.definitions.specs.declared.Size.{Size}

abbrev pub encode : Size → ℕ
encode (Size.Static bits) = bits
encode Size.Dynamic = 2 ^ 31
encode Size.Unknown = 2 ^ 31 + 1

unfoldable pub decode : ℕ → Size
decode n = elim (nat_lt n (2 ^ 31)) [ true ↦ Size.Static n | false ↦ elim (n == 2 ^ 31) [ true ↦ Size.Dynamic | false ↦ Size.Unknown ] ]
