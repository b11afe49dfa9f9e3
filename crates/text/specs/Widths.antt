-- `get_cxx_scalar_type` with its panic as an answer: more than 64 bits are refused.
-- Assumes nothing.
use Rattle.std.specs.Prelude.{true, false, Option, Some, None, ℕ, ltb}
use Rattle.definitions.specs.Blocks.{get_cxx_scalar_type}

-- the bits of the backing type; more than 64 have none
unfoldable pub scalar_type_of : ℕ → Option ℕ
scalar_type_of w = elim (ltb 64 w) [ true ↦ None | false ↦ Some (get_cxx_scalar_type w) ]
