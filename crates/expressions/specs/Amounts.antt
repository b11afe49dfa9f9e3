-- The definitions' expressions that the by-value terms and amounts stand for.
-- Assumes nothing.
use Rattle.std.specs.Prelude.{◌++◌, ℕ, ◌/◌}
use Rattle.definitions.specs.Bytes.{Text, text, decimal}
use Rattle.definitions.specs.Lines.{Expr}
use Rattle.definitions.specs.Blocks.{span, named, bare, get_cxx_scalar_type}
use Rattle.definitions.specs.declared.Arrays.{Arrays}
use Rattle.expressions.specs.declared.Term.{Term}
use Rattle.expressions.specs.declared.Amount.{Amount}

abbrev pub term_of : Arrays → Text → Term → Expr
term_of m id (Term.Literal n) = Expr.lit n
term_of m id Term.Rest = Expr.size span
term_of m id Term.Size = Expr.var (named m id (text "_size_"))
term_of m id Term.Count = Expr.var (named m id (text "_count_"))
term_of m id Term.ElementSize = Expr.var (named m id (text "_element_size_"))
term_of m id Term.OwnCount = Expr.var (bare id (text "_count_"))

abbrev pub amount_of : Arrays → Text → Amount → Expr
amount_of m id (Amount.Of a) = term_of m id a
amount_of m id (Amount.Product a b) = Expr.mul (term_of m id a) (term_of m id b)
amount_of m id (Amount.Quotient a b) = Expr.div (term_of m id a) (term_of m id b)
amount_of m id (Amount.Remainder a b) = Expr.rem (term_of m id a) (term_of m id b)

-- `W_t, N>()` of so many bits, between two pieces
unfoldable pub sized_read : Text → ℕ → Text → Text
sized_read before w behind = before ++ (decimal (get_cxx_scalar_type w) ++ (text "_t, " ++ (decimal (w / 8) ++ (text ">()" ++ behind))))
