-- The statements that the arrays of both modes share, over the by-value terms and amounts.
-- Assumes nothing.
use Rattle.definitions.specs.Bytes.{Text}
use Rattle.definitions.specs.Lines.{Test, Line, Stmt}
use Rattle.definitions.specs.Blocks.{span, check_size, check_product}
use Rattle.definitions.specs.declared.Products.{Products}
use Rattle.definitions.specs.declared.Arrays.{Arrays}
use Rattle.expressions.specs.Amounts.{term_of, amount_of}
use Rattle.expressions.specs.declared.Term.{Term}
use Rattle.expressions.specs.declared.Amount.{Amount}

-- `if ((s % e) != 0) {` ..
abbrev pub ragged_test : Arrays → Text → Term → Term → Stmt
ragged_test m id s e = Stmt.one (Line.check 4 (Test.ragged (term_of m id s) (term_of m id e)))

-- `if (e == 0 || (s % e) != 0) {` ..
abbrev pub ragged_or_zero_test : Arrays → Text → Term → Stmt
ragged_or_zero_test m id s = Stmt.one (Line.check 4 (Test.ragged_or_zero (term_of m id s) (term_of m id Term.ElementSize)))

-- `span.skip(e);`
abbrev pub skip_stmt : Arrays → Text → Amount → Stmt
skip_stmt m id a = Stmt.one (Line.skip span (amount_of m id a))

-- `if (span.size() < e) {` ..
abbrev pub check_stmt : Arrays → Text → Amount → Stmt
check_stmt m id a = Stmt.one (check_size (amount_of m id a))

-- the check of e * n bytes, by their product or by a division
abbrev pub product_stmt : Products → Arrays → Text → Term → Term → Stmt
product_stmt o m id e n = Stmt.one (check_product o (term_of m id e) (term_of m id n))

-- `if (e != 0 && span.size() / e < n) {` ..
abbrev pub divided_stmt : Arrays → Text → Term → Term → Stmt
divided_stmt m id e n = product_stmt Products.Divide m id e n
