-- `sizes::misstated` meets its contract.
-- Assumes nothing.
use Rattle.std.proofs.Common.{rules}
use Rattle.std.proofs.lemmas.Iterator.{YieldsList-from_range}
use borrow.Author.Tests.{tests}
use mathlib.Core.Path.{refl}
use native.Mathlib.Nat.{sub-zero}
use Rattle.tables.proofs.Walks.{any_turns}
use Rattle.sizes.specs.Answers.{misstated_row, misstated_rows}
use Rattle.sizes.proofs.Stated.{listed}
use Rattle.sizes.proofs.misstated.Goals as goal

pub returns : goal.returns
unfolding misstated_rows
returns c =
    any_turns (listed c.args.t.now.rows) misstated_row 0 c.args.n _ _ _
    c.any.ensures.ran (YieldsList-from_range 0 c.args.n c.args.n refl (sub-zero c.args.n)) refl (λ k b q h. search (rules, tests))
