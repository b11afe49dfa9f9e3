-- `ranges::out_of_range` meets its contract, by the laws of Tests.
-- Assumes nothing.
use Rattle.std.proofs.Common.{rules, ◌∙◌}
use Rattle.std.proofs.lemmas.Iterator.{YieldsList-from_range}
use borrow.Author.Tests.{tests}
use mathlib.Core.Path.{refl}
use native.Mathlib.Nat.{sub-zero}
use Rattle.std.proofs.lemmas.Iterator.{serves_from_Range}
use Rattle.tables.proofs.Walks.{declarations, any_turns}
use Rattle.ranges.specs.Ranges.{bad_numbers}
use Rattle.ranges.proofs.Tests.{few-index, few-fields, none-outside}
use Rattle.ranges.proofs.out_of_range.Goals as goal

pub any-requires-clause-callable : goal.any-requires-clause-callable
any-requires-clause-callable c =
    serves_from_Range (λ k q h. search (rules, tests)) (λ k a b. search (few-index, few-fields, rules))

pub returns : goal.returns
returns c =
    any_turns (declarations c.args.t.now.rows c.args.t.now.values c.args.t.now.fields) bad_numbers 0 c.args.n _ _ _ c.any.ensures.ran
    (YieldsList-from_range 0 c.args.n c.args.n refl (sub-zero c.args.n)) refl (λ k b q h. search (rules, tests))
    ∙ none-outside _
