-- `scope::unknown_name` meets its contract.
-- Assumes nothing.
use Rattle.std.proofs.Common.{rules, ◌∙◌}
use Rattle.std.proofs.lemmas.Iterator.{YieldsList-from_range}
use borrow.Author.Tests.{tests}
use mathlib.Core.Path.{refl}
use native.Mathlib.Nat.{sub-zero}
use Rattle.std.proofs.lemmas.Iterator.{serves_from_Range}
use Rattle.std.proofs.lemmas.Iterator.Search.{any_from_yields_List}
use Rattle.ranges.proofs.Tests.{few-index, few-fields}
use Rattle.scope.proofs.Unknown.{is_unknown, unknown-any}
use Rattle.scope.proofs.unknown_name.Goals as goal

pub any-requires-clause-callable : goal.any-requires-clause-callable
any-requires-clause-callable c =
    serves_from_Range (λ k q h. search (rules, tests)) (λ k a b. search (few-index, few-fields, rules))

pub returns : goal.returns
returns c =
    any_from_yields_List (is_unknown c.args.t.now.source c.args.t.now.rows c.args.t.now.values c.args.t.now.fields) _ _ _ c.any.ensures.ran
    (YieldsList-from_range 0 c.args.n c.args.n refl (sub-zero c.args.n)) (λ k b q h. search (rules, tests))
    ∙ unknown-any c.args.t.now.source c.args.t.now.rows c.args.t.now.values c.args.t.now.fields c.args.n
