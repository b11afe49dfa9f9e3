-- `scope::duplicate_name` meets its contract.
-- Assumes nothing.
use Rattle.std.proofs.Common.{rules, ◌∙◌}
use Rattle.std.proofs.lemmas.Iterator.{YieldsList-from_range}
use borrow.Author.Tests.{tests}
use mathlib.Core.Path.{refl}
use native.Mathlib.Nat.{sub-zero}
use Rattle.std.proofs.lemmas.Iterator.Search.{any_from_yields_List}
use Rattle.scope.proofs.Duplicates.{is_twice, twice-any}
use Rattle.scope.proofs.duplicate_name.Goals as goal

pub returns : goal.returns
returns c =
    any_from_yields_List (is_twice c.args.t.now.source c.args.t.now.rows c.args.n) _ _ _ c.any.ensures.ran
    (YieldsList-from_range 0 c.args.n c.args.n refl (sub-zero c.args.n)) (λ k b q h. search (rules, tests))
    ∙ twice-any c.args.t.now.source c.args.t.now.rows c.args.n
