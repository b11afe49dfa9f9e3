-- `scope::is_named` meets its contract.
-- Assumes nothing.
use Rattle.std.proofs.Common.{rules, [], ◌-◌}
use Rattle.std.proofs.lemmas.Iterator.{YieldsList-from_range}
use borrow.Author.Tests.{tests}
use mathlib.Core.Path.{refl}
use Rattle.tables.proofs.Walks.{declarations, any_turns}
use Rattle.scope.specs.Scopes.{has_name}
use Rattle.scope.proofs.is_named.Goals as goal

pub returns : goal.returns
returns c =
    any_turns (declarations c.args.t.now.rows [] []) (has_name c.args.t.now.source c.args.name) c.args.first (c.args.n - c.args.first) _ _ _ c.any.ensures.ran
    (YieldsList-from_range c.args.first c.args.n _ refl refl) refl (λ k b q h. search (rules, tests))
