-- `scope::bad_types` meets its contract.
-- Assumes nothing.
use Rattle.std.proofs.Common.{rules, ◌+◌}
use Rattle.std.proofs.lemmas.Iterator.{YieldsList-from_range}
use borrow.Author.Tests.{tests}
use mathlib.Core.Path.{refl}
use native.Mathlib.Omega.{arith}
use Rattle.tables.proofs.Walks.{by_place, any_turns}
use Rattle.ranges.specs.Ranges.{bare}
use Rattle.scope.specs.Scopes.{bad_field_type}
use Rattle.scope.proofs.bad_types.Goals as goal

pub returns : goal.returns
returns c =
    any_turns (by_place c.args.t.now.values c.args.t.now.fields) (bad_field_type c.args.t.now.source (bare c.args.t.now.rows c.args.n)) c.args.base
    c.args.m _ _ _ c.any.ensures.ran
    (YieldsList-from_range c.args.base (c.args.base + c.args.m) c.args.m refl (omega arith)) refl (λ k b q h. search (rules, tests))
