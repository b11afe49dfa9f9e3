-- `ranges::bad_fields` meets its contract, by the laws of Tests.
-- Assumes nothing.
use Rattle.std.proofs.Common.{rules, ◌+◌}
use Rattle.std.proofs.lemmas.Iterator.{YieldsList-from_range}
use borrow.Author.Tests.{tests}
use mathlib.Core.Path.{refl}
use native.Mathlib.Omega.{arith}
use Rattle.tables.proofs.Walks.{by_place, any_turns}
use Rattle.ranges.specs.Ranges.{bad_field}
use Rattle.ranges.proofs.bad_fields.Goals as goal

pub returns : goal.returns
returns c =
    any_turns (by_place c.args.t.now.values c.args.t.now.fields) bad_field c.args.base c.args.n _ _ _ c.any.ensures.ran
    (YieldsList-from_range c.args.base (c.args.base + c.args.n) c.args.n refl (omega arith)) refl (λ k b q h. search (rules, tests))
