-- `sizes::ragged` meets its contract.
-- Assumes nothing.
use Rattle.std.proofs.Common.{rules}
use Rattle.std.proofs.lemmas.Iterator.{YieldsList-from_range}
use borrow.Author.Tests.{tests}
use mathlib.Core.Path.{refl}
use native.Mathlib.Nat.{sub-zero}
use Rattle.definitions.specs.Refusals.{ragged}
use Rattle.tables.proofs.Walks.{any_turns}
use Rattle.sizes.proofs.WholeBytes.{entries, ragged_entry, entry-tested}
use Rattle.sizes.proofs.ragged.Goals as goal

pub returns : goal.returns
unfolding ragged
returns c =
    any_turns (entries c.args.t.now.source c.args.t.now.rows c.args.t.now.values c.args.t.now.fields) (ragged_entry c.args.t.now.source c.args.t.now.rows c.args.t.now.values c.args.t.now.fields) 0 c.args.n _ _ _
    c.any.ensures.ran (YieldsList-from_range 0 c.args.n c.args.n refl (sub-zero c.args.n)) refl (λ k b q h. search (entry-tested, rules, tests))
