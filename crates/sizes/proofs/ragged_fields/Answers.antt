-- `sizes::ragged_fields` meets its contract.
-- Assumes nothing.
use Rattle.std.proofs.Common.{rules, ◌*◌}
use Rattle.std.proofs.lemmas.Iterator.{YieldsList-from_range}
use borrow.Author.Tests.{tests}
use mathlib.Core.Path.{refl}
use native.Mathlib.Nat.{sub-zero}
use Rattle.definitions.specs.Refusals.{ragged_field}
use Rattle.tables.specs.Tables.{rows_of}
use Rattle.tables.proofs.Walks.{by_index, fields-all, any_turns}
use Rattle.sizes.specs.Answers.{ragged_fields}
use Rattle.sizes.proofs.ragged_fields.Goals as goal

pub returns : goal.returns
unfolding ragged_fields
returns c =
    any_turns (by_index c.args.t.now.values c.args.t.now.fields (c.args.i * 64)) (ragged_field c.args.t.now.source (rows_of c.args.t.now c.args.i)) 0 c.args.n _ _ _
    c.any.ensures.ran (YieldsList-from_range 0 c.args.n c.args.n refl (sub-zero c.args.n)) (fields-all _ _ _ c.args.n) (λ k b q h. search (rules, tests))
