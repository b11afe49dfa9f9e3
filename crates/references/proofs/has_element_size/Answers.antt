-- `references::has_element_size` meets its contract.
-- Assumes nothing.
use Rattle.std.proofs.Common.{rules, ◌*◌}
use Rattle.std.proofs.lemmas.Iterator.{YieldsList-from_range}
use borrow.Author.Tests.{tests}
use mathlib.Core.Path.{refl}
use native.Mathlib.Nat.{sub-zero}
use Rattle.definitions.specs.Sizes.{is_element_size, reference}
use Rattle.tables.proofs.Walks.{by_index, fields-all, any_turns}
use Rattle.references.proofs.has_element_size.Goals as goal

pub returns : goal.returns
returns c =
    any_turns (by_index c.args.t.now.values c.args.t.now.fields (c.args.i * 64)) (λ f. is_element_size c.args.t.now.source c.args.id (reference f.desc)) 0
    c.args.n _ _ _ c.any.ensures.ran (YieldsList-from_range 0 c.args.n c.args.n refl (sub-zero c.args.n))
    (fields-all _ _ _ c.args.n) (λ k b q h. search (rules, tests))
