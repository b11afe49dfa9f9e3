-- `conditions::is_cond_for` meets its contract.
-- Assumes nothing.
use Rattle.std.proofs.Common.{rules}
use Rattle.std.proofs.lemmas.Iterator.{YieldsList-from_slice}
use Rattle.std.proofs.lemmas.Iterator.Search.{any_from_yields_List}
use borrow.Author.Tests.{tests}
use Rattle.definitions.specs.Sizes.{same_name}
use Rattle.conditions.specs.IfNames.{is_cond_in}
use Rattle.conditions.proofs.is_cond_for.Goals as goal

pub returns : goal.returns
unfolding is_cond_in
returns c =
    any_from_yields_List (λ name. same_name c.args.rec.now name c.args.id) _ _ _ c.any.ensures.ran
    (YieldsList-from_slice c.args.conds.now cc) (λ k b q h. search (rules, tests))
