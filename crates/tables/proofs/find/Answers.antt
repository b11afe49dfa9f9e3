-- `tables::find` meets its contract, by the laws of Search.
-- Assumes nothing.
use Rattle.std.proofs.Common.{rules}
use Rattle.std.proofs.lemmas.Iterator.{YieldsList-from_range}
use Rattle.std.proofs.lemmas.Iterator.Search.{find_from_yields_List}
use borrow.Author.Tests.{tests}
use mathlib.Core.Path.{refl}
use native.Mathlib.Nat.{sub-zero}
use Rattle.tables.proofs.Search.{is_named, which-first}
use Rattle.tables.proofs.find.Goals as goal

pub returns : goal.returns
returns c =
    which-first c.args.t.now.source c.args.t.now.rows c.args.name c.args.n
    (find_from_yields_List (is_named c.args.t.now.source c.args.t.now.rows c.args.name) _ _ _ c.find.ensures.ran
    (YieldsList-from_range 0 c.args.n c.args.n refl (sub-zero c.args.n)) (λ k b q h. search (rules, tests)))
