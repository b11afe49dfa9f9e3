-- `slots::count_possibilities` meets its contract: there is a possibility more than there are separators.
-- Assumes nothing.
use Rattle.std.proofs.Common.{rules, tests, arith, ◌≡◌, nat_eq}
use Rattle.std.specs.List.{filter}
use lib.ListN.{length}
use Rattle.std.proofs.lemmas.Iterator.{YieldsList-from_slice}
use Rattle.std.proofs.lemmas.Iterator.Consumers.{YieldsList-from_filter, count_from_yields_List}
use Rattle.slots.proofs.Parting.{count-pieces}
use Rattle.slots.proofs.count_possibilities.Goals as goal

pub returns : goal.returns
returns c =
    let counted : c.count.result ≡ length (filter (λ x. nat_eq x 124) c.args.slot.now) =
    count_from_yields_List c.filter.result c.count.result c.count.ensures.ran
    (YieldsList-from_filter _ _ (YieldsList-from_slice c.args.slot.now cc) c.filter.ensures.closure λ x b q k. search (rules, tests)) in
    omega (arith, counted, count-pieces 124 c.args.slot.now)
