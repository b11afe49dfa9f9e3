-- `places::fill` meets its contract, by the laws of Filling.
-- Assumes nothing.
use Rattle.std.proofs.lemmas.Result.{err_from_is_err_and}
use Rattle.places.proofs.Filling.{reading-out, last-free, last-met, turn, reading-wrong}
use borrow.Author.Rules.{rules}
use Rattle.places.proofs.fill.Goals as goal

pub returns-in_err-count : goal.returns-in_err-count
returns-in_err-count c =
    let p = err_from_is_err_and c.from_residual.result c.from_residual.ensures.1 in
    rw (p.1, p.2) (search (reading-wrong, c.in_err-count.was, rules))

pub returns-then-met : goal.returns-then-met
returns-then-met c = search (last-met, c.in_ok-count.was, rules)

pub returns-else-met : goal.returns-else-met
returns-else-met c = search (last-free, c.in_ok-count.was, rules)

pub loop-i-preserved : goal.loop-i-preserved
loop-i-preserved c = search (turn, c.in_ok-count.was, rules)

pub returns : goal.returns
returns c = search (reading-out, rules)
