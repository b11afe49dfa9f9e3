-- `references::first_count` meets its contract.
-- Assumes nothing.
use Rattle.references.proofs.Turns.{count-end, count-found, count_turn}
use borrow.Author.Rules.{rules}
use Rattle.references.proofs.first_count.Goals as goal

pub returns-then-ne : goal.returns-then-ne
returns-then-ne c = search (count-found, rules)

pub loop-k-preserved : goal.loop-k-preserved
loop-k-preserved c = search (count_turn, rules)

pub returns : goal.returns
returns c = search (count-end, rules)
