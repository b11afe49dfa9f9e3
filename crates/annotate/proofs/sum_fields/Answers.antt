-- `annotate::sum_fields` meets its contract.
-- Assumes nothing.
use Rattle.annotate.proofs.Adding.{walk_end, walk_turn}
use borrow.Author.Rules.{rules}
use Rattle.annotate.proofs.sum_fields.Goals as goal

pub loop-k-preserved : goal.loop-k-preserved
loop-k-preserved c = search (walk_end, walk_turn, rules)

pub returns : goal.returns
returns c = search (walk_end, walk_turn, rules)
