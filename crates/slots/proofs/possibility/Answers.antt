-- `slots::possibility` meets its contract, by the laws of Parting.
-- Assumes nothing.
use Rattle.slots.proofs.Parting.{end_before, kth-end, kth-here, kth-separator, kth-other}
use borrow.Author.Rules.{rules}
use Rattle.slots.proofs.possibility.Goals as goal
use Rattle.slots.proofs.possibility.Goals.{then-slot-p-eq124, else-slot-p-eq124}

pub slice_bounds-result-end : goal.slice_bounds-result-end
slice_bounds-result-end c = search (end_before, rules)

pub returns-then-skip-eq0 : goal.returns-then-skip-eq0
returns-then-skip-eq0 c = search (kth-here, rules)

pub loop-p-preserved : goal.loop-p-preserved
loop-p-preserved c = elim c.if-slot-p-eq124.branch [ then-slot-p-eq124 w ↦ search (kth-separator, rules) | else-slot-p-eq124 w ↦ search (kth-other, rules) ]

pub returns : goal.returns
returns c = search (kth-end, rules)
