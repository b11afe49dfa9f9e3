-- `slots::put_slots` meets its contract, by the laws of Parting and Drawing.
-- Assumes nothing.
use Rattle.slots.proofs.Parting.{end-inside}
use Rattle.slots.proofs.Drawing.{all_left, left_behind, all-drawn}
use borrow.Author.Rules.{rules}
use Rattle.slots.proofs.put_slots.Goals as goal

pub loop-state-init : goal.loop-state-init
loop-state-init c = search (all_left, rules)

pub slice_bounds-put_slot-end : goal.slice_bounds-put_slot-end
slice_bounds-put_slot-end c = search (end-inside, rules)

pub returns-then-family-e : goal.returns-then-family-e
returns-then-family-e c = search (all-drawn, rules)

pub loop-state-preserved : goal.loop-state-preserved
loop-state-preserved c = search (left_behind, rules)
