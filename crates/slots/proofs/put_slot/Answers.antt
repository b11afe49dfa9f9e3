-- `slots::put_slot` meets its contract, by the laws of Parting and Drawing.
-- Assumes nothing.
use Rattle.slots.proofs.Parting.{counted}
use Rattle.slots.proofs.Drawing.{slot-put}
use borrow.Author.Rules.{rules}
use Rattle.slots.proofs.put_slot.Goals as goal

pub choice-requires : goal.choice-requires
choice-requires c = search (counted, rules)

pub returns : goal.returns
returns c = search (slot-put, rules)
