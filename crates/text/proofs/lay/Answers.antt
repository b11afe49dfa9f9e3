-- `text::lay` meets its contract, by the laws of the copy loop.
-- Assumes nothing.
use Rattle.text.proofs.Puts.{copied, all-copied}
use borrow.Author.Rules.{rules}
use Rattle.text.proofs.lay.Goals as goal

pub loop-i-preserved : goal.loop-i-preserved
loop-i-preserved c = (search rules, copied _ _ _ c.loop-i.i c.loop-i.invariant.1 (search rules))

pub returns : goal.returns
returns c = all-copied _ _ _ c.loop-i.i c.loop-i.invariant.1 (search rules) (search rules)
