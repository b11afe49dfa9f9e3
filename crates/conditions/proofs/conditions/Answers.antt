-- `conditions::conditions` meets its contract, by the laws of Gathers.
-- Assumes nothing.
use Rattle.conditions.proofs.Gathers.{left_end, left-none, left-some}
use borrow.Author.Rules.{rules}
use Rattle.conditions.proofs.conditions.Goals as goal
use Rattle.conditions.proofs.conditions.Goals.{in-Some, in_default}

pub loop-k-preserved : goal.loop-k-preserved
loop-k-preserved c = elim c.match-cond_here.branch [
  | in-Some w ↦
      left-some _ _ _ _ _ c.loop-k.invariant (search rules) c.place_in-at.ensures (search rules) w.in-Some.is (search rules) w.conds-is w.m-is
  | in_default w ↦
      left-none _ _ _ _ _ c.loop-k.invariant (search rules) c.place_in-at.ensures {cond = c.cond_here.result} (search rules) (search rules) w.conds-is w.m-is
]

pub returns : goal.returns
returns c = search (left_end, rules)
