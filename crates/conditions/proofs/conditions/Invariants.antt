-- What the loop of `conditions::conditions` keeps from turn to turn.
-- Assumes nothing.
use Prim.Native.Nat.{◌*◌}
use Rattle.conditions.proofs.Gathers.{Left}
use Rattle.conditions.proofs.conditions.Given as goal

abbrev pub invariant-loop-k : goal.invariant-loop-k
invariant-loop-k l = Left l.t.values l.t.fields (l.i * 64) l.n l.initial.conds l.conds l.m l.k
