-- What the loop of `tables::put_words` keeps from turn to turn.
-- Assumes nothing.
use Rattle.tables.proofs.Writing.{Left}
use Rattle.tables.proofs.put_words.Given as goal

abbrev pub invariant-loop-k : goal.invariant-loop-k
invariant-loop-k l = Left l.initial.t l.at l.words l.t l.k
