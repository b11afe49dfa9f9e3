-- `names::same_bytes` meets its contract, by the laws of Same.
-- Assumes nothing.
use Rattle.names.proofs.Same.{same-lengths, same_end, same-other, same_turn}
use borrow.Author.Rules.{rules}
use Rattle.names.proofs.same_bytes.Goals as goal

pub returns-then-a-b : goal.returns-then-a-b
returns-then-a-b c = search (same-lengths, rules)

pub returns-then-a-i : goal.returns-then-a-i
returns-then-a-i c = search (same-other, rules)

pub loop-i-preserved : goal.loop-i-preserved
loop-i-preserved c = search (same_turn, rules)

pub returns : goal.returns
returns c = search (same_end, rules)
