-- `chunks::check_size` meets its contract, by the law of proofs/Numbers.
-- Assumes nothing.
use Rattle.stream.specs.Stream.{check_text}
use Rattle.chunks.proofs.Numbers.{check_first}
use borrow.Author.Rules.{rules}
use Rattle.chunks.proofs.check_size.Goals as goal

pub returns-then-not-pending : goal.returns-then-not-pending
returns-then-not-pending c = search (check_first, rules)

pub returns-else-not-pending : goal.returns-else-not-pending
unfolding check_text
returns-else-not-pending c = search rules
