-- `rows::size_in` meets its contract.
-- Assumes nothing.
use Rattle.rows.proofs.Lookup.{size-past, size-behind}
use borrow.Author.Rules.{rules}
use Rattle.rows.proofs.size_in.Goals as goal
use Rattle.rows.proofs.size_in.Goals.{then-n-i-via-then-n-i, then-n-i-via-else-n-i+then-n-k}

pub returns-then-n-i : goal.returns-then-n-i
returns-then-n-i c = elim c.then-n-i.branch [
  | then-n-i-via-then-n-i w ↦ search (size-past, rules)
  | then-n-i-via-else-n-i+then-n-k w ↦ search (size-behind, rules)
]
