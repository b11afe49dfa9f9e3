-- `keywords::is_keyword` meets its contract, by the laws of Lists.
-- Assumes nothing.
use Rattle.keywords.proofs.Lists.{none-empty, too_long, not_first}
use borrow.Author.Rules.{rules}
use Rattle.keywords.proofs.is_keyword.Goals.{then-n-eq0-via-then-n-eq0, then-n-eq0-via-else-n-eq0+then-n-gt16}
use Rattle.keywords.proofs.is_keyword.Goals as goal

pub returns-then-n-eq0 : goal.returns-then-n-eq0
returns-then-n-eq0 c = elim c.then-n-eq0.branch [
  | then-n-eq0-via-then-n-eq0 w ↦ none-empty _ w.if-n-eq0.true
  | then-n-eq0-via-else-n-eq0+then-n-gt16 w ↦ too_long _ w.if-n-gt16.true
]

pub returns-else-may_be : goal.returns-else-may_be
returns-else-may_be c = search (not_first, rules)
