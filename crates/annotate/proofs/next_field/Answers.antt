-- `annotate::next_field` meets its contract.
-- Assumes nothing.
use Rattle.annotate.proofs.Adding.{next-added}
use borrow.Author.Rules.{rules}
use Rattle.annotate.proofs.next_field.Goals as goal

pub returns : goal.returns
returns c = search (next-added, rules)
