-- `sizes::check_sizes` meets its contract.
-- Assumes nothing.
use Rattle.sizes.proofs.Verdicts.{checked-large, checked-fine}
use borrow.Author.Rules.{rules}
use Rattle.sizes.proofs.check_sizes.Goals as goal

pub returns-in_err-schema : goal.returns-in_err-schema
returns-in_err-schema c = search (checked-large, checked-fine, rules)

pub returns : goal.returns
returns c = search (checked-large, checked-fine, rules)
