-- `annotate::field_size` meets its contract.
-- Assumes nothing.
use Rattle.annotate.proofs.FieldSizes.{fine-size}
use borrow.Author.Rules.{rules}
use Rattle.annotate.proofs.field_size.Goals as goal

pub returns : goal.returns
returns c = search (fine-size, rules)
