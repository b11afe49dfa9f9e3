-- `annotate::padded_size` meets its contract.
-- Assumes nothing.
use Rattle.annotate.proofs.FieldSizes.{padded-none, padded-past, padded-other, padded-next}
use borrow.Author.Rules.{rules}
use borrow.Author.Tests.{tests}
use Rattle.annotate.proofs.padded_size.Goals as goal

pub returns-then-n-k : goal.returns-then-n-k
returns-then-n-k c = search (padded-none, padded-past, padded-other, padded-next, rules, tests)

pub returns-then-kind_here-ne-KIND_PADDING : goal.returns-then-kind_here-ne-KIND_PADDING
returns-then-kind_here-ne-KIND_PADDING c = search (padded-none, padded-past, padded-other, padded-next, rules, tests)

pub returns : goal.returns
returns c = search (padded-none, padded-past, padded-other, padded-next, rules, tests)
