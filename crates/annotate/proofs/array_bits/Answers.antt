-- `annotate::array_bits` meets its contract.
-- Assumes nothing.
use Rattle.annotate.proofs.FieldSizes.{array-given}
use borrow.Author.Rules.{rules}
use Rattle.annotate.proofs.array_bits.Goals as goal

pub returns-in-None-default-default : goal.returns-in-None-default-default
returns-in-None-default-default c = search (array-given, rules)
