-- `annotate::desc_size` meets its contract.
-- Assumes nothing.
use Rattle.bits.proofs.Caps.{zero-capped}
use Rattle.annotate.proofs.FieldSizes.{desc-as, static-capped, given-capped, total-capped, one-capped}
use Rattle.definitions.specs.Sizes.{desc_size}
use borrow.Author.Rules.{rules}
use borrow.Author.Tests.{tests}
use Rattle.annotate.proofs.desc_size.Goals as goal

pub returns-in-Checksum : goal.returns-in-Checksum
unfolding desc_size
returns-in-Checksum c = search (desc-as, static-capped, given-capped, total-capped, zero-capped, one-capped, rules, tests)

pub returns-in-Flag : goal.returns-in-Flag
unfolding desc_size
returns-in-Flag c = search (desc-as, static-capped, given-capped, total-capped, zero-capped, one-capped, rules, tests)

pub returns-in-Body : goal.returns-in-Body
unfolding desc_size
returns-in-Body c = search (desc-as, static-capped, given-capped, total-capped, zero-capped, one-capped, rules, tests)

pub returns-in-Array : goal.returns-in-Array
unfolding desc_size
returns-in-Array c = search (desc-as, static-capped, given-capped, total-capped, zero-capped, one-capped, rules, tests)

pub returns-in-FixedEnum : goal.returns-in-FixedEnum
unfolding desc_size
returns-in-FixedEnum c = search (desc-as, static-capped, given-capped, total-capped, zero-capped, one-capped, rules, tests)

pub returns-in-Size : goal.returns-in-Size
unfolding desc_size
returns-in-Size c = search (desc-as, static-capped, given-capped, total-capped, zero-capped, one-capped, rules, tests)
