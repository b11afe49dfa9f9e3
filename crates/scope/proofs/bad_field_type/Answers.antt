-- `scope::bad_field_type` meets its contract.
-- Assumes nothing.
use borrow.Author.Tests.{tests}
use Rattle.scope.proofs.Unknown.{type-none}
use borrow.Author.Rules.{rules}
use Rattle.scope.proofs.bad_field_type.Goals as goal

pub returns-else-kind_here-ge-KIND_FIXED_ENUM : goal.returns-else-kind_here-ge-KIND_FIXED_ENUM
returns-else-kind_here-ge-KIND_FIXED_ENUM c = search (type-none, tests, rules)
