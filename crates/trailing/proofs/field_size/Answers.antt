-- `trailing::field_size` meets its contract.
-- Assumes nothing.
use Rattle.emits.proofs.Fines.{read-fine, read-size}
use borrow.Author.Rules.{rules}
use Rattle.trailing.proofs.field_size.Goals as goal

pub field_size-requires : goal.field_size-requires
field_size-requires c = search (read-fine, read-size, c.args.t.now.fine, rules)
