-- `trailing::later_size` meets its contract.
-- Assumes nothing.
use Rattle.emits.proofs.Fines.{read-fine, read-size}
use Rattle.trailing.proofs.Trailing.{later-plain, later-other, later-array}
use borrow.Author.Rules.{rules}
use Rattle.trailing.proofs.later_size.Goals as goal

pub field_size-size-requires : goal.field_size-size-requires
field_size-size-requires c = search (read-fine, read-size, later-plain, later-other, later-array, c.args.t.now.fine, rules)

pub returns-in-Padded : goal.returns-in-Padded
returns-in-Padded c = search (read-fine, read-size, later-plain, later-other, later-array, c.args.t.now.fine, rules)

pub returns-in-Plain : goal.returns-in-Plain
returns-in-Plain c = search (read-fine, read-size, later-plain, later-other, later-array, c.args.t.now.fine, rules)

pub returns-in-Plain-2 : goal.returns-in-Plain-2
returns-in-Plain-2 c = search (read-fine, read-size, later-plain, later-other, later-array, c.args.t.now.fine, rules)
