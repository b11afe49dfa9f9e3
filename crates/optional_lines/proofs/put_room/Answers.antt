use Rattle.optional_lines.proofs.Optionals.{room-lines}
use borrow.Author.Rules.{rules}
use Rattle.optional_lines.proofs.put_room.Goals as goal

pub returns : goal.returns
returns c = search (room-lines, rules)
