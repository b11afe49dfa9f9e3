use Rattle.elements.proofs.Laws.{closed-lines}
use Rattle.std.proofs.Common.{rules}
use Rattle.elements.proofs.put_closed_enum.Goals as goal

pub returns : goal.returns
returns c = search (closed-lines, rules)
