use Rattle.elements.proofs.Laws.{open-line}
use Rattle.std.proofs.Common.{rules}
use Rattle.elements.proofs.put_open_enum.Goals as goal

pub returns : goal.returns
returns c = search (open-line, rules)
