use Rattle.elements.proofs.Laws.{raw-lines}
use Rattle.std.proofs.Common.{rules}
use Rattle.elements.proofs.put_raw_value.Goals as goal

pub returns : goal.returns
returns c = search (raw-lines, rules)
