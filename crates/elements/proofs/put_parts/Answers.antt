use Rattle.elements.proofs.Laws.{in_parts}
use Rattle.std.proofs.Common.{rules}
use Rattle.elements.proofs.put_parts.Goals as goal

pub returns : goal.returns
returns c = search (in_parts, rules)
