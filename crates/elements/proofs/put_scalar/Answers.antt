use Rattle.elements.proofs.Laws.{scalar-line}
use Rattle.std.proofs.Common.{rules}
use Rattle.elements.proofs.put_scalar.Goals as goal

pub returns : goal.returns
returns c = search (scalar-line, rules)
