use Rattle.elements.proofs.Laws.{looped}
use Rattle.std.proofs.Common.{rules}
use Rattle.elements.proofs.put_elements.Goals as goal

pub returns : goal.returns
returns c = search (looped, rules)
