use Rattle.elements.proofs.Laws.{element-span}
use Rattle.std.proofs.Common.{rules}
use Rattle.elements.proofs.put_element_span.Goals as goal

pub returns : goal.returns
returns c = search (element-span, rules)
