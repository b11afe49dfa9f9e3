use Rattle.elements.proofs.Laws.{parsed-lines}
use Rattle.std.proofs.Common.{rules}
use Rattle.elements.proofs.put_parsed.Goals as goal

pub returns-in-Plain : goal.returns-in-Plain
returns-in-Plain c = rw c.in-Plain.is (search (parsed-lines, rules))

pub returns-in-Moved : goal.returns-in-Moved
returns-in-Moved c = rw c.in-Moved.is (search (parsed-lines, rules))
