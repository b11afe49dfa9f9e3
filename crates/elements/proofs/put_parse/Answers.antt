use Rattle.elements.proofs.Laws.{parse-lines}
use Rattle.std.proofs.Common.{rules}
use Rattle.elements.proofs.put_parse.Goals as goal

pub returns : goal.returns
returns c = search (parse-lines, rules)
