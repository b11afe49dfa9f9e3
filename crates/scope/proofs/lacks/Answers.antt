-- `scope::lacks` meets its contract.
-- Assumes nothing.
use Rattle.scope.proofs.Unknown.{lacks-none, lacks-some}
use borrow.Author.Rules.{rules}
use Rattle.scope.proofs.lacks.Goals as goal

pub returns-in-None : goal.returns-in-None
returns-in-None g c ok h = search (lacks-none, rules)

pub returns : goal.returns
returns g c ok h = search (lacks-some, h, rules)
