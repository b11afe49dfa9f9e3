use Rattle.std.proofs.Common.{rules}
use Rattle.elements.proofs.put_loop.Goals as goal

pub returns-in-Times : goal.returns-in-Times
returns-in-Times c = rw c.in-Times.is (search rules)

pub returns-in-WhileRest : goal.returns-in-WhileRest
returns-in-WhileRest c = rw c.in-WhileRest.is (search rules)

pub returns-in-WhileOwn : goal.returns-in-WhileOwn
returns-in-WhileOwn c = rw c.in-WhileOwn.is (search rules)
