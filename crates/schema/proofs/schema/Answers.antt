-- `schema::schema` meets its contract.
-- Assumes nothing.
use Rattle.schema.proofs.Passing.{going_start, going-turn, going_end, going-large}
use borrow.Author.Rules.{rules}
use borrow.Author.Tests.{tests}
use Rattle.schema.proofs.schema.Goals as goal

pub loop-i-init : goal.loop-i-init
loop-i-init c = search (going_start, going-turn, going_end, going-large, rules, tests)

pub returns-in_default : goal.returns-in_default
returns-in_default c = search (going_start, going-turn, going_end, going-large, rules, tests)

pub loop-i-preserved : goal.loop-i-preserved
loop-i-preserved c = search (going_start, going-turn, going_end, going-large, rules, tests)

pub returns : goal.returns
returns c = search (going_start, going-turn, going_end, going-large, rules, tests)
