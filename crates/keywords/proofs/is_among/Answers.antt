-- `keywords::is_among` meets its contract, by the laws of Among.
-- Assumes nothing.
use Rattle.keywords.proofs.Among.{left-start, left-none, left-found, left-turn}
use borrow.Author.Rules.{rules}
use Rattle.keywords.proofs.is_among.Goals as goal

pub loop-left-init : goal.loop-left-init
loop-left-init c = search (left-start, rules)

pub returns-in-Some : goal.returns-in-Some
returns-in-Some c = search (left-found, rules)

pub loop-left-preserved : goal.loop-left-preserved
loop-left-preserved c = search (left-turn, rules)

pub returns : goal.returns
returns c = search (left-none, rules)
