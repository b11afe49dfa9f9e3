-- `sizes::behind_schema` meets its contract.
-- Assumes nothing.
use Rattle.sizes.proofs.Verdicts.{behind-ragged, behind-misstated, behind-target}
use borrow.Author.Rules.{rules}
use Rattle.sizes.proofs.behind_schema.Goals as goal

pub returns-then-ragged : goal.returns-then-ragged
returns-then-ragged c = search (behind-ragged, behind-misstated, behind-target, rules)

pub returns-then-misstated : goal.returns-then-misstated
returns-then-misstated c = search (behind-ragged, behind-misstated, behind-target, rules)

pub returns : goal.returns
returns c = search (behind-target, c.target.ensures, c.ok_or.ensures.value, rules)
