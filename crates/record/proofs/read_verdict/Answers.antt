-- `record::read_verdict` meets its contract, by the laws of Verdicts.
-- Assumes nothing.
use Rattle.record.proofs.Verdicts.{refuse-many, refuse-duplicate, refuse-unknown, refuse-range, refuse-none}
use borrow.Author.Rules.{rules}
use Rattle.record.proofs.read_verdict.Goals as goal

pub returns-then-too_many : goal.returns-then-too_many
returns-then-too_many c = search (refuse-many, rules)

pub returns-then-duplicate_name : goal.returns-then-duplicate_name
returns-then-duplicate_name c = search (refuse-duplicate, rules)

pub returns-then-unknown_name : goal.returns-then-unknown_name
returns-then-unknown_name c = search (refuse-unknown, rules)

pub returns-then-out_of_range : goal.returns-then-out_of_range
returns-then-out_of_range c = search (refuse-range, rules)

pub returns : goal.returns
returns c = search (refuse-none, rules)
