-- `record::read_record` meets its contract, by the laws of Agree.
-- Assumes nothing.
use Rattle.record.proofs.Agree.{of-record}
use borrow.Author.Rules.{rules}
use Rattle.record.proofs.read_record.Goals as goal

pub returns : goal.returns
returns c = search (of-record, rules)
