-- `generator::put_record` meets its contract, by laws of Records.
-- Assumes nothing.
use Rattle.grammar.specs.Families.{families}
use Rattle.generator.proofs.Records.{record-put, record-stepped}
use borrow.Author.Rules.{rules}
use Rattle.generator.proofs.put_record.Goals as goal

pub returns : goal.returns
unfolding families
returns c = search (record-put, record-stepped, rules)
