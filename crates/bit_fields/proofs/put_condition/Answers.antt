use Rattle.bit_fields.proofs.Pieces.{condition-line}
use borrow.Author.Rules.{rules}
use Rattle.bit_fields.proofs.put_condition.Goals as goal

pub returns : goal.returns
returns c = search (condition-line, rules)
