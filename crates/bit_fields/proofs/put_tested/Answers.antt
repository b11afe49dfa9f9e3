use Rattle.bit_fields.proofs.Pieces.{tested-lines}
use borrow.Author.Rules.{rules}
use Rattle.bit_fields.proofs.put_tested.Goals as goal

pub returns : goal.returns
returns c = search (tested-lines, rules)
