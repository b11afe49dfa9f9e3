use Rattle.bit_fields.proofs.Pieces.{set_line}
use borrow.Author.Rules.{rules}
use Rattle.bit_fields.proofs.put_set.Goals as goal

pub returns : goal.returns
returns c = search (set_line, rules)
