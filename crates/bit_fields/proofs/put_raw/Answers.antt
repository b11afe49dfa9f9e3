use Rattle.bit_fields.proofs.Pieces.{raw-plain, raw-numbered}
use borrow.Author.Rules.{rules}
use Rattle.bit_fields.proofs.put_raw.Goals as goal

pub returns-in-Plain : goal.returns-in-Plain
returns-in-Plain c = search (raw-plain, rules)

pub returns-in-Numbered : goal.returns-in-Numbered
returns-in-Numbered c = search (raw-numbered, rules)
