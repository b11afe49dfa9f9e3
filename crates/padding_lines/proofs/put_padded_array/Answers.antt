use Rattle.padding_lines.proofs.Paddings.{padded-array}
use borrow.Author.Rules.{rules}
use Rattle.padding_lines.proofs.put_padded_array.Goals as goal

pub returns : goal.returns
returns c = search (padded-array, rules)
