use Rattle.arrays.proofs.Modifiers.{modified-line}
use borrow.Author.Rules.{rules}
use Rattle.arrays.proofs.put_modified.Goals as goal

pub returns : goal.returns
returns c = search (modified-line, rules)
