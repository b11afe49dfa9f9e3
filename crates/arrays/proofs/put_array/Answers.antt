use Rattle.arrays.proofs.Modifiers.{array-lite, array-full}
use borrow.Author.Rules.{rules}
use Rattle.arrays.proofs.put_array.Goals as goal

pub returns-in-Lite : goal.returns-in-Lite
returns-in-Lite c = search (array-lite, rules)

pub returns-in-Full : goal.returns-in-Full
returns-in-Full c = search (array-full, rules)
