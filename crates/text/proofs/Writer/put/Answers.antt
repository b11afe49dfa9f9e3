use mathlib.Core.Path.{refl}
use borrow.Author.Rules.{rules}
use Rattle.text.proofs.Writer.put.Goals as goal

pub returns : goal.returns
returns c = record { same = refl; put = record { room = search rules; next = search rules; written = search rules } }
