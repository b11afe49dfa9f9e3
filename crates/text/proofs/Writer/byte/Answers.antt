use mathlib.Core.Path.{refl}
use Rattle.text.proofs.Puts.{byte-out}
use borrow.Author.Rules.{rules}
use Rattle.text.proofs.Writer.byte.Goals as goal

pub returns-then-self : goal.returns-then-self
returns-then-self c = record { same = refl; put = record { room = search rules; next = search rules; written = search (byte-out, rules) } }

pub returns : goal.returns
returns c = record { same = refl; put = record { room = search rules; next = search rules; written = refl } }
