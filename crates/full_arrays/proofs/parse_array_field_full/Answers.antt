use Rattle.full_arrays.proofs.Full.{by-unknown}
use borrow.Author.Rules.{rules}
use Rattle.full_arrays.proofs.parse_array_field_full.Goals as goal

pub returns-in-Unknown : goal.returns-in-Unknown
returns-in-Unknown c = search (by-unknown, rules)
