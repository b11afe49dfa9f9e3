use Rattle.lite_arrays.proofs.Lite.{by-unknown}
use borrow.Author.Rules.{rules}
use Rattle.lite_arrays.proofs.parse_array_field_lite.Goals as goal

pub returns-in-Unknown : goal.returns-in-Unknown
returns-in-Unknown c = search (by-unknown, rules)
