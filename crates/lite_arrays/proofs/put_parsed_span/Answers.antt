use Rattle.expressions.proofs.Follow.{first, only}
use Rattle.lite_arrays.proofs.Statements.{kept_line}
use borrow.Author.Rules.{rules}
use Rattle.lite_arrays.proofs.put_parsed_span.Goals as goal

pub returns : goal.returns
returns c = search (first, only, kept_line, rules)
