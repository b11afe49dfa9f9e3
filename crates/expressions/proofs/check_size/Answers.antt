use Rattle.expressions.specs.Statements.{stmt_bytes}
use borrow.Author.Rules.{rules}
use Rattle.expressions.proofs.check_size.Goals as goal

pub returns : goal.returns
unfolding stmt_bytes
returns c = search rules
