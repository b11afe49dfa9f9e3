use Rattle.text.proofs.Widths.{from-table, entry-fits, too_wide}
use borrow.Author.Rules.{rules}
use Rattle.text.proofs.get_cxx_scalar_type.Goals as goal

pub returns-then-width-gt64 : goal.returns-then-width-gt64
returns-then-width-gt64 c = too_wide c.args.width (search rules)

pub overflow_cast-result : goal.overflow_cast-result
overflow_cast-result c = search (entry-fits, rules)

pub returns : goal.returns
returns c = search (from-table, rules)
