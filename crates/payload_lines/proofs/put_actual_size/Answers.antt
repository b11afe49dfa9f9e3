use Rattle.payload_lines.proofs.Payloads.{size-as-is, size_less, size-more}
use borrow.Author.Rules.{rules}
use Rattle.payload_lines.proofs.put_actual_size.Goals as goal

pub returns-in-None : goal.returns-in-None
returns-in-None c = search (size-as-is, rules)

pub returns-in-Plus : goal.returns-in-Plus
returns-in-Plus c = search (size_less, rules)

pub returns-in-Minus : goal.returns-in-Minus
returns-in-Minus c = search (size-more, rules)
