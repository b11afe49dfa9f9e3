-- `console::print_answer` meets its contract, by the laws of Pieces.
-- Assumes nothing.
use Rattle.std.proofs.Common.{rules}
use Rattle.console.proofs.Pieces.{prints_lines, prints_refusal}
use Rattle.console.proofs.print_answer.Goals as goal

pub returns-then-refusal-eq0 : goal.returns-then-refusal-eq0
returns-then-refusal-eq0 g c = search (prints_lines, rules)

pub returns-else-refusal-eq0 : goal.returns-else-refusal-eq0
returns-else-refusal-eq0 g c = search (prints_refusal, rules)
