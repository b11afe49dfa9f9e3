use Rattle.chunk_lines.proofs.Whole.{alone-skip, alone-read}
use borrow.Author.Rules.{rules}
use Rattle.chunk_lines.proofs.put_alone.Goals as goal

pub returns-then-is_reserved : goal.returns-then-is_reserved
returns-then-is_reserved c = search (alone-skip, rules)

pub returns : goal.returns
returns c = search (alone-read, rules)
