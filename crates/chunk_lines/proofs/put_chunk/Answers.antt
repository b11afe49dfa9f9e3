use Rattle.chunk_lines.proofs.Fields.{closed-narrow}
use Rattle.chunk_lines.proofs.Whole.{chunk-skip, raws-skip, chunk-many}
use borrow.Author.Rules.{rules}
use Rattle.chunk_lines.proofs.put_chunk.Goals as goal

pub returns-then-whole : goal.returns-then-whole
returns-then-whole c = (search (chunk-skip, rules), search (raws-skip, rules))

pub put_bits-requires : goal.put_bits-requires
put_bits-requires c = (search (closed-narrow, rules), search rules)

pub returns : goal.returns
returns c = (search (chunk-many, rules), search rules)
