-- `chunk_lines::put_bits` meets its contract, by the laws of proofs/Fields.
-- Assumes nothing.
use Rattle.chunk_lines.proofs.Fields.{bits_none, raws-none, bits-turn, raws-turn, raws-fit, bits-all, raws-all}
use borrow.Author.Rules.{rules}
use Rattle.chunk_lines.proofs.put_bits.Goals as goal

pub loop-i-init : goal.loop-i-init
loop-i-init c = (search (bits_none, rules), search (raws-none, rules))

pub next_raw-raws-requires : goal.next_raw-raws-requires
next_raw-raws-requires c = search (raws-fit, rules)

pub loop-i-preserved : goal.loop-i-preserved
loop-i-preserved c = (search (bits-turn, rules), search (raws-turn, rules))

pub returns : goal.returns
returns c = (search (bits-all, rules), search (raws-all, rules))
