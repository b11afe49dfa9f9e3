-- `array_fields::padded_bytes` meets its contract.
-- Assumes nothing.
use Rattle.array_fields.proofs.Parts.{padding-bytes}
use borrow.Author.Rules.{rules}
use Rattle.array_fields.proofs.padded_bytes.Goals as goal

pub returns : goal.returns
returns c = search (padding-bytes, c.args.t.now.fine, rules)
