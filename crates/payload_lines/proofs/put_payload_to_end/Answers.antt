use Rattle.payload_lines.proofs.Payloads.{payload-to-end}
use borrow.Author.Rules.{rules}
use Rattle.payload_lines.proofs.put_payload_to_end.Goals as goal

pub returns : goal.returns
returns c = search (payload-to-end, rules)
