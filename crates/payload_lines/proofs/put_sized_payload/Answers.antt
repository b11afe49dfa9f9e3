use Rattle.payload_lines.proofs.Payloads.{sized-payload}
use borrow.Author.Rules.{rules}
use Rattle.payload_lines.proofs.put_sized_payload.Goals as goal

pub returns : goal.returns
returns c = search (sized-payload, rules)
