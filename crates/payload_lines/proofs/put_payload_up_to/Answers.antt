use Rattle.payload_lines.proofs.Payloads.{payload-up-to}
use borrow.Author.Rules.{rules}
use Rattle.payload_lines.proofs.put_payload_up_to.Goals as goal

pub returns : goal.returns
returns c = search (payload-up-to, rules)
