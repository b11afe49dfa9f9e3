use Rattle.payload_lines.proofs.Payloads.{changed-size}
use borrow.Author.Rules.{rules}
use Rattle.payload_lines.proofs.put_changed_size.Goals as goal

pub returns : goal.returns
returns c = search (changed-size, rules)
