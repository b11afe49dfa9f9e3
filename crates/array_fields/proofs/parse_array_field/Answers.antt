-- `array_fields::parse_array_field` meets its contract.
-- Assumes nothing.
use Rattle.array_fields.proofs.Parts.{array_made}
use borrow.Author.Rules.{rules}
use Rattle.array_fields.proofs.parse_array_field.Goals as goal

pub returns : goal.returns
returns c = search (array_made, rules)
