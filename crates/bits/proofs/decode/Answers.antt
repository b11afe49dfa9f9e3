-- `bits::decode` meets its contract.
-- Assumes nothing.
use Rattle.bits.proofs.Coding.{decode-static, decode-dynamic, decode-unknown}
use borrow.Author.Rules.{rules}
use Rattle.bits.proofs.decode.Goals as goal

pub returns-in-0-to-2147483647 : goal.returns-in-0-to-2147483647
returns-in-0-to-2147483647 c = search (decode-static, rules)

pub returns-in-2147483648 : goal.returns-in-2147483648
returns-in-2147483648 c = search (decode-dynamic, rules)

pub returns-in_default : goal.returns-in_default
returns-in_default c = search (decode-unknown, rules)
