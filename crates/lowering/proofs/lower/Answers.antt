-- `lowering::lower` meets its contract, by what `lower_in` gives.
-- Assumes nothing.
use Rattle.lowering.proofs.Records.{gives-target}
use borrow.Author.Rules.{rules}
use Rattle.lowering.proofs.lower.Goals as goal

pub returns-in-0-to-256 : goal.returns-in-0-to-256
returns-in-0-to-256 c = search (gives-target, rules)

pub returns-in-257-to-1024 : goal.returns-in-257-to-1024
returns-in-257-to-1024 c = search (gives-target, rules)

pub returns-in-1025-to-2048 : goal.returns-in-1025-to-2048
returns-in-1025-to-2048 c = search (gives-target, rules)

pub returns-in-2049-to-4096 : goal.returns-in-2049-to-4096
returns-in-2049-to-4096 c = search (gives-target, rules)

pub returns-in-4097-to-8192 : goal.returns-in-4097-to-8192
returns-in-4097-to-8192 c = search (gives-target, rules)

pub returns-in_default : goal.returns-in_default
returns-in_default c = search (gives-target, rules)
