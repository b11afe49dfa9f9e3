-- `parser::append` meets its contract, by the laws of proofs/Others.
-- Assumes nothing.
use Rattle.parser.proofs.Others.{block-fits, says-block, says_none, says-refusal}
use borrow.Author.Rules.{rules}
use Rattle.parser.proofs.append.Goals as goal

pub put_block-requires : goal.put_block-requires
put_block-requires c = search (block-fits, rules)

pub returns-in-Appends : goal.returns-in-Appends
returns-in-Appends c = search (says-block, rules)

pub returns-in-Silent : goal.returns-in-Silent
returns-in-Silent c = search (says_none, rules)

pub returns-in-Refuses : goal.returns-in-Refuses
returns-in-Refuses c = search (says-refusal, rules)
