-- `kinds::desc_at` meets its contract, by the laws of Choice.
-- Assumes nothing.
use Rattle.kinds.proofs.Choice.{no_field, by_word}
use borrow.Author.Rules.{rules}
use Rattle.kinds.proofs.desc_at.Goals as goal

pub returns-in_err-key_at : goal.returns-in_err-key_at
returns-in_err-key_at c = search (no_field, by_word, rules)

pub returns : goal.returns
returns c = by_word _ _ c.key_at.ensures c.in_ok-key_at.was c.number_kind.ensures
