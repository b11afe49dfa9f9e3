-- `keywords::may_be` meets its contract, by the laws of Lists.
-- Assumes nothing.
use Rattle.definitions.specs.Keywords.{keywords}
use Rattle.keywords.proofs.Lists.{of_length, up_to, alike, letters_of, letters, no-letter, from-letters}
use borrow.Author.Rules.{rules}
use Rattle.keywords.proofs.may_be.Goals as goal

pub returns-then-not-is_ascii_lowercase : goal.returns-then-not-is_ascii_lowercase
returns-then-not-is_ascii_lowercase c = search (no-letter, rules)

pub returns : goal.returns
unfolding letters letters_of up_to alike of_length keywords
returns c = search (from-letters, rules)
