-- `keywords::is_listed` meets its contract, by the laws of Lists.
-- Assumes nothing.
use Rattle.definitions.specs.Keywords.{keywords}
use Rattle.keywords.specs.Pieces.{pieces}
use Rattle.keywords.proofs.Lists.{of_length, same_words, holds, listed, none-short}
use borrow.Author.Rules.{rules}
use Rattle.keywords.proofs.is_listed.Goals as goal

pub returns-then-n-eq2 : goal.returns-then-n-eq2
unfolding holds pieces of_length same_words keywords
returns-then-n-eq2 c = search (listed, rules)

pub returns-then-n-eq3 : goal.returns-then-n-eq3
unfolding holds pieces of_length same_words keywords
returns-then-n-eq3 c = search (listed, rules)

pub returns-then-n-eq4 : goal.returns-then-n-eq4
unfolding holds pieces of_length same_words keywords
returns-then-n-eq4 c = search (listed, rules)

pub returns-then-n-eq5 : goal.returns-then-n-eq5
unfolding holds pieces of_length same_words keywords
returns-then-n-eq5 c = search (listed, rules)

pub returns-then-n-eq6 : goal.returns-then-n-eq6
unfolding holds pieces of_length same_words keywords
returns-then-n-eq6 c = search (listed, rules)

pub returns : goal.returns
returns c = search (none-short, rules)
