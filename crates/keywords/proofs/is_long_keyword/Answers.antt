-- `keywords::is_long_keyword` meets its contract, by the laws of Lists.
-- Assumes nothing.
use Rattle.definitions.specs.Keywords.{keywords}
use Rattle.keywords.specs.Pieces.{pieces}
use Rattle.keywords.proofs.Lists.{of_length, same_words, holds, listed, none-long}
use borrow.Author.Rules.{rules}
use Rattle.keywords.proofs.is_long_keyword.Goals as goal

pub returns-then-n-eq7 : goal.returns-then-n-eq7
unfolding holds pieces of_length same_words keywords
returns-then-n-eq7 c = search (listed, rules)

pub returns-then-n-eq8 : goal.returns-then-n-eq8
unfolding holds pieces of_length same_words keywords
returns-then-n-eq8 c = search (listed, rules)

pub returns-then-n-eq9 : goal.returns-then-n-eq9
unfolding holds pieces of_length same_words keywords
returns-then-n-eq9 c = search (listed, rules)

pub returns-then-n-eq10 : goal.returns-then-n-eq10
unfolding holds pieces of_length same_words keywords
returns-then-n-eq10 c = search (listed, rules)

pub returns-then-n-eq11 : goal.returns-then-n-eq11
unfolding holds pieces of_length same_words keywords
returns-then-n-eq11 c = search (listed, rules)

pub returns-then-n-eq12 : goal.returns-then-n-eq12
unfolding holds pieces of_length same_words keywords
returns-then-n-eq12 c = search (listed, rules)

pub returns-then-n-eq13 : goal.returns-then-n-eq13
unfolding holds pieces of_length same_words keywords
returns-then-n-eq13 c = search (listed, rules)

pub returns-then-n-eq16 : goal.returns-then-n-eq16
unfolding holds pieces of_length same_words keywords
returns-then-n-eq16 c = search (listed, rules)

pub returns : goal.returns
returns c = search (none-long, rules)
