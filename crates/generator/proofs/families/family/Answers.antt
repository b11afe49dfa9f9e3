-- `generator::families::family` meets its contract: the code has the texts of the definition.
-- Assumes nothing.
use Rattle.grammar.specs.Families.{families, beacon, lamp, status, log, relay, meter, station, harbour}
use Rattle.slots.specs.Pieces.{parted}
use Rattle.generator.proofs.Records.{numbered, last}
use borrow.Author.Rules.{rules}
use Rattle.generator.proofs.families.family.Goals as goal

pub returns-in-0 : goal.returns-in-0
unfolding families beacon parted
returns-in-0 c = search (numbered, rules)

pub returns-in-1 : goal.returns-in-1
unfolding families lamp parted
returns-in-1 c = search (numbered, rules)

pub returns-in-2 : goal.returns-in-2
unfolding families status parted
returns-in-2 c = search (numbered, rules)

pub returns-in-3 : goal.returns-in-3
unfolding families log parted
returns-in-3 c = search (numbered, rules)

pub returns-in-4 : goal.returns-in-4
unfolding families relay parted
returns-in-4 c = search (numbered, rules)

pub returns-in-5 : goal.returns-in-5
unfolding families meter parted
returns-in-5 c = search (numbered, rules)

pub returns-in-6 : goal.returns-in-6
unfolding families station parted
returns-in-6 c = search (numbered, rules)

pub returns-in_default : goal.returns-in_default
unfolding families harbour parted
returns-in_default c = search (last, rules)
