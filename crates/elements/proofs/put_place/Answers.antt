use Rattle.elements.specs.Elements.{place_start}
use Rattle.std.proofs.Common.{rules}
use Rattle.elements.proofs.put_place.Goals as goal

pub returns-in-Slot : goal.returns-in-Slot
unfolding place_start
returns-in-Slot c = rw c.in-Slot.is (search rules)

pub returns-in-Push : goal.returns-in-Push
unfolding place_start
returns-in-Push c = rw c.in-Push.is (search rules)
