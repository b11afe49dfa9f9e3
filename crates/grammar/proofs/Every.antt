-- To be read first: every record of the load, from whatever state it is drawn, passes refusals 1 to 9, 16 and 17 (document 02, Card 1), so what it is
-- answered is what the lowering of its target comes to (`every-answer`).
-- Assumes nothing.
use mathlib.Core.List.{List, map}
use mathlib.Core.Path.{◌≡◌, refl}
use Prim.Native.Nat.{ℕ}
use Rattle.definitions.specs.Bytes.{Text}
use Rattle.definitions.specs.Sizes.{new_schema}
use Rattle.definitions.specs.Answer.{lower_in, lower_record, answer}
use Rattle.fragments.proofs.Lists.{All}
use Rattle.grammar.specs.Choices.{next, draw_slots, draw_from}
use Rattle.grammar.specs.Fragments.{slots_of}
use Rattle.grammar.specs.Families.{families}
use Rattle.grammar.specs.Load.{draw_record}
use Rattle.grammar.specs.Passing.{Passes}
use Rattle.grammar.proofs.Elements.{chosen-has}
use Rattle.grammar.proofs.Tested.{family-passes}
use Rattle.grammar.proofs.Computed.{beacon-tested, lamp-tested, status-tested, log-tested, relay-tested, meter-tested, station-tested, harbour-tested}

-- whatever is drawn from these slots passes
abbrev AllPass : List (List Text) → Type 0
AllPass slots = (s : ℕ) → Passes (draw_slots slots s).drawn

families-pass : All AllPass (map slots_of families)
unfolding families
families-pass =
    All.more (family-passes _ beacon-tested)
    (All.more (family-passes _ lamp-tested)
    (All.more (family-passes _ status-tested)
    (All.more (family-passes _ log-tested)
    (All.more (family-passes _ relay-tested)
    (All.more (family-passes _ meter-tested)
    (All.more (family-passes _ station-tested) (All.more (family-passes _ harbour-tested) All.done)))))))

pub every-passes : (s : ℕ) → Passes (draw_record s).drawn
unfolding draw_from families
every-passes s = chosen-has {P = AllPass} (next s) (map slots_of families) refl families-pass (next s)

-- a record that passes them is answered by its target's lines, or by the refusal that these meet
pub passes_on : (rec : Text) (p : Passes rec) → answer rec ≡ lower_in rec p.head (new_schema rec p.declarations)
unfolding answer lower_record
passes_on rec p = rw (answer, p.length, p.read, lower_record, p.rest)

pub every-answer : (s : ℕ) → let p = every-passes s in
    answer (draw_record s).drawn ≡ lower_in (draw_record s).drawn p.head (new_schema (draw_record s).drawn p.declarations)
every-answer s = passes_on (draw_record s).drawn (every-passes s)
