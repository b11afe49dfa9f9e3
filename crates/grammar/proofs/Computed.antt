-- The tests of each family (Tested), by computation.
-- Assumes nothing.
use mathlib.Core.Path.{refl}
use Prim.Native.Nat.{ℕ}
use Rattle.definitions.proofs.Opened.{everything}
use Rattle.fewer.specs.Sound.{sound}
use Rattle.fragments.proofs.Groups.{head_in, field_in, decl_in}
use Rattle.fragments.proofs.Placed.{placed}
use Rattle.grammar.specs.Families.{beacon, lamp, status, log, relay, meter, station, harbour}
use Rattle.grammar.proofs.Tested.{Tested, catalogue, fine}

-- one name that opens what a test computes
unfoldable opened : ℕ
unfolding everything sound head_in field_in decl_in placed catalogue fine
opened = 0

pub beacon-tested : Tested beacon
unfolding opened beacon
beacon-tested = record { amounts = refl; texts = refl; fine = refl }

pub lamp-tested : Tested lamp
unfolding opened lamp
lamp-tested = record { amounts = refl; texts = refl; fine = refl }

pub status-tested : Tested status
unfolding opened status
status-tested = record { amounts = refl; texts = refl; fine = refl }

pub log-tested : Tested log
unfolding opened log
log-tested = record { amounts = refl; texts = refl; fine = refl }

pub relay-tested : Tested relay
unfolding opened relay
relay-tested = record { amounts = refl; texts = refl; fine = refl }

pub meter-tested : Tested meter
unfolding opened meter
meter-tested = record { amounts = refl; texts = refl; fine = refl }

pub station-tested : Tested station
unfolding opened station
station-tested = record { amounts = refl; texts = refl; fine = refl }

pub harbour-tested : Tested harbour
unfolding opened harbour
harbour-tested = record { amounts = refl; texts = refl; fine = refl }
