-- A record of an enum, a struct and a packet with three fields in all, and the same without one of them: the tests of their texts are computed, and what is
-- read of the second is what is read of the first without that field.
-- Assumes nothing.
use mathlib.Core.List.{List, [], ◌∷◌, ◌++◌}
use mathlib.Core.Path.{◌≡◌, refl}
use Rattle.definitions.specs.Bytes.{Text, text}
use Rattle.definitions.specs.Record.{Declaration, record_is, read_record}
use Rattle.definitions.proofs.Opened.{everything}
use Rattle.fewer.proofs.Fewer.{Sublist}
use Rattle.fragments.specs.Groups.{Group, joined}
use Rattle.fragments.proofs.Groups.{head_in, field_in, decl_in, Says, FewerGroups, fewer-behind}
use Rattle.fragments.proofs.Tests.{HeadReads, Readable, fewer-readable, Tests, readable}
use Rattle.fragments.proofs.Reading.{read-joined}
use Rattle.fragments.proofs.Catalogue.{Catalogued, catalogued}

unfoldable head : Text
head = text "endian=little\ntarget=Lamp\narrays=lite\nraw=numbered\n"

unfoldable types : List Group
types =
    record { header = text "decl=enum\nname=Colour\nwidth=8\nopen=0\ncomplete=1\n"; fields = [] }
    ∷ record { header = text "decl=struct\nname=Point\nparent=-\nbits=16\n"; fields = text "field=scalar\nid=x\nwidth=16\nif=-\n" ∷ [] }
    ∷ []

unfoldable lamp : List Text → List Group
lamp fields = record { header = text "decl=packet\nname=Lamp\nparent=-\n"; fields = fields } ∷ []

unfoldable point : Text
point = text "field=typedef\nid=at\ntype=Point\nif=-\n"

unfoldable colours : Text
colours = text "field=array\nid=shown\nwidth=-\ntype=Colour\nmod=-\ncount=3\nif=-\n"

-- ---- by computation

head-reads : HeadReads head (head_in head)
unfolding everything head head_in
head-reads = record { read = λ r. refl; target = λ r. refl }

tests : Tests (types ++ lamp (point ∷ colours ∷ []))
unfolding everything field_in decl_in types lamp point colours
tests = record { headers = refl; fits = refl; fields = refl }

-- ---- and so by the laws

fewer : FewerGroups (lamp (colours ∷ [])) (lamp (point ∷ colours ∷ []))
unfolding lamp
fewer = FewerGroups.more refl (Sublist.skip (Sublist.keep Sublist.done)) FewerGroups.done

all-readable : Readable (types ++ lamp (point ∷ colours ∷ []))
all-readable = readable (types ++ lamp (point ∷ colours ∷ [])) tests

abbrev Reads : List Group → Type 0
Reads gs = (ds : List Declaration) × (read_record (head ++ joined gs) ≡ record_is (head_in head) ds) × Says (head ++ joined gs) gs ds

all_read_lem : Reads (types ++ lamp (point ∷ colours ∷ []))
unfolding types
all_read_lem = read-joined head (head_in head) (types ++ lamp (point ∷ colours ∷ [])) refl head-reads all-readable

some_read : Reads (types ++ lamp (colours ∷ []))
unfolding types
some_read = read-joined head (head_in head) (types ++ lamp (colours ∷ [])) refl head-reads (fewer-readable (fewer-behind types fewer) all-readable)

without-the-point : Catalogued (head ++ joined (types ++ lamp (point ∷ colours ∷ []))) (head ++ joined (types ++ lamp (colours ∷ []))) types
    (lamp (colours ∷ [])) all_read_lem.0 some_read.0
without-the-point =
    catalogued _ _ types (lamp (point ∷ colours ∷ [])) (lamp (colours ∷ [])) fewer all_read_lem.2 some_read.2
