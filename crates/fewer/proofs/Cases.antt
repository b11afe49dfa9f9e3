-- Computed tests of `sound`: a catalogue of an enum, a struct and a packet, and a fault in it for each test but the counts of 3; and the theorem put to
-- use on any catalogue.
-- Assumes nothing.
use Rattle.std.specs.Prelude.{Ok}
use mathlib.Core.Path.{◌≡◌, refl}
use mathlib.Core.Bool.{Bool, true, false, ◌&&◌}
use mathlib.Core.List.{List, [], ◌∷◌, ◌++◌}
use Prim.Native.Nat.{ℕ}
use Prim.Native.String.{String}
use lib.Dec.{ltb}
use lib.ListN.{length, take, drop}
use Rattle.definitions.specs.Bytes.{Text, text, any, all, part}
use Rattle.definitions.specs.Keywords.{is_keyword}
use Rattle.definitions.specs.Record.{Declaration, RecordRead, record_is, no_record, read_record}
use Rattle.definitions.specs.Sizes.{same_name, new_schema}
use Rattle.definitions.specs.Refusals.{is_frame, verdict}
use Rattle.definitions.specs.declared.Field.{Field}
use Rattle.definitions.specs.declared.Head.{Head}
use Rattle.definitions.proofs.Opened.{everything}
use Rattle.fewer.specs.Sound.{sound}
use Rattle.fewer.proofs.Fewer.{Sublist, FewerFields}
use Rattle.fewer.proofs.Tests.{nor}
use Rattle.fewer.proofs.Passes.{passes}

-- ---- catalogues

-- the head, an enum and a struct, with these lines more
typed : String → Text
typed more =
    text "endian=little\ntarget=Lamp\narrays=lite\n"
    ++ (text "decl=enum\nname=Colour\nwidth=8\nopen=0\ncomplete=0\n"
    ++ (text "decl=struct\nname=Point\nparent=-\nfield=scalar\nid=x\nwidth=16\nif=-\nfield=scalar\nid=y\nwidth=16\nif=-\n" ++ text more))

-- a packet with a field of each type and an array, and these lines more
framed : String → Text
framed more =
    text "decl=packet\nname=Lamp\nparent=-\nfield=typedef\nid=c\ntype=Colour\nif=-\nfield=typedef\nid=p\ntype=Point\nif=-\n"
    ++ (text "field=array\nid=a\nwidth=-\ntype=Point\nmod=-\ncount=4\nif=-\n" ++ text more)

catalogue : Text
catalogue = typed "" ++ framed ""

-- the first n declarations are the types
sound_read : ℕ → Text → RecordRead → Bool
sound_read n t no_record = false
sound_read n t (record_is h ds) = sound t (take n ds) (drop n ds)

is_sound : Text → Bool
is_sound t = sound_read 2 t (read_record t)

catalogue-sound : is_sound catalogue ≡ true
unfolding everything sound typed framed catalogue sound_read is_sound
catalogue-sound = refl

-- 2 ^ 19 bits in one field; a payload, and a frame whose parent is a frame
others : List Text
others =
    (typed "" ++ framed "field=array\nid=b\nwidth=-\ntype=Point\nmod=-\ncount=16384\nif=-\n")
    ∷ (typed "" ++ framed "field=payload\nmod=-\nif=-\ndecl=packet\nname=Bulb\nparent=Lamp\nfield=scalar\nid=x\nwidth=8\nif=-\n")
    ∷ []

others-sound : all is_sound others ≡ true
unfolding everything sound typed framed sound_read is_sound others
others-sound = refl

faulty : List Text
faulty =
    -- 16
    (typed "" ++ framed "field=scalar\nid=int\nwidth=8\nif=-\n")
    -- 4
    ∷ (typed "" ++ framed "decl=packet\nname=Lamp\nparent=-\n")
    -- 5
    ∷ (typed "" ++ framed "decl=packet\nname=Bulb\nparent=Tulip\n")
    -- 6
    ∷ (typed "" ++ framed "field=scalar\nid=b\nwidth=65\nif=-\n")
    -- 7: more than 2 ^ 19 bits in a field of a frame
    ∷ (typed "" ++ framed "field=array\nid=b\nwidth=-\ntype=Point\nmod=-\ncount=16385\nif=-\n")
    -- 8: in a type, and in a frame
    ∷ (typed "field=array\nid=b\nwidth=7\ntype=-\nmod=-\ncount=8\nif=-\n" ++ framed "")
    ∷ (typed "" ++ framed "field=array\nid=b\nwidth=7\ntype=-\nmod=-\ncount=8\nif=-\n")
    -- a type that is itself a frame
    ∷ (typed "" ++ framed "decl=packet\nname=Bulb\nparent=-\nfield=typedef\nid=l\ntype=Lamp\nif=-\n")
    -- 17
    ∷ (typed "" ++ framed "decl=packet\nname=Bulb\nparent=-\nbits=0\n")
    ∷ []

none-sound : any is_sound faulty ≡ false
unfolding everything sound typed framed sound_read is_sound faulty
none-sound = refl

-- 7: a type of 200 times 65,535 times 64 bits, which are more than 2 ^ 29
wide : Text
wide =
    typed "decl=struct\nname=Long\nparent=-\nfield=array\nid=b\nwidth=64\ntype=-\nmod=-\ncount=65535\nif=-\n"
    ++ (text "decl=struct\nname=Wide\nparent=-\nfield=array\nid=b\nwidth=-\ntype=Long\nmod=-\ncount=200\nif=-\n" ++ framed "")

wide-faulty : sound_read 4 wide (read_record wide) ≡ false
unfolding everything sound typed framed sound_read wide
wide-faulty = refl

-- ---- every frame with its first field alone

abbrev first_alone : List Declaration → List Declaration
first_alone [] = []
first_alone (d ∷ ds) = record { decl = d.decl; fields = take 1 d.fields } ∷ first_alone ds

none_kept : {A : Type 0} (xs : List A) → Sublist [] xs
none_kept [] = Sublist.done
none_kept (x ∷ xs) = Sublist.skip (none_kept xs)

first-kept : {A : Type 0} (xs : List A) → Sublist (take 1 xs) xs
first-kept [] = Sublist.done
first-kept (x ∷ xs) = Sublist.keep (none_kept xs)

first-fewer : (ds : List Declaration) → FewerFields (first_alone ds) ds
first-fewer [] = FewerFields.done
first-fewer (d ∷ ds) = FewerFields.more refl (first-kept d.fields) (first-fewer ds)

first-few : (ds : List Declaration) → any (λ (d : Declaration). ltb 64 (length d.fields)) (first_alone ds) ≡ false
first-few [] = refl
first-few (d ∷ ds) = nor _ _ (at_most d.fields) (first-few ds)
  where
    at_most : (fs : List Field) → ltb 64 (length (take 1 fs)) ≡ false
    at_most [] = refl
    at_most (f ∷ fs) = refl

first_passes : (t : Text) (k : Head) (ps qs : List Declaration) → sound t ps qs ≡ true → is_keyword (part t k.target) ≡ false
    → any (λ (d : Declaration). same_name t d.decl.id k.target && is_frame d.decl.desc) (ps ++ qs) ≡ true
    → verdict t k (ps ++ first_alone qs) (new_schema t (ps ++ first_alone qs)) ≡ (Ok tt)
first_passes t k ps qs e word target = passes t k ps qs (first_alone qs) e (first-fewer qs) (first-few qs) word target
