-- Computed tests: the packets and structs among all kinds of declarations, P1 of document 01 asking for another declaration, byte for byte, and single calls
-- beside the whole.
-- Assumes nothing.
use mathlib.Core.List.{List, [], ◌∷◌, ◌++◌}
use mathlib.Core.Path.{◌≡◌, refl}
use Prim.Native.String.{String}
use native.Mathlib.Omega.{arith}
use Rattle.definitions.specs.Bytes.{Text, text}
use Rattle.definitions.specs.Record.{RecordRead, record_is, no_record, read_record}
use Rattle.definitions.specs.Sizes.{Entry, new_schema}
use Rattle.definitions.specs.All.{Outcomes, refused_all, answer_all}
use Rattle.definitions.specs.declared.Head.{Head}
use Rattle.definitions.specs.declared.Refusal.{Refusal}
use Rattle.definitions.proofs.Opened.{everything}
use Rattle.joined.specs.Calls.{frames, name_of, call_of, calls}
use Rattle.joined.specs.Sections.{most_all}
use Rattle.joined.proofs.Joined.{as-calls}

-- ---- records: this target, line behind `arrays` and declarations

rec : String → String → Text → Text
rec target line decls = text "endian=little\ntarget=" ++ (text target ++ (text "\narrays=lite\n" ++ (text line ++ decls)))

-- P1's packet
lamp : Text
lamp =
    text "decl=packet\nname=Lamp\nparent=-\nfield=scalar\nid=amps\nwidth=12\nif=-\nfield=reserved\nwidth=4\nif=-\nfield=payload\nmod=-\nif=-\n"

-- the four other kinds of declarations before it
five : Text
five =
    text "decl=checksum\nname=C\nwidth=8\n"
    ++ (text "decl=struct\nname=A_much_longer_name\nparent=-\n"
    ++ (text "decl=enum\nname=E\nwidth=8\nopen=0\ncomplete=0\n" ++ (text "decl=custom\nname=D\nwidth=8\n" ++ lamp)))

-- what single calls ask for, and what they give together
module _ (s : Text) where
  each_named : Head → List Entry → List Text
  each_named h [] = []
  each_named h (e ∷ es) = name_of s h e ∷ each_named h es

  each_call : Head → List Entry → List Text
  each_call h [] = []
  each_call h (e ∷ es) = call_of s h e ∷ each_call h es

  names : RecordRead → List Text
  names no_record = []
  names (record_is h ds) = each_named h (frames (new_schema s ds))

  asked : RecordRead → List Text
  asked no_record = []
  asked (record_is h ds) = each_call h (frames (new_schema s ds))

  together : RecordRead → Outcomes
  together no_record = refused_all Refusal.RecordForm
  together (record_is h ds) = calls s h (frames (new_schema s ds))

-- ---- packets and structs alone, in file order

named : names (rec "Lamp" "" five) (read_record (rec "Lamp" "" five)) ≡ text "A_much_longer_name" ∷ text "Lamp" ∷ []
unfolding everything rec lamp five frames each_named names
named = refl

-- ---- another name in the `target` line, and nothing else

retargeted : asked (rec "Lamp" "" five) (read_record (rec "Lamp" "" five)) ≡ rec "A_much_longer_name" "" five ∷ rec "Lamp" "" five ∷ []
unfolding everything rec lamp five frames each_call asked
retargeted = refl

-- a shorter one, and lines behind it
shorter : asked (rec "A_much_longer_name" "raw=numbered\n" five) (read_record (rec "A_much_longer_name" "raw=numbered\n" five))
    ≡ rec "A_much_longer_name" "raw=numbered\n" five ∷ rec "Lamp" "raw=numbered\n" five ∷ []
unfolding everything rec lamp five frames each_call asked
shorter = refl

-- ---- the whole

-- P6 and P9: refused, by 12 and 10
wide : Text
wide = text "decl=packet\nname=W\nparent=-\nfield=scalar\nid=a\nwidth=60\nif=-\nfield=scalar\nid=b\nwidth=12\nif=-\n"

pending : Text
pending = text "decl=struct\nname=O\nparent=-\nfield=scalar\nid=a\nwidth=8\nif=-\nfield=scalar\nid=b\nwidth=4\nif=-\n"

-- single calls, and one for all
both : Text → Outcomes × Outcomes
both s = (together s (read_record s), answer_all s)

whole : together (rec "Lamp" "" five) (read_record (rec "Lamp" "" five)) ≡ answer_all (rec "Lamp" "" five)
unfolding everything rec lamp five frames calls together
whole = refl

-- by the theorem
joins : answer_all (rec "Lamp" "" five) ≡ together (rec "Lamp" "" five) (read_record (rec "Lamp" "" five))
unfolding everything rec lamp five frames together
joins = as-calls (rec "Lamp" "" five) _ _ refl refl refl (omega arith, (omega arith, tt))

-- the first refused one refuses the file
wide-first : both (rec "Lamp" "" (five ++ (wide ++ pending))) ≡ (refused_all Refusal.ScalarTooWide, refused_all Refusal.ScalarTooWide)
unfolding everything rec lamp five wide pending frames calls together both
wide-first = refl

pending-first : both (rec "Lamp" "" (pending ++ (wide ++ five))) ≡ (refused_all Refusal.OpenChunk, refused_all Refusal.OpenChunk)
unfolding everything rec lamp five wide pending frames calls together both
pending-first = refl

-- ---- the longest whole

most : most_all ≡ 263520
most = refl
