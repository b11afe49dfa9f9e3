-- Computed tests of `lower_all` (document 02, Card 13). The lines of each section are those of document 01 or of the Rust (proofs/Cases has them).
-- Assumes nothing.
use Rattle.std.proofs.Common.{◌≡◌, ℕ, ◌*◌, ◌^◌, Bool, true, false, not, ◌&&◌, eqb, List, [], ◌∷◌, ◌++◌, drop, replicate, refl}
use Prim.Native.String.{String}
use Rattle.definitions.specs.Bytes.{Text, text, all}
use Rattle.definitions.specs.Refusals.{number}
use Rattle.definitions.specs.Blocks.{Block}
use Rattle.definitions.specs.FieldParser.{refused, accepted}
use Rattle.definitions.specs.Answer.{word, buffer_after}
use Rattle.definitions.specs.All.{Outcomes, refused_all, accepted_all, with_section, lower_all}
use Rattle.definitions.specs.declared.Refusal.{Refusal}
use Rattle.definitions.proofs.Opened.{everything}
use Rattle.definitions.proofs.Cases.{lite, packet, struct, plain, scalar, Case, refuses, agrees}

-- with the program's buffer of 65,536 bytes
right : Case → Bool
right c = agrees (lower_all c.given 65536) c.expected

gives : Text → Text → Case
gives rec whole = record { given = rec; expected = record { answered = 0; lines = whole } }

-- a target line
target : String → Text
target name = text "// target=" ++ (text name ++ text "\n")

-- P3: a skip behind a check of 2
skip : Text
skip = plain "reserved\nwidth=16"

skip_lines : Text
skip_lines = text "if (span.size() < 2) {\n    return false;\n}\nspan.skip(2); // skip reserved fields\n"

-- P6 and P9: refused, by 12 and 10
wide : Text
wide = scalar "a" "60" ++ scalar "b" "12"

pending : Text
pending = scalar "a" "8" ++ scalar "b" "4"

-- a typedef of E, an enum of 8 bits, closed
enum : Text
enum = text "decl=enum\nname=E\nwidth=8\nopen=0\ncomplete=0\n"

typed : Text
typed = plain "typedef\nid=e\ntype=E"

typed_lines : Text
typed_lines =
    text "if (span.size() < 1) {\n    return false;\n}\nauto raw_value0 = span.read_le<uint8_t, 1>();\nif (!IsValidE(raw_value0)) {\n   return false;\n}\n"
    ++ text "e_ = E(raw_value0);\n"

-- ---- which declarations have a section, and in which order

-- all five kinds
kinds : Text
kinds =
    text "decl=checksum\nname=C\nwidth=8\n"
    ++ (struct "S"
    ++ (skip
    ++ (enum
    ++ (packet "Lamp"
    ++ (plain "typedef\nid=s\ntype=S"
    ++ (text "decl=custom\nname=D\nwidth=8\ndecl=packet\nname=Late\nparent=Lamp\n"
    ++ (skip ++ text "decl=struct\nname=Last\nparent=-\n")))))))

kinds_lines : Text
kinds_lines =
    target "S"
    ++ (skip_lines
    ++ (target "Lamp" ++ (text "if (!S::Parse(span, &s_)) return false;\n" ++ (target "Late" ++ (skip_lines ++ target "Last")))))

-- the head asks for a target, which is not looked at but by 9
asking : String → Text → Text
asking name decls = text "endian=little\ntarget=" ++ (text name ++ (text "\narrays=lite\n" ++ decls))

which : List Case
which =
    gives (lite ++ packet "Lamp") (target "Lamp")
    ∷ gives (lite ++ (packet "Lamp" ++ skip)) (target "Lamp" ++ skip_lines)
    ∷ gives (asking "Lamp" kinds) kinds_lines
    ∷ gives (asking "S" kinds) kinds_lines
    ∷ refuses (asking "E" kinds) 9
    -- raw values are numbered anew in each
    ∷ gives (lite ++ (text "raw=numbered\n" ++ (enum ++ (struct "S" ++ (typed ++ (packet "Lamp" ++ typed))))))
    (target "S" ++ (typed_lines ++ (target "Lamp" ++ typed_lines)))
    ∷ []

-- ---- which refusal

turns : List Case
turns =
    refuses [] 1
    ∷ refuses (lite ++ (packet "Lamp" ++ text "x")) 2
    -- 9 and those before it come before any target's
    ∷ refuses (asking "None" (packet "Lamp" ++ wide)) 9
    ∷ refuses (lite ++ (packet "Lamp" ++ (wide ++ packet "int"))) 16
    ∷ refuses (lite ++ (packet "Lamp" ++ (wide ++ text "decl=struct\nname=S\nparent=-\nbits=8\n"))) 17
    -- the first target that is refused, whichever the head asks for
    ∷ refuses (lite ++ (packet "Lamp" ++ (skip ++ (packet "A" ++ (wide ++ (packet "B" ++ pending)))))) 12
    ∷ refuses (lite ++ (packet "Lamp" ++ (skip ++ (packet "B" ++ (pending ++ (packet "A" ++ wide)))))) 10
    ∷ refuses (lite ++ (struct "S" ++ (pending ++ packet "Lamp"))) 10
    ∷ []

all_right : all right (which ++ turns) ≡ true
unfolding everything lite packet struct plain scalar refuses agrees right gives target skip skip_lines wide pending enum typed typed_lines kinds kinds_lines asking which turns
all_right = refl

-- ---- 19: 8,192 bytes pass, the target line not counted. A payload that takes the rest has 23 bytes of lines and its name

of_name : ℕ → Outcomes
of_name n = with_section (text "Lamp") (accepted (Block.payload_to_end (replicate n 97) ∷ [])) (accepted_all [])

is_accepted : Outcomes → Bool
is_accepted (refused_all why) = false
is_accepted (accepted_all xs) = true

is_long : Outcomes → Bool
is_long (refused_all why) = eqb (number why) 19
is_long (accepted_all xs) = false

limit : (is_accepted (of_name 8169) && is_long (of_name 8170)) ≡ true
unfolding with_section of_name is_accepted is_long
limit = refl

-- before a later target's refusal, and behind the target's own
order : (is_long (with_section [] (accepted (Block.payload_to_end (replicate 8170 97) ∷ [])) (refused_all Refusal.OpenChunk)))
    && not (is_long (with_section [] (refused Refusal.OpenChunk) (of_name 8170))) ≡ true
unfolding with_section of_name is_long
order = refl

-- ---- 15: the whole, with its target lines; last

two : Text
two = lite ++ (struct "S" ++ (skip ++ (packet "Lamp" ++ skip)))

-- 2 times 81 bytes of lines, and 12 and 15
exact : word (lower_all two 189) ≡ 189
unfolding everything lite packet struct plain skip two
exact = refl

short : word (lower_all two 188) ≡ 15 * 2 ^ 32
unfolding everything lite packet struct plain skip two
short = refl

behind : drop 187 (buffer_after (lower_all two 192) (replicate 192 7)) ≡ text "s\n" ++ (7 ∷ 7 ∷ 7 ∷ [])
unfolding everything lite packet struct plain skip two
behind = refl

untouched : buffer_after (lower_all two 188) (replicate 188 7) ≡ replicate 188 7
unfolding everything lite packet struct plain skip two
untouched = refl

-- a later target's refusal comes first
later : (lower_all (two ++ (packet "B" ++ pending)) 0).answered ≡ 10
unfolding everything lite packet struct plain scalar skip two pending
later = refl
