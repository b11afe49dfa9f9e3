-- Computed tests of the definitions: P1 to P13 of document 01, as one table checked by one fact, and a second table with a case for every other
-- refusal and for each fault that document 01 names. What is expected stands in document 01 or was printed by the Rust.
-- Assumes nothing.
use Rattle.std.proofs.Common.{◌≡◌, ℕ, zero, suc, ◌*◌, ◌^◌, Bool, true, ◌&&◌, eqb, List, [], ◌∷◌, ◌++◌, length, take, drop, replicate, refl}
use Prim.Native.String.{String}
use Rattle.definitions.specs.Bytes.{Text, text, same, all}
use Rattle.definitions.specs.Keywords.{keywords}
use Rattle.definitions.specs.Answer.{Lowered, lower, word, buffer_after}
use Rattle.definitions.proofs.Opened.{everything}

-- ---- records

-- the head of P1
unfoldable pub lite : Text
lite = text "endian=little\ntarget=Lamp\narrays=lite\n"

full : Text
full = text "endian=little\ntarget=Lamp\narrays=full\n"

-- a packet or struct without a parent, before its fields
unfoldable pub packet : String → Text
packet name = text "decl=packet\nname=" ++ (text name ++ text "\nparent=-\n")

unfoldable pub struct : String → Text
struct name = text "decl=struct\nname=" ++ (text name ++ text "\nparent=-\n")

-- P1's head and the packet Lamp
lamp : Text → Text
lamp fields = lite ++ (packet "Lamp" ++ fields)

-- the lines of a field without a condition
unfoldable pub plain : String → Text
plain lines = text "field=" ++ (text lines ++ text "\nif=-\n")

unfoldable pub scalar : String → String → Text
scalar id width = text "field=scalar\nid=" ++ (text id ++ (text "\nwidth=" ++ (text width ++ text "\nif=-\n")))

payload : Text
payload = plain "payload\nmod=-"

-- a scalar of 8 bits that is there where `c` is 1; a record need not have a field `c`
optional : Text
optional = text "field=scalar\nid=o\nwidth=8\nif=c\nis=1\n"

-- ---- tables

pub record Case : Type 0 where
  pub given : Text
  pub expected : Lowered

unfoldable pub refuses : Text → ℕ → Case
refuses rec n = record { given = rec; expected = record { answered = n; lines = [] } }

prints : Text → String → Case
prints rec lines = record { given = rec; expected = record { answered = 0; lines = text lines } }

unfoldable pub agrees : Lowered → Lowered → Bool
agrees a b = eqb a.answered b.answered && same a.lines b.lines

-- with the program's buffer of 65,536 bytes
right : Case → Bool
right c = agrees (lower c.given 65536) c.expected

-- the packet of P13
thirteen : Text
thirteen = packet "Lamp" ++ (payload ++ (plain "array\nid=a\nwidth=8\ntype=-\nmod=-\ncount=2" ++ plain "padding\nbytes=8"))

-- P1 to P13
marked : List Case
marked =
    -- P1
    prints (lamp (scalar "amps" "12" ++ (plain "reserved\nwidth=4" ++ payload)))
    "if (span.size() < 2) {\n    return false;\n}\nuint16_t chunk0 = span.read_le<uint16_t, 2>();\namps_ = (chunk0 >> 0) & 0xfff;\npayload_ = span;\nspan.clear();\n"
    -- P2: no fields
    ∷ prints (lamp []) ""
    -- P3: a skip behind a check of 2
    ∷ prints (lamp (plain "reserved\nwidth=16"))
    "if (span.size() < 2) {\n    return false;\n}\nspan.skip(2); // skip reserved fields\n"
    -- P4: three octets in 32 bits
    ∷ prints (lamp (scalar "x" "24")) "if (span.size() < 3) {\n    return false;\n}\nx_ = span.read_le<uint32_t, 3>();\n"
    -- P5: 8 bytes
    ∷ prints (lamp (scalar "a" "60" ++ scalar "b" "4"))
    "if (span.size() < 8) {\n    return false;\n}\nuint64_t chunk0 = span.read_le<uint64_t, 8>();\na_ = (chunk0 >> 0) & 0xfffffffffffffff;\nb_ = (chunk0 >> 60) & 0xf;\n"
    -- P6 and P7: more than 64 bits
    ∷ refuses (lamp (scalar "a" "60" ++ scalar "b" "12")) 12
    ∷ refuses (lamp (scalar "a" "60" ++ (scalar "b" "5" ++ scalar "c" "7"))) 12
    -- P8: an open chunk at the end is dropped; P9: not where lines are pending
    ∷ prints (lamp (scalar "a" "4")) ""
    ∷ refuses (lamp (scalar "a" "8" ++ scalar "b" "4")) 10
    -- P10: a typedef in an open chunk
    ∷ refuses (lite ++ (struct "S" ++ (packet "Lamp" ++ (scalar "a" "4" ++ plain "typedef\nid=t\ntype=S")))) 11
    ∷ refuses (lite ++ (struct "S" ++ (packet "Lamp" ++ (scalar "b" "8" ++ (scalar "a" "4" ++ plain "typedef\nid=t\ntype=S"))))) 10
    -- P11: trailing 1 byte
    ∷ prints (lamp (payload ++ scalar "x" "8"))
    "if (span.size() < 1) return false;\npayload_ = span.subrange(0, span.size() - 1);\nspan.skip(span.size() - 1);\nif (span.size() < 1) {\n    return false;\n}\nx_ = span.read_le<uint8_t, 1>();\n"
    -- P12: an optional field behind a payload, without and with a size
    ∷ refuses (lamp (payload ++ optional)) 14
    ∷ prints (lamp (plain "size\nof=_payload_\nwidth=8" ++ (payload ++ optional)))
    "if (span.size() < 1) {\n    return false;\n}\npayload_size_ = span.read_le<uint8_t, 1>();\nif (span.size() < payload_size_) return false;\npayload_ = span.subrange(0, payload_size_);\nspan.skip(payload_size_);\nif (c == 1) {\n    if (span.size() < 1) {\n        return false;\n    }\n    o_ = span.read_le<uint8_t, 1>();\n}\n"
    -- P13: trailing 2 bytes, not 8
    ∷ prints (lite ++ thirteen)
    "if (span.size() < 2) return false;\npayload_ = span.subrange(0, span.size() - 2);\nspan.skip(span.size() - 2);\nsize_t a_start_size = span.size();\nif (span.size() < 2) {\n    return false;\n}\na_ = span.subrange(0, 2);\nspan.skip(2);\nif (a_start_size - span.size() < 8) {\n    if (span.size() < 8 - (a_start_size - span.size())) return false;\n    span.skip(8 - (a_start_size - span.size()));\n}\n"
    -- and with `padded` 8 (document 02, Card 3)
    ∷ prints (lite ++ (text "trailing=padded\n" ++ thirteen))
    "if (span.size() < 8) return false;\npayload_ = span.subrange(0, span.size() - 8);\nspan.skip(span.size() - 8);\nsize_t a_start_size = span.size();\nif (span.size() < 2) {\n    return false;\n}\na_ = span.subrange(0, 2);\nspan.skip(2);\nif (a_start_size - span.size() < 8) {\n    if (span.size() < 8 - (a_start_size - span.size())) return false;\n    span.skip(8 - (a_start_size - span.size()));\n}\n"
    ∷ []

marked-right : all right marked ≡ true
unfolding everything lite full packet struct lamp plain scalar payload optional refuses prints agrees right thirteen marked
marked-right = refl

-- ---- the other refusals, on both sides of their limits, and the faults that document 01 names

repeated : ℕ → Text → Text
repeated zero t = []
repeated (suc n) t = t ++ repeated n t

-- `decl=enum` with its marks
enum : String → String → Text
enum width marks = text "decl=enum\nname=E\nwidth=" ++ (text width ++ (text "\n" ++ (text marks ++ text "\n")))

-- an array of so many elements of a width, or of a type
array : String → String → String → Text
array width type count =
    text "field=array\nid=v\nwidth="
    ++ (text width ++ (text "\ntype=" ++ (text type ++ (text "\nmod=-\ncount=" ++ (text count ++ text "\nif=-\n")))))

-- S has 32,768 bits, and 65,535 of them 2 ^ 31 - 32,768
large : Text → Text
large fields = lite ++ (struct "S" ++ (array "8" "-" "4096" ++ (packet "Lamp" ++ (array "-" "S" "65535" ++ fields))))

-- full mode, and an enum E of 8 bits that is complete
in_full : Text → Text
in_full fields = full ++ (enum "8" "open=0\ncomplete=1" ++ (packet "Lamp" ++ fields))

others : List Case
others =
    -- 1: nothing, and one byte too many; 16,384 bytes are read
    refuses [] 1
    ∷ refuses (replicate 16385 97) 1
    ∷ refuses (replicate 16384 97) 2
    -- 2: the last newline, an empty line, a leading zero, 2 ^ 64, two names that the lines use, and one that they do not
    ∷ refuses (text "endian=little\ntarget=Lamp\narrays=lite\ndecl=packet\nname=Lamp\nparent=-") 2
    ∷ refuses (lamp (text "\n")) 2
    ∷ refuses (lamp (scalar "a" "08")) 2
    ∷ refuses (lamp (scalar "a" "18446744073709551616")) 2
    ∷ refuses (lamp (scalar "span" "8")) 2
    ∷ refuses (lamp (scalar "chunk7" "8")) 2
    ∷ prints (lamp (scalar "chunk" "4")) ""
    -- 2 is judged behind the 65th field too
    ∷ refuses (lamp (repeated 65 (plain "body") ++ text "field=group\n")) 2
    -- 3: 33 declarations, 65 fields; 32 and 64 are read
    ∷ refuses (lite ++ repeated 33 (packet "Lamp")) 3
    ∷ refuses (lite ++ repeated 32 (packet "Lamp")) 4
    ∷ refuses (lamp (repeated 65 (plain "body"))) 3
    ∷ refuses (lamp (repeated 64 (plain "body"))) 14
    -- 4
    ∷ refuses (lite ++ (struct "S" ++ (packet "Lamp" ++ packet "S"))) 4
    -- 5: a type that comes later, a parent that is an enum, a fixed enum of a struct
    ∷ refuses (lamp (plain "typedef\nid=t\ntype=S" ++ struct "S")) 5
    ∷ refuses (lite ++ (enum "8" "open=0\ncomplete=0" ++ text "decl=packet\nname=Lamp\nparent=E\n")) 5
    ∷ refuses (lite ++ (struct "S" ++ (packet "Lamp" ++ plain "fixedenum\ntype=S\ntag=t"))) 5
    -- 6
    ∷ refuses (lamp (scalar "a" "0")) 6
    ∷ refuses (lamp (scalar "a" "65")) 6
    ∷ refuses (lamp (array "8" "-" "65536")) 6
    -- 7: 2 ^ 31 bits, and one less
    ∷ refuses (large (array "8" "-" "4096")) 7
    ∷ prints (large (array "8" "-" "4095" ++ scalar "a" "7"))
    "if (span.size() < 268431360) {\n    return false;\n}\nv_ = span.subrange(0, 268431360);\nspan.skip(268431360);\nif (span.size() < 4095) {\n    return false;\n}\nv_ = span.subrange(0, 4095);\nspan.skip(4095);\n"
    -- 8: elements of 12 bits and of none, an optional scalar and an optional enum of 12 bits
    ∷ refuses (lamp (array "12" "-" "2")) 8
    ∷ refuses (lite ++ (struct "S" ++ (packet "Lamp" ++ array "-" "S" "2"))) 8
    ∷ refuses (lamp (text "field=scalar\nid=o\nwidth=12\nif=c\nis=1\n")) 8
    ∷ refuses (lite ++ (enum "12" "open=0\ncomplete=0" ++ (packet "Lamp" ++ text "field=typedef\nid=o\ntype=E\nif=c\nis=1\n"))) 8
    -- 9: an enum, and no declaration at all
    ∷ refuses (text "endian=little\ntarget=E\narrays=lite\n" ++ enum "8" "open=0\ncomplete=0") 9
    ∷ refuses (text "endian=little\ntarget=T\narrays=lite\n" ++ packet "Lamp") 9
    -- 13
    ∷ refuses (lamp (text "field=payload\nmod=-\nif=c\nis=1\n")) 13
    -- a dropped chunk is not counted in the check
    ∷ prints (lamp (array "8" "-" "2" ++ scalar "a" "4")) "if (span.size() < 2) {\n    return false;\n}\nv_ = span.subrange(0, 2);\nspan.skip(2);\n"
    -- an array inside an open chunk with nothing pending, and the chunk goes on
    ∷ prints (lamp (scalar "a" "4" ++ (array "8" "-" "2" ++ scalar "b" "4")))
    "if (span.size() < 2) {\n    return false;\n}\nv_ = span.subrange(0, 2);\nspan.skip(2);\nif (span.size() < 1) {\n    return false;\n}\nuint8_t chunk0 = span.read_le<uint8_t, 1>();\na_ = (chunk0 >> 0) & 0xf;\nb_ = (chunk0 >> 4) & 0xf;\n"
    -- the chunk's number goes on behind a flush
    ∷ prints (lamp (scalar "a" "4" ++ (scalar "b" "4" ++ (array "8" "-" "2" ++ (scalar "c" "4" ++ scalar "d" "4")))))
    "if (span.size() < 1) {\n    return false;\n}\nuint8_t chunk0 = span.read_le<uint8_t, 1>();\na_ = (chunk0 >> 0) & 0xf;\nb_ = (chunk0 >> 4) & 0xf;\nif (span.size() < 2) {\n    return false;\n}\nv_ = span.subrange(0, 2);\nspan.skip(2);\nif (span.size() < 1) {\n    return false;\n}\nuint8_t chunk1 = span.read_le<uint8_t, 1>();\nc_ = (chunk1 >> 0) & 0xf;\nd_ = (chunk1 >> 4) & 0xf;\n"
    -- `complete` spares `IsValid` for a bit field, and not in an array
    ∷ prints (in_full (plain "typedef\nid=e\ntype=E" ++ array "-" "E" "2"))
    "if (span.size() < 1) {\n    return false;\n}\noutput->e_ = E(span.read_le<uint8_t, 1>());\nif (span.size() < 2) {\n    return false;\n}\nfor (size_t n = 0; n < 2; n++) {\n    auto raw_value = span.read_le<uint8_t, 1>();\n    if (!IsValidE(raw_value)) {\n        return false;\n    }\n    output->v_[n] = E(raw_value);\n}\n"
    ∷ []

others-right : all right others ≡ true
unfolding everything lite full packet struct lamp plain scalar refuses prints agrees right repeated enum array large in_full others
others-right = refl

-- ---- 16: a name that C++ keeps for itself

how-many : length keywords ≡ 84
unfolding everything
how-many = refl

-- a scalar of this name is read
named : String → Case
named id = prints (lamp (scalar id "4")) ""

taken : List Case
taken =
    -- at each of the eight places: id, target, name, parent, of, type, tag, if
    refuses (lamp (scalar "register" "8")) 16
    ∷ refuses (text "endian=little\ntarget=int\narrays=lite\n" ++ packet "Lamp") 16
    ∷ refuses (lite ++ (struct "struct" ++ packet "Lamp")) 16
    ∷ refuses (lite ++ text "decl=packet\nname=Lamp\nparent=union\n") 16
    ∷ refuses (lamp (plain "size\nof=xor\nwidth=8")) 16
    ∷ refuses (lamp (plain "typedef\nid=t\ntype=wchar_t")) 16
    ∷ refuses (lamp (plain "fixedenum\ntype=E\ntag=true")) 16
    ∷ refuses (lamp (text "field=scalar\nid=o\nwidth=8\nif=and\nis=1\n")) 16
    -- the first and the last word of each table, and the longest
    ∷ refuses (lamp (scalar "alignas" "8")) 16
    ∷ refuses (lamp (scalar "while" "8")) 16
    ∷ refuses (lamp (scalar "xor_eq" "8")) 16
    ∷ refuses (lamp (scalar "reinterpret_cast" "8")) 16
    -- only the exact word, and no word of other versions
    ∷ named "Register"
    ∷ named "register1"
    ∷ named "registe"
    ∷ named "final"
    ∷ named "char8_t"
    -- 2 is tested over the whole record before it, and it before 3: also in a 65th field and a 33rd declaration
    ∷ refuses (lamp (scalar "int" "8" ++ text "\n")) 2
    ∷ refuses (lamp (repeated 64 (plain "body") ++ scalar "int" "8")) 16
    ∷ refuses (lite ++ (repeated 32 (packet "Lamp") ++ packet "int")) 16
    ∷ []

taken-right : all right taken ≡ true
unfolding everything lite packet struct lamp plain scalar refuses prints agrees right repeated named taken
taken-right = refl

-- ---- 17: a `bits` line

-- Lamp with this value, and these fields
sized : String → Text → Text
sized bits fields = lamp (text "bits=" ++ (text bits ++ (text "\n" ++ fields)))

-- a struct S of these fields, and Lamp
before : String → Text → Text
before bits fields = lite ++ (struct "S" ++ (text "bits=" ++ (text bits ++ (text "\n" ++ (fields ++ packet "Lamp")))))

padded : Text
padded = array "8" "-" "2" ++ plain "padding\nbytes=8"

stated : List Case
stated =
    -- the form: digits, no leading zero, below 2 ^ 64, or a word
    prints (sized "4" (scalar "a" "4")) ""
    ∷ refuses (sized "18446744073709551615" (scalar "a" "4")) 17
    ∷ refuses (sized "18446744073709551616" (scalar "a" "4")) 2
    ∷ refuses (sized "04" (scalar "a" "4")) 2
    ∷ refuses (sized "-" (scalar "a" "4")) 2
    ∷ refuses (sized "Dynamic" (scalar "a" "4")) 2
    -- twice, at another place, and in another declaration
    ∷ refuses (sized "4\nbits=4" (scalar "a" "4")) 2
    ∷ refuses (lamp (scalar "a" "4" ++ text "bits=4\n")) 2
    ∷ refuses (lite ++ (text "decl=packet\nname=Lamp\nbits=0\nparent=-\n")) 2
    ∷ refuses (lite ++ (enum "8" "open=0\ncomplete=0\nbits=8" ++ packet "Lamp")) 2
    -- the words, each for the other two
    ∷ prints (before "dynamic" (plain "size\nof=v\nwidth=8" ++ array "8" "-" "-")) ""
    ∷ refuses (before "unknown" (plain "size\nof=v\nwidth=8" ++ array "8" "-" "-")) 17
    ∷ prints (before "unknown" (array "8" "-" "-")) ""
    ∷ refuses (before "dynamic" (array "8" "-" "-")) 17
    ∷ refuses (before "0" (array "8" "-" "-")) 17
    ∷ refuses (before "dynamic" (scalar "a" "4")) 17
    -- without the payload and the parents
    ∷ prints (before "0" payload) ""
    ∷ prints (before "8" (scalar "a" "8") ++ text "decl=packet\nname=L2\nparent=S\nbits=4\nfield=scalar\nid=b\nwidth=4\nif=-\n") ""
    ∷ refuses (before "8" (scalar "a" "8") ++ text "decl=packet\nname=L2\nparent=S\nbits=12\nfield=scalar\nid=b\nwidth=4\nif=-\n") 17
    -- a padded size counts in place of the field's own, also of an optional field, and not of a payload
    ∷ prints (before "64" padded) ""
    ∷ refuses (before "16" padded) 17
    ∷ prints (before "64" (optional ++ plain "padding\nbytes=8")) ""
    ∷ refuses (before "dynamic" (optional ++ plain "padding\nbytes=8")) 17
    ∷ prints (before "0" (payload ++ plain "padding\nbytes=8")) ""
    -- in any declaration, behind 8, and before 9
    ∷ refuses (before "7" (scalar "a" "8")) 17
    ∷ refuses (before "7" (array "12" "-" "2")) 8
    ∷ refuses (text "endian=little\ntarget=T\narrays=lite\n" ++ (packet "Lamp" ++ text "bits=1\n")) 17
    ∷ refuses (text "endian=little\ntarget=T\narrays=lite\n" ++ (packet "Lamp" ++ text "bits=0\n")) 9
    ∷ []

stated-right : all right stated ≡ true
unfolding everything lite packet struct lamp plain scalar payload optional refuses prints agrees right enum array sized before padded stated
stated-right = refl

-- ---- the head's line `trailing` (document 02, Card 3)

-- as far as the expected lines go
begins : Case → Bool
begins c =
    let l = lower c.given 65536 in
    agrees (record { answered = l.answered; lines = take (length c.expected.lines) l.lines }) c.expected

-- a payload up to so many bytes
up_to : String → Text
up_to n =
    text "if (span.size() < " ++ (text n ++ (text ") return false;\npayload_ = span.subrange(0, span.size() - " ++ (text n ++ text ");\n")))

-- this line, a struct S that may vary, a custom field C that does, and Lamp with these fields
trailing : String → Text → Text
trailing line fields =
    lite ++ (text line ++ (struct "S" ++ (payload ++ (text "decl=custom\nname=C\nwidth=-\n" ++ (packet "Lamp" ++ fields)))))

starts : Text → Text → Case
starts rec lines = record { given = rec; expected = record { answered = 0; lines = lines } }

-- these fields behind a payload, with the line absent, plain and padded: the bytes that they count
counts : Text → String → String → List Case
counts fields plainly padded =
    starts (trailing "" (payload ++ fields)) (up_to plainly)
    ∷ starts (trailing "trailing=plain\n" (payload ++ fields)) (up_to plainly)
    ∷ starts (trailing "trailing=padded\n" (payload ++ fields)) (up_to padded)
    ∷ []

-- only padded they count something
opens : Text → String → List Case
opens fields padded =
    refuses (trailing "" (payload ++ fields)) 14
    ∷ refuses (trailing "trailing=plain\n" (payload ++ fields)) 14
    ∷ starts (trailing "trailing=padded\n" (payload ++ fields)) (up_to padded)
    ∷ []

-- padded they count nothing either
never : Text → List Case
never fields = refuses (trailing "" (payload ++ fields)) 14 ∷ refuses (trailing "trailing=padded\n" (payload ++ fields)) 14 ∷ []

padding : String → Text
padding bytes = text "field=padding\nbytes=" ++ (text bytes ++ text "\nif=-\n")

trails : List (List Case)
trails =
    -- alone, and between others
    counts (array "8" "-" "2" ++ padding "8") "2" "8"
    ∷ counts (scalar "z" "8" ++ (array "8" "-" "2" ++ (padding "8" ++ scalar "y" "16"))) "5" "11"
    -- in place of the array's size, whatever that is: dynamic, unknown, unknown elements, larger
    ∷ opens (plain "count\nof=v\nwidth=8" ++ (array "8" "-" "-" ++ padding "4")) "5"
    ∷ opens (array "8" "-" "-" ++ padding "4") "4"
    ∷ opens (array "-" "S" "2" ++ padding "4") "4"
    ∷ counts (array "8" "-" "4" ++ padding "2") "4" "2"
    -- only a padding just behind the array, and of two the first
    ∷ counts (array "8" "-" "2" ++ (padding "3" ++ padding "8")) "2" "3"
    ∷ counts (array "8" "-" "2" ++ (scalar "z" "8" ++ padding "8")) "3" "3"
    -- bits are summed first
    ∷ counts (scalar "a" "4" ++ (array "8" "-" "2" ++ (padding "8" ++ scalar "b" "4"))) "3" "9"
    ∷ counts (array "8" "-" "2" ++ (padding "8" ++ scalar "b" "4")) "2" "8"
    -- no array: a scalar, a typedef, a body
    ∷ counts (scalar "z" "8" ++ padding "4") "1" "1"
    ∷ never (plain "typedef\nid=t\ntype=C" ++ padding "4")
    ∷ never (plain "body" ++ padding "4")
    -- an optional array, an optional padding, no padding
    ∷ never (text "field=array\nid=v\nwidth=8\ntype=-\nmod=-\ncount=2\nif=c\nis=1\n" ++ padding "4")
    ∷ never (array "8" "-" "2" ++ text "field=padding\nbytes=4\nif=c\nis=1\n")
    ∷ never (array "8" "-" "-")
    ∷ []

single : List Case
single =
    -- a padding of none: the payload takes all
    starts (trailing "trailing=padded\n" (payload ++ (array "8" "-" "2" ++ padding "0"))) (text "payload_ = span;\nspan.clear();\n")
    -- a typedef that may vary, and a payload with a size
    ∷ starts (trailing "" (plain "typedef\nid=t\ntype=S" ++ (array "8" "-" "2" ++ padding "8"))) (text "if (span.size() < 2) return false;\n")
    ∷ starts (trailing "trailing=padded\n" (plain "typedef\nid=t\ntype=S" ++ (array "8" "-" "2" ++ padding "8"))) (text "if (span.size() < 8) return false;\n")
    ∷ starts (trailing "trailing=padded\n" (plain "size\nof=_payload_\nwidth=8" ++ (payload ++ array "8" "-" "-"))) (text "if (span.size() < 1) {\n")
    -- more than 2 ^ 31 - 1 bits: 7 keeps the field sizes
    ∷ starts
    (lite
    ++ (text "trailing=padded\n"
    ++ (struct "S"
    ++ (array "8" "-" "4096"
    ++ (text "decl=custom\nname=C\nwidth=-\n"
    ++ (packet "Lamp" ++ (plain "typedef\nid=c\ntype=C" ++ (payload ++ (array "-" "S" "65535" ++ (array "8" "-" "-" ++ padding "65535"))))))))))
    (text "if (!C::Parse(span, &c_)) return false;\n" ++ up_to "268496895")
    -- 2: another word, another place, twice
    ∷ refuses (trailing "trailing=Padded\n" []) 2
    ∷ refuses (trailing "trailing=-\n" []) 2
    ∷ refuses (trailing "trailing=\n" []) 2
    ∷ refuses (text "endian=little\ntarget=Lamp\ntrailing=padded\narrays=lite\n" ++ packet "Lamp") 2
    ∷ refuses (lamp (text "trailing=padded\n")) 2
    ∷ refuses (trailing "trailing=padded\ntrailing=padded\n" []) 2
    ∷ refuses (trailing "trailing=plain\ntrailing=padded\n" []) 2
    ∷ []

trails-right : all (all begins) (single ∷ trails) ≡ true
unfolding everything lite packet struct lamp plain scalar payload refuses agrees array begins up_to trailing starts counts opens never padding trails single
trails-right = refl

-- ---- the head's line `raw` (document 02, Card 7)

-- these lines of the head, a closed enum E, an open one F, a complete one G, and Lamp with these fields
raws : String → Text → Text
raws lines fields =
    lite
    ++ (text lines
    ++ (enum "8" "open=0\ncomplete=0"
    ++ (text "decl=enum\nname=F\nwidth=8\nopen=1\ncomplete=0\ndecl=enum\nname=G\nwidth=8\nopen=0\ncomplete=1\n"
    ++ (text "decl=enum\nname=H\nwidth=4\nopen=0\ncomplete=0\n" ++ (packet "Lamp" ++ fields)))))

typed : String → String → Text
typed id type = text "field=typedef\nid=" ++ (text id ++ (text "\ntype=" ++ (text type ++ text "\nif=-\n")))

-- the lines of a tested enum of 8 bits alone in its chunk, with these digits
tested : String → String → String → Text
tested id type digits =
    text "auto raw_value" ++ (text digits ++ (text " = span.read_le<uint8_t, 1>();\nif (!IsValid"
    ++ (text type ++ (text "(raw_value" ++ (text digits ++ (text ")) {\n   return false;\n}\n"
    ++ (text id ++ (text "_ = " ++ (text type ++ (text "(raw_value" ++ (text digits ++ text ");\n")))))))))))

room : String → Text
room n = text "if (span.size() < " ++ (text n ++ text ") {\n    return false;\n}\n")

-- with the lines absent and plain, and with numbered
lines : Text → Text → Text → List Case
lines fields plainly numbered =
    starts (raws "" fields) plainly
    ∷ starts (raws "raw=plain\n" fields) plainly
    ∷ starts (raws "trailing=padded\nraw=plain\n" fields) plainly
    ∷ starts (raws "raw=numbered\n" fields) numbered
    ∷ starts (raws "trailing=plain\nraw=numbered\n" fields) numbered
    ∷ []

-- a closed enum of 4 bits out of `chunk0`
nibble : String → String → String → Text
nibble id shift digits =
    text "auto raw_value" ++ (text digits ++ (text " = (chunk0 >> " ++ (text shift ++ (text ") & 0xf;\nif (!IsValidH(raw_value"
    ++ (text digits ++ (text ")) {\n   return false;\n}\n" ++ (text id ++ (text "_ = H(raw_value" ++ (text digits ++ text ");\n")))))))))

numbers : List (List Case)
numbers =
    -- one alone has a number too
    lines (typed "a" "E") (room "1" ++ tested "a" "E" "") (room "1" ++ tested "a" "E" "0")
    -- two chunks of one run
    ∷ lines (typed "a" "E" ++ typed "b" "E") (room "2" ++ (tested "a" "E" "" ++ tested "b" "E" ""))
    (room "2" ++ (tested "a" "E" "0" ++ tested "b" "E" "1"))
    -- two fields of one chunk, and one behind it
    ∷ lines (typed "a" "H" ++ (typed "b" "H" ++ typed "c" "E"))
    (room "2" ++ (text "uint8_t chunk0 = span.read_le<uint8_t, 1>();\n" ++ (nibble "a" "0" "" ++ (nibble "b" "4" "" ++ tested "c" "E" ""))))
    (room "2" ++ (text "uint8_t chunk0 = span.read_le<uint8_t, 1>();\n" ++ (nibble "a" "0" "0" ++ (nibble "b" "4" "1" ++ tested "c" "E" "2"))))
    -- open and complete enums, scalars and fixed fields take none
    ∷ lines (typed "o" "F" ++ (typed "g" "G" ++ (scalar "s" "8" ++ (plain "fixedenum\ntype=E\ntag=T" ++ typed "a" "E"))))
    (room "5"
    ++ (text "o_ = F(span.read_le<uint8_t, 1>());\ng_ = G(span.read_le<uint8_t, 1>());\ns_ = span.read_le<uint8_t, 1>();\n"
    ++ (text "if (E(span.read_le<uint8_t, 1>()) != E::T) {\n    return false;\n}\n" ++ tested "a" "E" "")))
    (room "5"
    ++ (text "o_ = F(span.read_le<uint8_t, 1>());\ng_ = G(span.read_le<uint8_t, 1>());\ns_ = span.read_le<uint8_t, 1>();\n"
    ++ (text "if (E(span.read_le<uint8_t, 1>()) != E::T) {\n    return false;\n}\n" ++ tested "a" "E" "0")))
    -- a flush between them; the optional enum keeps its name and takes no number
    ∷ lines (scalar "c" "8" ++ (typed "a" "E" ++ (text "field=typedef\nid=p\ntype=E\nif=c\nis=1\n" ++ typed "b" "E")))
    (room "2"
    ++ (text "uint8_t c = span.read_le<uint8_t, 1>();\n"
    ++ (tested "a" "E" ""
    ++ (text "if (c == 1) {\n    if (span.size() < 1) {\n        return false;\n    }\n    auto raw_value = span.read_le<uint8_t, 1>();\n"
    ++ (text "    if (!IsValidE(raw_value)) {\n       return false;\n    }\n    p_ = E(raw_value);\n}\n" ++ (room "1" ++ tested "b" "E" ""))))))
    (room "2"
    ++ (text "uint8_t c = span.read_le<uint8_t, 1>();\n"
    ++ (tested "a" "E" "0"
    ++ (text "if (c == 1) {\n    if (span.size() < 1) {\n        return false;\n    }\n    auto raw_value = span.read_le<uint8_t, 1>();\n"
    ++ (text "    if (!IsValidE(raw_value)) {\n       return false;\n    }\n    p_ = E(raw_value);\n}\n" ++ (room "1" ++ tested "b" "E" "1"))))))
    -- names of the record that read like it are as they were
    ∷ lines (plain "flag\nid=raw_value0" ++ (plain "reserved\nwidth=7" ++ typed "raw_value1" "E"))
    (room "2"
    ++ (text "uint8_t chunk0 = span.read_le<uint8_t, 1>();\nuint8_t raw_value0 = (chunk0 >> 0) & 0x1;\n" ++ tested "raw_value1" "E" ""))
    (room "2"
    ++ (text "uint8_t chunk0 = span.read_le<uint8_t, 1>();\nuint8_t raw_value0 = (chunk0 >> 0) & 0x1;\n" ++ tested "raw_value1" "E" "0"))
    ∷ []

-- an array of a closed enum keeps the old name and takes no number
in_arrays : List Case
in_arrays =
    starts
    (full
    ++ (text "raw=numbered\n"
    ++ (enum "8" "open=0\ncomplete=0" ++ (packet "Lamp" ++ (typed "a" "E" ++ (array "-" "E" "2" ++ typed "b" "E"))))))
    (room "1"
    ++ (text "auto raw_value0 = span.read_le<uint8_t, 1>();\nif (!IsValidE(raw_value0)) {\n   return false;\n}\noutput->a_ = E(raw_value0);\n"
    ++ (room "2"
    ++ (text "for (size_t n = 0; n < 2; n++) {\n    auto raw_value = span.read_le<uint8_t, 1>();\n    if (!IsValidE(raw_value)) {\n"
    ++ (text "        return false;\n    }\n    output->v_[n] = E(raw_value);\n}\n"
    ++ (room "1" ++ text "auto raw_value1 = span.read_le<uint8_t, 1>();\nif (!IsValidE(raw_value1)) {\n"))))))
    -- 2: another word, another place, twice, before `trailing`
    ∷ refuses (raws "raw=Numbered\n" []) 2
    ∷ refuses (raws "raw=-\n" []) 2
    ∷ refuses (raws "raw=\n" []) 2
    ∷ refuses (raws "raw=numbered" []) 2
    ∷ refuses (raws "raw=numbered\ntrailing=plain\n" []) 2
    ∷ refuses (raws "raw=plain\nraw=numbered\n" []) 2
    ∷ refuses (raws "raw=numbered\nraw=numbered\n" []) 2
    ∷ refuses (text "endian=little\ntarget=Lamp\nraw=numbered\narrays=lite\n" ++ packet "Lamp") 2
    ∷ refuses (text "raw=numbered\n" ++ (lite ++ packet "Lamp")) 2
    ∷ refuses (lamp (text "raw=numbered\n")) 2
    ∷ []

numbers-right : all (all begins) (in_arrays ∷ numbers) ≡ true
unfolding everything lite full packet struct lamp plain scalar refuses agrees enum array begins starts raws typed tested room lines nibble numbers in_arrays
numbers-right = refl

-- ---- the head's line `products` (document 02, Card 8)

-- this head, these lines of it, a struct S that may vary, one T of 24 bits, and Lamp with these fields
factors : Text → String → Text → Text
factors head lines fields =
    head ++ (text lines ++ (struct "S" ++ (payload ++ (struct "T" ++ (scalar "t" "24" ++ (packet "Lamp" ++ fields))))))

-- a field of 32 bits that gives the array's count, size or element size
given : String → Text
given key = text "field=" ++ (text key ++ text "\nof=v\nwidth=32\nif=-\n")

-- what stands between `if (` and `) {` of an array's check
asks : String → Text
asks test = text "if (" ++ (text test ++ text ") {\n    return false;\n}\n")

-- these fields, whose lines begin so up to the array's check: with the line absent and plain, and with divide; behind the check they go on alike
divides : Text → Text → Text → String → String → Text → List Case
divides head fields ahead plainly divided behind =
    starts (factors head "" fields) (ahead ++ (asks plainly ++ behind))
    ∷ starts (factors head "products=plain\n" fields) (ahead ++ (asks plainly ++ behind))
    ∷ starts (factors head "trailing=padded\nraw=numbered\nproducts=plain\n" fields) (ahead ++ (asks plainly ++ behind))
    ∷ starts (factors head "products=divide\n" fields) (ahead ++ (asks divided ++ behind))
    ∷ starts (factors head "trailing=plain\nproducts=divide\n" fields) (ahead ++ (asks divided ++ behind))
    ∷ starts (factors head "raw=numbered\nproducts=divide\n" fields) (ahead ++ (asks divided ++ behind))
    ∷ []

-- the same lines under both words
keeps : Text → Text → Text → List Case
keeps head fields ls = starts (factors head "" fields) ls ∷ starts (factors head "products=divide\n" fields) ls ∷ []

-- a count, an element size, or both, before the array
read32 : String → Text
read32 x = text x ++ text " = span.read_le<uint32_t, 4>();\n"

products : List (List Case)
products =
    -- lite: Static elements and a count field; of 2 bytes, 1 byte, and a struct of 3
    divides lite (given "count" ++ array "16" "-" "-") (room "4" ++ read32 "v_count_") "span.size() < 2 * v_count_"
    "2 != 0 && span.size() / 2 < v_count_" (text "v_ = span.subrange(0, 2 * v_count_);\nspan.skip(2 * v_count_);\n")
    ∷ divides lite (given "count" ++ array "8" "-" "-") (room "4" ++ read32 "v_count_") "span.size() < 1 * v_count_"
    "1 != 0 && span.size() / 1 < v_count_" (text "v_ = span.subrange(0, 1 * v_count_);\nspan.skip(1 * v_count_);\n")
    ∷ divides lite (given "count" ++ array "-" "T" "-") (room "4" ++ read32 "v_count_") "span.size() < 3 * v_count_"
    "3 != 0 && span.size() / 3 < v_count_" (text "v_ = span.subrange(0, 3 * v_count_);\nspan.skip(3 * v_count_);\n")
    -- lite: Dynamic elements; the test for 0 in front stays
    ∷ divides lite (given "elemsize" ++ array "-" "S" "3") (room "4" ++ (read32 "v_element_size_" ++ asks "v_element_size_ == 0"))
    "span.size() < v_element_size_ * 3" "v_element_size_ != 0 && span.size() / v_element_size_ < 3"
    (text "v_ = span.subrange(0, v_element_size_ * 3);\nspan.skip(v_element_size_ * 3);\n")
    ∷ divides lite (given "elemsize" ++ (given "count" ++ array "-" "S" "-"))
    (room "8" ++ (read32 "v_element_size_" ++ (read32 "v_count_" ++ asks "v_element_size_ == 0")))
    "span.size() < v_element_size_ * v_count_" "v_element_size_ != 0 && span.size() / v_element_size_ < v_count_"
    (text "v_ = span.subrange(0, v_element_size_ * v_count_);\nspan.skip(v_element_size_ * v_count_);\n")
    -- full: the loop's own product and the skip behind it stay
    ∷ divides full (given "count" ++ array "16" "-" "-") (room "4" ++ read32 "output->v_count_") "span.size() < 2 * output->v_count_"
    "2 != 0 && span.size() / 2 < output->v_count_"
    (text "for (size_t n = 0; n < output->v_count_; n++) {\n    output->v_.push_back(span.read_le<uint16_t, 2>());\n}\n")
    ∷ divides full (given "elemsize" ++ array "-" "S" "3") (room "4" ++ read32 "output->v_element_size_")
    "span.size() < output->v_element_size_ * 3" "output->v_element_size_ != 0 && span.size() / output->v_element_size_ < 3"
    (text "for (size_t n = 0; n < 3; n++) {\n    auto element_span = span.subrange(n * output->v_element_size_, output->v_element_size_);\n"
    ++ (text "    S out;\n    if (!S::Parse(element_span, &out)) {\n        return false;\n    }\n    output->v_[n] = out;\n}\n"
    ++ text "span.skip(output->v_element_size_ * 3);\n"))
    ∷ divides full (given "elemsize" ++ (given "count" ++ array "-" "S" "-"))
    (room "8" ++ (read32 "output->v_element_size_" ++ read32 "output->v_count_"))
    "span.size() < output->v_element_size_ * output->v_count_"
    "output->v_element_size_ != 0 && span.size() / output->v_element_size_ < output->v_count_"
    (text "for (size_t n = 0; n < output->v_count_; n++) {\n")
    -- one number, a byte size, the rest, Unknown elements: as they were
    ∷ keeps lite (array "16" "-" "3") (asks "span.size() < 6" ++ text "v_ = span.subrange(0, 6);\n")
    ∷ keeps full (array "16" "-" "3") (asks "span.size() < 6" ++ text "for (size_t n = 0; n < 3; n++) {\n")
    ∷ keeps lite (given "size" ++ array "16" "-" "-")
    (room "4" ++ (read32 "v_size_" ++ (asks "span.size() < v_size_" ++ (asks "(v_size_ % 2) != 0" ++ text "v_ = span.subrange(0, v_size_);\n"))))
    ∷ keeps full (given "elemsize" ++ (given "size" ++ array "-" "S" "-"))
    (room "8"
    ++ (read32 "output->v_element_size_"
    ++ (read32 "output->v_size_"
    ++ (asks "span.size() < output->v_size_"
    ++ (asks "output->v_element_size_ == 0 || (output->v_size_ % output->v_element_size_) != 0"
    ++ text "auto v_count_ = output->v_size_ / output->v_element_size_;\n")))))
    ∷ keeps lite (array "16" "-" "-") (asks "(span.size() % 2) != 0" ++ text "v_ = span;\nspan.clear();\n")
    ∷ keeps lite (given "count" ++ array "-" "S" "-")
    (room "4" ++ (read32 "v_count_" ++ text "v_ = span;\nfor (size_t n = 0; n < v_count_; n++) {\n    S out;\n"))
    ∷ []

-- 2: another word, another place, twice, before `raw` or `trailing`
wrongly : List Case
wrongly =
    refuses (factors lite "products=Divide\n" []) 2
    ∷ refuses (factors lite "products=-\n" []) 2
    ∷ refuses (factors lite "products=\n" []) 2
    ∷ refuses (factors lite "products=divide" []) 2
    ∷ refuses (factors lite "products=divide\nraw=plain\n" []) 2
    ∷ refuses (factors lite "products=divide\ntrailing=plain\n" []) 2
    ∷ refuses (factors lite "products=plain\nproducts=divide\n" []) 2
    ∷ refuses (factors lite "products=divide\nproducts=divide\n" []) 2
    ∷ refuses (text "endian=little\ntarget=Lamp\nproducts=divide\narrays=lite\n" ++ packet "Lamp") 2
    ∷ refuses (text "products=divide\n" ++ (lite ++ packet "Lamp")) 2
    ∷ refuses (lamp (text "products=divide\n")) 2
    ∷ []

products-right : all (all begins) (wrongly ∷ products) ≡ true
unfolding everything lite full packet struct lamp plain scalar payload refuses agrees array begins starts room factors given asks divides keeps read32 products wrongly
products-right = refl

-- ---- 15, the word and the buffer: P3 has 81 bytes

skips : Text
skips = lamp (plain "reserved\nwidth=16")

exact : word (lower skips 81) ≡ 81
unfolding everything lite packet lamp plain skips
exact = refl

short : word (lower skips 80) ≡ 15 * 2 ^ 32
unfolding everything lite packet lamp plain skips
short = refl

behind : drop 79 (buffer_after (lower skips 84) (replicate 84 7)) ≡ text "s\n" ++ (7 ∷ 7 ∷ 7 ∷ [])
unfolding everything lite packet lamp plain skips
behind = refl

untouched : buffer_after (lower skips 80) (replicate 80 7) ≡ replicate 80 7
unfolding everything lite packet lamp plain skips
untouched = refl
