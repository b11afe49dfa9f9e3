-- Document 02, Card 1: the grammar. A family has the targets of its heads, declarations that are always the same, its types, and frames, whose fields are
-- drawn. docs/LOAD.md lists the same texts.
-- Assumes nothing.
use Rattle.std.specs.Prelude.{List, [], ◌∷◌, ◌++◌, map}
use Prim.Native.String.{String}
use Rattle.definitions.specs.Bytes.{Text, text}
use Rattle.fragments.specs.Groups.{Group, joined_fields, joined}

-- ---- a family, and its slots

-- of each slot the possibilities, and of each possibility its fields
abbrev pub FieldSlots : Type 0
FieldSlots = List (List (List Text))

-- the lines of a packet or struct before its fields, and the slots of these
pub record Frame : Type 0 where
  pub header : Text
  pub slots : FieldSlots

pub record Family : Type 0 where
  pub targets : List String
  pub types : List Group
  pub frames : List Frame

abbrev pub endians : List Text
endians = text "endian=little\n" ∷ text "endian=big\n" ∷ []

abbrev pub target_line : String → Text
target_line name = text "target=" ++ (text name ++ text "\n")

abbrev pub arrays : List Text
arrays = text "arrays=lite\n" ∷ text "arrays=full\n" ∷ []

-- the header of a frame is a slot with a single possibility
abbrev pub frame_slots : List Frame → List (List Text)
frame_slots [] = []
frame_slots (f ∷ fs) = (f.header ∷ []) ∷ (map (map joined_fields) f.slots ++ frame_slots fs)

-- the slots of a family, of each the texts of its possibilities; all types together are one
abbrev pub slots_of : Family → List (List Text)
slots_of x = endians ∷ map target_line x.targets ∷ arrays ∷ (joined x.types ∷ []) ∷ frame_slots x.frames

abbrev pub frame : Text → FieldSlots → Frame
frame header slots = record { header = header; slots = slots }

-- a slot is nothing but the list of its possibilities
abbrev pub slot : List (List Text) → List (List Text)
slot possibilities = possibilities

abbrev pub group : Text → List Text → Group
group header fields = record { header = header; fields = fields }

-- ---- lines

-- `key=value`
abbrev pub line : String → String → Text
line key value = text key ++ (61 ∷ (text value ++ (10 ∷ [])))

-- a field of a kind, without a condition, and with one
abbrev pub unconditional : Text → Text
unconditional keys = keys ++ line "if" "-"

abbrev pub optional : Text → String → String → Text
optional keys name value = keys ++ (line "if" name ++ line "is" value)

-- a kind with one key, with two, and with five
abbrev pub kind : String → String → String → Text
kind name key value = line "field" name ++ line key value

abbrev pub kind_of : String → String → String → String → String → Text
kind_of name key value other more = line "field" name ++ (line key value ++ line other more)

abbrev pub array_keys : String → String → String → String → String → Text
array_keys id width type modifier count =
    line "field" "array"
    ++ (line "id" id ++ (line "width" width ++ (line "type" type ++ (line "mod" modifier ++ line "count" count))))

-- ---- fields

abbrev pub scalar : String → String → Text
scalar id width = unconditional (kind_of "scalar" "id" id "width" width)

abbrev pub optional_scalar : String → String → String → String → Text
optional_scalar id width name value = optional (kind_of "scalar" "id" id "width" width) name value

abbrev pub size : String → String → Text
size of width = unconditional (kind_of "size" "of" of "width" width)

abbrev pub count : String → String → Text
count of width = unconditional (kind_of "count" "of" of "width" width)

abbrev pub elemsize : String → String → Text
elemsize of width = unconditional (kind_of "elemsize" "of" of "width" width)

abbrev pub fixed : String → String → Text
fixed width value = unconditional (kind_of "fixed" "width" width "value" value)

abbrev pub fixedenum : String → String → Text
fixedenum type tag = unconditional (kind_of "fixedenum" "type" type "tag" tag)

abbrev pub reserved : String → Text
reserved width = unconditional (kind "reserved" "width" width)

abbrev pub flag : String → Text
flag id = unconditional (kind "flag" "id" id)

abbrev pub typedef : String → String → Text
typedef id type = unconditional (kind_of "typedef" "id" id "type" type)

abbrev pub optional_typedef : String → String → String → String → Text
optional_typedef id type name value = optional (kind_of "typedef" "id" id "type" type) name value

-- width and type, one of them `-`; mod and count
abbrev pub array : String → String → String → String → String → Text
array id width type modifier count = unconditional (array_keys id width type modifier count)

abbrev pub optional_array : String → String → String → String → String → String → String → Text
optional_array id width type modifier count name value = optional (array_keys id width type modifier count) name value

abbrev pub payload : String → Text
payload modifier = unconditional (kind "payload" "mod" modifier)

abbrev pub body : Text
body = unconditional (line "field" "body")

abbrev pub padding : String → Text
padding bytes = unconditional (kind "padding" "bytes" bytes)

abbrev pub checksum : String → Text
checksum of = unconditional (kind "checksum" "of" of)

-- ---- declarations

abbrev pub packet : String → String → Text
packet name parent = line "decl" "packet" ++ (line "name" name ++ line "parent" parent)

abbrev pub struct : String → String → Text
struct name parent = line "decl" "struct" ++ (line "name" name ++ line "parent" parent)

-- width, open and complete
abbrev pub enum : String → String → String → String → Text
enum name width is_open complete = line "decl" "enum" ++ (line "name" name ++ (line "width" width ++ (line "open" is_open ++ line "complete" complete)))

abbrev pub checksum_type : String → String → Text
checksum_type name width = line "decl" "checksum" ++ (line "name" name ++ line "width" width)

abbrev pub custom : String → String → Text
custom name width = line "decl" "custom" ++ (line "name" name ++ line "width" width)
