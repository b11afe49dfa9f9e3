-- What is computed of a catalogue: declarations of which the last, the frames, may have more fields than a record. `sound` is to be read
-- before Passes, which states what it is for.
-- Assumes nothing.
use Rattle.definitions.specs.declared.Part.{Part}
use Rattle.definitions.specs.declared.Size.{Size}
use Rattle.std.specs.Prelude.{Option, Some, None, Bool, true, false, not, ◌||◌, List, [], ◌∷◌, ◌++◌, ℕ, ◌^◌, ltb, length}
use Rattle.definitions.specs.Bytes.{Text, any}
use Rattle.definitions.specs.Record.{Declaration}
use Rattle.definitions.specs.Sizes.{Row, Schema, add_size, static_width, lookup, annotate_field, new_schema}
use Rattle.definitions.specs.Refusals.{declarations_names, any_keyword, duplicate_name, unknown_name, out_of_range, large, ragged_field, ragged}
use Rattle.definitions.specs.declared.FieldDesc.{FieldDesc}
use Rattle.definitions.specs.declared.Field.{Field}

-- ---- tests of one thing

-- a declaration with more fields than refusal 3 allows
abbrev pub crowded : Declaration → Bool
crowded d = ltb 64 (length d.fields)

abbrev pub is_stated : Option Size → Bool
is_stated None = false
is_stated (Some size) = true

-- a declaration with a line `bits=` that says a size
abbrev pub stated : Declaration → Bool
stated d = is_stated d.decl.bits

-- the bits of a declaration and its parents, where they are static
abbrev pub own_bits : Row → ℕ
own_bits r = static_width (add_size r.decl_size r.parent_size)

abbrev pub wide : Row → Bool
wide r = ltb (2 ^ 29) (own_bits r)

-- the type that a field names
abbrev pub type_of : FieldDesc → Option Part
type_of (FieldDesc.Checksum of) = None
type_of (FieldDesc.Padding size) = None
type_of (FieldDesc.Size of width) = None
type_of (FieldDesc.Count of width) = None
type_of (FieldDesc.ElementSize of width) = None
type_of FieldDesc.Body = None
type_of (FieldDesc.Payload modifier) = None
type_of (FieldDesc.FixedScalar width value) = None
type_of (FieldDesc.FixedEnum type tag) = Some type
type_of (FieldDesc.Reserved width) = None
type_of (FieldDesc.Array id width type modifier size) = type
type_of (FieldDesc.Scalar id width) = None
type_of (FieldDesc.Flag id) = None
type_of (FieldDesc.Typedef id type) = Some type

abbrev pub is_missing : Option Row → Bool
is_missing None = true
is_missing (Some r) = false

-- a type that is none of the rows
abbrev pub lacks_type : Text → List Row → Option Part → Bool
lacks_type t rows None = false
lacks_type t rows (Some name) = is_missing (lookup t rows name)

-- a field whose type is none of the rows, that refusal 8 turns back, or with more than 2 ^ 19 static bits (those do not depend on the other fields)
abbrev pub stray : Text → List Row → Field → Bool
stray t rows f = lacks_type t rows (type_of f.desc) || (ragged_field t rows f || ltb (2 ^ 19) (static_width (annotate_field t rows [] f)))

abbrev pub stray_in : Text → List Row → Declaration → Bool
stray_in t rows d = any (stray t rows) d.fields

abbrev pub rows_of : Schema → List Row
rows_of [] = []
rows_of (e ∷ es) = e.row ∷ rows_of es

-- ---- the tests of a catalogue with the types `ps` and the frames `qs`

abbrev pub faults : Text → List Declaration → List Declaration → List Bool
faults t ps qs =
    -- 16: a name is a keyword
    any_keyword t (declarations_names (ps ++ qs))
    -- 3: more than 32 declarations, or a type with more than 64 fields
    ∷ ltb 32 (length (ps ++ qs))
    ∷ any crowded ps
    -- 4: two have one name
    ∷ duplicate_name t (ps ++ qs)
    -- 5: a type or parent is not an earlier declaration of its kind
    ∷ unknown_name t (ps ++ qs)
    -- 6: a number is out of range
    ∷ out_of_range (ps ++ qs)
    -- 7, of the types; and one of more than 2 ^ 29 bits, which leaves no room for 32 frames of 64 fields with 2 ^ 19 bits each
    ∷ large (new_schema t ps)
    ∷ any wide (rows_of (new_schema t ps))
    -- 8, of the types
    ∷ ragged t (new_schema t ps)
    -- 7 and 8, of each field of a frame; its type, where it has one, is one of the types
    ∷ any (stray_in t (rows_of (new_schema t ps))) qs
    -- 17: a size is stated
    ∷ any stated (ps ++ qs)
    ∷ []

-- none of them is met
unfoldable pub sound : Text → List Declaration → List Declaration → Bool
sound t ps qs = not (any (λ (b : Bool). b) (faults t ps qs))
