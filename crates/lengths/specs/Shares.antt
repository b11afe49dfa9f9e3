-- How many bytes of lines each field of the target gives at most, its share, and how many all of them give: 1,024 for each of 64 fields. An array of
-- Dynamic element size gives 8 more, but then there is an element size field, which gives half as many.
-- Assumes nothing.
use Rattle.std.specs.Prelude.{Option, Some, None, Bool, true, false, List, [], ◌∷◌, ℕ, ◌+◌}
use Rattle.definitions.specs.Bytes.{pick}
use Rattle.definitions.specs.Sizes.{reference, any_reference, padding_bits, padded_by}
use Rattle.definitions.specs.declared.FieldDesc.{FieldDesc}
use Rattle.definitions.specs.declared.Field.{Field}
use Rattle.definitions.specs.declared.Reference.{Reference}
use Rattle.definitions.specs.declared.ElementSize.{ElementSize}

-- the lines of an accepted record
abbrev pub most_bytes : ℕ
most_bytes = 65536

-- ---- one field

-- a field that is no array of Dynamic element size
abbrev pub plain_field : ℕ
plain_field = 1024

-- a bit field: its own lines, the read of its chunk and the check of its run
abbrev pub own_lines : ℕ
own_lines = 303

abbrev pub chunk_read : ℕ
chunk_read = 110

abbrev pub run_check : ℕ
run_check = 106

abbrev pub bit_field : ℕ
bit_field = own_lines + chunk_read + run_check

-- the line of an array's size modifier
abbrev pub modifier_line : ℕ
modifier_line = 106

-- an array without its modifier and its padding
abbrev pub shape : ElementSize → ℕ
shape (ElementSize.Static es) = 918
shape ElementSize.Dynamic = 926
shape ElementSize.Unknown = 918

-- the lines that a padding adds to the array before it; the padding itself emits none
abbrev pub padding : ℕ
padding = 507

abbrev pub padded_bytes : Option ℕ → ℕ
padded_bytes None = 0
padded_bytes (Some bits) = padding

-- ---- all fields of the target: m is the share of a field that is neither a padding nor an element size field

abbrev pub share_by : ℕ → Option ℕ → Option Reference → ℕ
share_by m (Some bits) r = 0
share_by m None None = m
share_by m None (Some (Reference.Size of width)) = m
share_by m None (Some (Reference.Count of)) = m
share_by m None (Some (Reference.ElementSize of)) = bit_field

abbrev pub share : ℕ → FieldDesc → ℕ
share m d = share_by m (padding_bits d) (reference d)

unfoldable pub shares : ℕ → List Field → ℕ
shares m [] = 0
shares m (f ∷ later) = share m f.desc + padded_bytes (padded_by later) + shares m later

abbrev pub is_element_size : Option Reference → Bool
is_element_size None = false
is_element_size (Some (Reference.Size of width)) = false
is_element_size (Some (Reference.Count of)) = false
is_element_size (Some (Reference.ElementSize of)) = true

-- only where there is an element size field, there are arrays of Dynamic element size
unfoldable pub most_of : List Field → ℕ
most_of fs = pick (any_reference is_element_size fs) (modifier_line + shape ElementSize.Dynamic) plain_field
