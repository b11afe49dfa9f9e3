-- The kinds of fields that can be bit fields, by their words behind `field=`, in the order of `kinds`: first those with a width and a number, then
-- the others. Those that are no bit fields follow.
-- Assumes nothing.
use Rattle.std.specs.Prelude.{[], ◌∷◌, ◌++◌}
use Rattle.definitions.specs.Bytes.{text}
use Rattle.definitions.specs.Record.{Kinds, scalar_at, size_at, count_at, element_size_at, fixed_scalar_at, fixed_enum_at, reserved_at, flag_at, typedef_at}
use Rattle.byte_kinds.specs.Words.{byte_kinds}

abbrev pub number_kinds : Kinds
number_kinds =
    (text "scalar\n", scalar_at)
    ∷ (text "size\n", size_at)
    ∷ (text "count\n", count_at)
    ∷ (text "elemsize\n", element_size_at)
    ∷ (text "fixed\n", fixed_scalar_at)
    ∷ []

abbrev pub symbol_kinds : Kinds
symbol_kinds =
    (text "fixedenum\n", fixed_enum_at)
    ∷ (text "reserved\n", reserved_at)
    ∷ (text "flag\n", flag_at)
    ∷ (text "typedef\n", typedef_at)
    ∷ []

-- the kinds from each of these on
abbrev pub from_symbols : Kinds
from_symbols = symbol_kinds ++ byte_kinds

abbrev pub from_numbers : Kinds
from_numbers = number_kinds ++ from_symbols
