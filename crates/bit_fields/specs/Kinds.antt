-- The kinds and sources of the code, as those of the definitions, and the bytes of their lines.
-- Assumes nothing.
use Rattle.std.specs.Prelude.{[], ◌∷◌, ℕ}
use Rattle.definitions.specs.Bytes.{Text, text, part}
use Rattle.definitions.specs.Lines.{Src, Test, Line, Before, src_text, line_text, lines_text}
use Rattle.definitions.specs.Blocks.{Kind, named, read_of, chunk_name, span, raw_name, kind_lines}
use Rattle.definitions.specs.declared.Arrays.{Arrays}
use Rattle.names.specs.Written.{name_text}
use Rattle.bit_fields.specs.declared.End.{End}
use Rattle.bit_fields.specs.declared.KindAt.{KindAt}
use Rattle.bit_fields.specs.declared.RawValue.{RawValue}
use Rattle.bit_fields.specs.declared.Source.{Source}

-- ---- what they are in the definitions

abbrev pub end_text : End → Text
end_text End.Member = text "_"
end_text End.Size = text "_size_"
end_text End.Count = text "_count_"
end_text End.ElementSize = text "_element_size_"

-- of a record, its word bytes and its mode
unfoldable pub kind_in : Arrays → Text → Text → KindAt → Kind
kind_in m s word KindAt.Reserved = Kind.reserved
kind_in m s word (KindAt.Number name end) = Kind.number (named m (name_text s word name) (end_text end))
kind_in m s word (KindAt.Condition id) = Kind.condition (part s id)
kind_in m s word (KindAt.OpenEnum id type) = Kind.open_enum (named m (part s id) (text "_")) (part s type)
kind_in m s word (KindAt.ClosedEnum id type) = Kind.closed_enum (named m (part s id) (text "_")) (part s type)
kind_in m s word (KindAt.FixedScalar value) = Kind.fixed_scalar value
kind_in m s word (KindAt.FixedEnum type tag) = Kind.fixed_enum (part s type) (part s tag)

abbrev pub source_in : Source → Src
source_in (Source.Read order width) = read_of span order width
source_in (Source.Bits nr shift mask) = Src.bits (chunk_name nr) shift mask

-- ---- bytes; a source stands before the text behind it

unfoldable pub source_text : Source → Text → Text
source_text v t = src_text (source_in v) t

-- `x = v;`
unfoldable pub set_text : Arrays → Text → Text → Source → Text
set_text m name end v = line_text 0 (Line.set Before.old (named m name end) (source_in v)) []

-- `uint8_t x = v;`
unfoldable pub condition_text : Text → Source → Text
condition_text name v = line_text 0 (Line.set Before.condition name (source_in v)) []

-- `x = T(v);`
unfoldable pub open_enum_text : Arrays → Text → Text → Source → Text
open_enum_text m name type v = line_text 0 (Line.set_cast (named m name (text "_")) type (source_in v)) []

-- `raw_value`, with or without its number
unfoldable pub raw_text : RawValue → Text
raw_text x = raw_name x.raw x.nr

-- `auto raw_value = v;`, `if (!IsValidT(raw_value)) {` ..
unfoldable pub tested_text : Text → RawValue → Source → Text
tested_text type x v = lines_text 0 (Line.set Before.auto (raw_text x) (source_in v) ∷ Line.check 3 (Test.not_valid type (raw_text x)) ∷ []) []

-- these, and `x = T(raw_value);`
unfoldable pub closed_enum_text : Arrays → Text → Text → RawValue → Source → Text
closed_enum_text m name type x v = lines_text 0 (kind_lines (raw_text x) (source_in v) (Kind.closed_enum (named m name (text "_")) type)) []

-- `if (static_cast<uint64_t>(v) != 0x1f) {` ..
unfoldable pub fixed_scalar_text : ℕ → Source → Text
fixed_scalar_text value v = line_text 0 (Line.check 4 (Test.not_fixed (source_in v) value)) []

-- `if (T(v) != T::TAG) {` ..
unfoldable pub fixed_enum_text : Text → Text → Source → Text
fixed_enum_text type tag v = line_text 0 (Line.check 4 (Test.not_tag type (source_in v) tag)) []

-- the lines of a kind
unfoldable pub kind_text : Arrays → Text → Text → RawValue → Source → KindAt → Text
kind_text m s word x v k = lines_text 0 (kind_lines (raw_text x) (source_in v) (kind_in m s word k)) []
