-- What a field of a target comes to. One that is no bit field is decided as on an octet boundary; `Told` says what the lines of a list of such are.
-- Assumes nothing.
use Rattle.std.specs.Prelude.{Bool, true, false, List, [], ◌∷◌, ℕ, ◌+◌, Some, None}
use Rattle.definitions.specs.Bytes.{Text}
use Rattle.definitions.specs.Sizes.{Annotated}
use Rattle.definitions.specs.Blocks.{Kind}
use Rattle.definitions.specs.FieldParser.{Setting, kind_of, is_bit, parse_unchecked, Emit, appends}
use Rattle.definitions.specs.FieldParser as parser
use Rattle.definitions.specs.declared.FieldDesc.{FieldDesc}
use Rattle.definitions.specs.declared.Condition.{Condition}
use Rattle.definitions.specs.declared.Field.{Field}
use Rattle.definitions.specs.declared.Refusal.{Refusal}
use Rattle.stream.specs.Stream.{width_of, block_text}

-- ---- one field

-- what a field that is no bit field writes: the text of its block, nothing, or a panic
pub data Said : Type 0 where
  says : Text → Said
  silent : Said
  stops : Refusal → Said

abbrev pub said_by : Emit → Said
said_by (appends b) = says (block_text b)
said_by parser.silent = silent
said_by (parser.refuses why) = stops why

pub data Planned : Type 0 where
  -- a bit field: its width, and what its bits are put into
  bit : ℕ → Kind → Planned
  -- any other: whether it must stand on an octet boundary, and what it writes there
  other : Bool → Said → Planned

-- 11: a typedef, a payload or a body, without a condition
abbrev pub aligned_desc : FieldDesc → Bool
aligned_desc (FieldDesc.Checksum of) = false
aligned_desc (FieldDesc.Padding size) = false
aligned_desc (FieldDesc.Size of width) = false
aligned_desc (FieldDesc.Count of width) = false
aligned_desc (FieldDesc.ElementSize of width) = false
aligned_desc FieldDesc.Body = true
aligned_desc (FieldDesc.Payload modifier) = true
aligned_desc (FieldDesc.FixedScalar width value) = false
aligned_desc (FieldDesc.FixedEnum type tag) = false
aligned_desc (FieldDesc.Reserved width) = false
aligned_desc (FieldDesc.Array id width type modifier size) = false
aligned_desc (FieldDesc.Scalar id width) = false
aligned_desc (FieldDesc.Flag id) = false
aligned_desc (FieldDesc.Typedef id type) = true

abbrev pub aligned : Field → Bool
aligned f = elim f.cond [ None ↦ aligned_desc f.desc | Some cond ↦ false ]

unfoldable pub plan_of : Setting → Annotated → List Annotated → Planned
plan_of c a later = elim (is_bit c a.field) [
  | true ↦ bit (width_of a) (kind_of c a.field.desc)
  | false ↦ other (aligned a.field) (said_by (parse_unchecked c 0 a later))
]

-- of all fields
unfoldable pub plans_of : Setting → List Annotated → List Planned
plans_of c [] = []
plans_of c (a ∷ later) = plan_of c a later ∷ plans_of c later

-- the bits of the bit fields up to the next other field
unfoldable pub bits_ahead : List Planned → ℕ
bits_ahead [] = 0
bits_ahead (bit width kind ∷ later) = width + bits_ahead later
bits_ahead (other must said ∷ later) = 0
