-- `parse_typedef_field` and `parse_payload_field_lite` of the definitions on an octet boundary, with their names as parts of the record: `typedefs-agree` and
-- `payloads-agree` (proofs/Agree) say that they come to the same.
-- Assumes nothing.
use Rattle.std.specs.Prelude.{Option, Some, None, Bool, ℕ, ◌/◌, ltb}
use Rattle.definitions.specs.Bytes.{pick}
use Rattle.definitions.specs.declared.Modifier.{Modifier}
use Rattle.definitions.specs.declared.Part.{Part}
use Rattle.definitions.specs.declared.Refusal.{Refusal}
use Rattle.definitions.specs.declared.Size.{Size}
use Rattle.emits.specs.declared.BlockAt.{BlockAt}
use Rattle.emits.specs.declared.EmitAt.{EmitAt}

-- `static_` of `Size`
abbrev pub static_number : Size → Option ℕ
static_number (Size.Static bits) = Some bits
static_number Size.Dynamic = None
static_number Size.Unknown = None

-- 14, or what the bits of the later fields give
abbrev pub on_trailing : Option ℕ → (ℕ → EmitAt) → EmitAt
on_trailing None f = EmitAt.Refuses Refusal.MultipleUnknown
on_trailing (Some bits) f = f bits

-- ---- a typedef

abbrev pub typedef_up_to : Part → Part → Option ℕ → EmitAt
typedef_up_to id type trailing =
    on_trailing trailing λ bits. EmitAt.Appends (pick (ltb 0 bits) (BlockAt.NestedUpTo id (bits / 8) type) (BlockAt.Nested id type))

abbrev pub typedef_at : Part → Part → Option ℕ → Size → EmitAt
typedef_at id type trailing (Size.Static bits) = EmitAt.Appends (BlockAt.Nested id type)
typedef_at id type trailing Size.Dynamic = EmitAt.Appends (BlockAt.Nested id type)
typedef_at id type trailing Size.Unknown = typedef_up_to id type trailing

-- ---- a payload or a body

abbrev pub unsized_at : Option ℕ → EmitAt
unsized_at trailing = on_trailing trailing λ bits. EmitAt.Appends (pick (ltb 0 bits) (BlockAt.PayloadUpTo (bits / 8)) BlockAt.PayloadToEnd)

abbrev pub payload_at : Modifier → Bool → Option ℕ → EmitAt
payload_at modifier sized trailing = pick sized (EmitAt.Appends (BlockAt.SizedPayload modifier)) (unsized_at trailing)
