-- What a field comes to with its names as parts of the record is what it comes to by the definitions on an octet boundary.
-- Assumes nothing.
use Rattle.std.specs.Prelude.{Option, Some, None}
use Prim.Native.Nat.{ℕ}
use mathlib.Core.Bool.{Bool, true, false}
use mathlib.Core.List.{List}
use mathlib.Core.Path.{◌≡◌, refl}
use Rattle.definitions.specs.Bytes.{text, pick}
use Rattle.definitions.specs.Blocks.{Block}
use Rattle.definitions.specs.Sizes.{Annotated, enum_of}
use Rattle.definitions.specs.FieldParser.{Setting, Emit, appends, written, member, size_backing, optional_typedef, parse_optional_field, parse_other, parse_unchecked}
use Rattle.definitions.specs.declared.EnumKind.{EnumKind}
use Rattle.definitions.specs.declared.Condition.{Condition}
use Rattle.definitions.specs.declared.FieldDesc.{FieldDesc}
use Rattle.definitions.specs.declared.Modifier.{Modifier}
use Rattle.definitions.specs.declared.Part.{Part}
use Rattle.emits.specs.BlockOf.{block_of, emit_of}
use Rattle.emits.specs.declared.BlockAt.{BlockAt}
use Rattle.emits.specs.declared.EmitAt.{EmitAt}
use Rattle.trailing.proofs.Agree.{typedefs-agree, payloads-agree}
use Rattle.array_fields.proofs.Agree.{arrays-agree}
use Rattle.fields.specs.Values.{optional_type, optional_at, other_of, other_at, unchecked_at}

module _ (c : Setting) where
  -- the definitions' `Emit` that a value stands for
  abbrev emit : EmitAt → Emit
  emit e = emit_of c.source (text "payload") c.options (λ id. size_backing c.source id c.fields) e

  -- ---- an optional field

  optional-typed : (cond : Part) (value : ℕ) (id type : Part) (e : Option EnumKind)
      → emit (optional_type cond value id type e) ≡ appends (optional_typedef c cond value id type e)
  unfolding block_of
  optional-typed cond value id type (Some kind) = by kind.is_open
    where
      by : (b : Bool) → emit (EmitAt.Appends (pick b (BlockAt.OptionalOpen cond value kind.width id type) (BlockAt.OptionalClosed cond value kind.width id type)))
          ≡ appends
          (pick b (Block.optional_open (written c cond) value c.options.endianness kind.width (member c id) (written c type))
          (Block.optional_closed (written c cond) value c.options.endianness kind.width (member c id) (written c type)))
      by true = refl
      by false = refl
  optional-typed cond value id type None = refl

  pub optionals-agree : (cond : Part) (value : ℕ) (d : FieldDesc) → emit (optional_at c.source c.scope cond value d) ≡ parse_optional_field c cond value d
  unfolding parse_optional_field block_of
  optionals-agree cond value (FieldDesc.Checksum of) = refl
  optionals-agree cond value (FieldDesc.Padding size) = refl
  optionals-agree cond value (FieldDesc.Size of width) = refl
  optionals-agree cond value (FieldDesc.Count of width) = refl
  optionals-agree cond value (FieldDesc.ElementSize of width) = refl
  optionals-agree cond value FieldDesc.Body = refl
  optionals-agree cond value (FieldDesc.Payload modifier) = refl
  optionals-agree cond value (FieldDesc.FixedScalar width fixed) = refl
  optionals-agree cond value (FieldDesc.FixedEnum type tag) = refl
  optionals-agree cond value (FieldDesc.Reserved width) = refl
  optionals-agree cond value (FieldDesc.Array id width type modifier size) = refl
  optionals-agree cond value (FieldDesc.Scalar id width) = refl
  optionals-agree cond value (FieldDesc.Flag id) = refl
  optionals-agree cond value (FieldDesc.Typedef id type) = optional-typed cond value id type (enum_of c.source c.scope type)

  module _ (a : Annotated) (later : List Annotated) where
    -- ---- a field without a condition

    abbrev value : FieldDesc → EmitAt
    value d = other_at c.source c.scope c.fields c.options.trailing a later (other_of c.options.endianness d)

    pub others-agree : (d : FieldDesc) → emit (value d) ≡ parse_other c 0 a later d
    unfolding parse_other
    others-agree (FieldDesc.Checksum of) = refl
    others-agree (FieldDesc.Padding size) = refl
    others-agree (FieldDesc.Size of width) = refl
    others-agree (FieldDesc.Count of width) = refl
    others-agree (FieldDesc.ElementSize of width) = refl
    others-agree FieldDesc.Body = payloads-agree c Modifier.None later
    others-agree (FieldDesc.Payload modifier) = payloads-agree c modifier later
    others-agree (FieldDesc.FixedScalar width value) = refl
    others-agree (FieldDesc.FixedEnum type tag) = refl
    others-agree (FieldDesc.Reserved width) = refl
    others-agree (FieldDesc.Array id width type modifier size) = arrays-agree c (text "payload") id width modifier size a.padded_size type
    others-agree (FieldDesc.Scalar id width) = refl
    others-agree (FieldDesc.Flag id) = refl
    others-agree (FieldDesc.Typedef id type) = typedefs-agree c a id type later

    -- ---- a field that is no bit field

    abbrev value_by : Option Condition → EmitAt
    value_by cond = elim cond [ None ↦ value a.field.desc | Some given ↦ optional_at c.source c.scope given.id given.value a.field.desc ]

    abbrev emit_by : Option Condition → Emit
    emit_by cond = elim cond [ None ↦ parse_other c 0 a later a.field.desc | Some given ↦ parse_optional_field c given.id given.value a.field.desc ]

    by_cond : (cond : Option Condition) → emit (value_by cond) ≡ emit_by cond
    by_cond None = others-agree a.field.desc
    by_cond (Some cond) = optionals-agree cond.id cond.value a.field.desc

    pub unchecked-agree : emit (unchecked_at c.source c.scope c.fields c.options a later) ≡ parse_unchecked c 0 a later
    unfolding parse_unchecked
    unchecked-agree = by_cond a.field.cond
