-- The answer for a field with and without a condition; what it stands for, and that its numbers fit.
-- Assumes nothing.
use Rattle.std.specs.Prelude.{Option, Some, None}
use Prim.Native.Nat.{ℕ, ◌+◌, ◌<◌}
use mathlib.Core.Bool.{false}
use mathlib.Core.List.{List}
use mathlib.Core.Path.{◌≡◌, refl, sym, ap, ◌∙◌}
use native.Mathlib.Omega.{arith}
use Rattle.definitions.specs.Bytes.{Text, text}
use Rattle.definitions.specs.Sizes.{Row, Annotated, enum_of, has_payload_size, desc_size}
use Rattle.definitions.specs.Refusals.{large_size}
use Rattle.definitions.specs.FieldParser.{get_trailing_size, size_backing, parse_unchecked}
use Rattle.definitions.specs.declared.EnumKind.{EnumKind}
use Rattle.definitions.specs.declared.Condition.{Condition}
use Rattle.definitions.specs.declared.Field.{Field}
use Rattle.definitions.specs.declared.FieldDesc.{FieldDesc}
use Rattle.definitions.specs.declared.Modifier.{Modifier}
use Rattle.definitions.specs.declared.Options.{Options}
use Rattle.definitions.specs.declared.Part.{Part}
use Rattle.definitions.specs.declared.Size.{Size}
use Rattle.emits.specs.BlockOf.{emit_of, EmitFits}
use Rattle.tables.specs.Tables.{Tables, tables_of, rows_of, fields_of}
use Rattle.emits.specs.Target.{setting_at, annotated_at, rest_at, Fine}
use Rattle.emits.specs.declared.EmitAt.{EmitAt}
use Rattle.emits.proofs.Fines.{size-fine}
use Rattle.trailing.proofs.Fits.{picked_fits, typedef-fits, payload-fits}
use Rattle.array_fields.proofs.Fits.{array-fits}
use Rattle.fields.specs.Parsed.{parsed_at}
use Rattle.fields.specs.Values.{optional_type, optional_at, other_of, other_at}
use Rattle.fields.proofs.Agree.{unchecked-agree}

-- ---- what is no array fits

optional-fits : (s : Text) (rows : List Row) (cond : Part) (value : ℕ) (d : FieldDesc) → EmitFits (optional_at s rows cond value d)
optional-fits s rows cond value (FieldDesc.Checksum of) = tt
optional-fits s rows cond value (FieldDesc.Padding size) = tt
optional-fits s rows cond value (FieldDesc.Size of width) = tt
optional-fits s rows cond value (FieldDesc.Count of width) = tt
optional-fits s rows cond value (FieldDesc.ElementSize of width) = tt
optional-fits s rows cond value FieldDesc.Body = tt
optional-fits s rows cond value (FieldDesc.Payload modifier) = tt
optional-fits s rows cond value (FieldDesc.FixedScalar width fixed) = tt
optional-fits s rows cond value (FieldDesc.FixedEnum type tag) = tt
optional-fits s rows cond value (FieldDesc.Reserved width) = tt
optional-fits s rows cond value (FieldDesc.Array id width type modifier size) = tt
optional-fits s rows cond value (FieldDesc.Scalar id width) = omega arith
optional-fits s rows cond value (FieldDesc.Flag id) = tt
optional-fits s rows cond value (FieldDesc.Typedef id type) = by (enum_of s rows type)
  where
    by : (e : Option EnumKind) → EmitFits (optional_type cond value id type e)
    by (Some kind) = picked_fits kind.is_open _ _ (omega arith) (omega arith)
    by None = omega arith

-- ---- an array that is not over the limit fits too

module _ (s : Text) (rows : List Row) (fs : List Field) (o : Options) (a : Annotated) (later : List Annotated) where
  other_fits : (d : FieldDesc) → large_size (desc_size s rows fs d) ≡ false → EmitFits (other_at s rows fs o.trailing a later (other_of o.endianness d))
  unfolding desc_size
  other_fits (FieldDesc.Checksum of) h = tt
  other_fits (FieldDesc.Padding bytes) h = tt
  other_fits (FieldDesc.Size of width) h = tt
  other_fits (FieldDesc.Count of width) h = tt
  other_fits (FieldDesc.ElementSize of width) h = tt
  other_fits FieldDesc.Body h = payload-fits Modifier.None (has_payload_size s fs) (get_trailing_size o.trailing later)
  other_fits (FieldDesc.Payload modifier) h = payload-fits modifier (has_payload_size s fs) (get_trailing_size o.trailing later)
  other_fits (FieldDesc.FixedScalar width value) h = tt
  other_fits (FieldDesc.FixedEnum type tag) h = tt
  other_fits (FieldDesc.Reserved width) h = tt
  other_fits (FieldDesc.Array id width type modifier count) h = array-fits s rows fs a.padded_size _ h
  other_fits (FieldDesc.Scalar id width) h = tt
  other_fits (FieldDesc.Flag id) h = tt
  other_fits (FieldDesc.Typedef id type) h = typedef-fits id type (get_trailing_size o.trailing later) a.field_size

-- ---- field k

module _ (s rows values fields : List ℕ) (i n k : ℕ) (o : Options) where
  abbrev tables : Tables
  tables = tables_of s rows values fields

  abbrev scope : List Row
  scope = rows_of tables i

  abbrev fs : List Field
  fs = fields_of tables i n

  abbrev here : Annotated
  here = annotated_at tables i n k

  abbrev later : List Annotated
  later = rest_at tables i n (k + 1)

  abbrev answer : EmitAt
  answer = parsed_at tables i n k o

  abbrev other : FieldDesc → EmitAt
  other d = other_at s scope fs o.trailing here later (other_of o.endianness d)

  abbrev value_by : Field → Option Condition → EmitAt
  value_by f cond = elim cond [ None ↦ other f.desc | Some given ↦ optional_at s scope given.id given.value f.desc ]

  -- ---- what it stands for: the definitions' `parse_unchecked`

  pub answer-agrees : emit_of s (text "payload") o (λ id. size_backing s id fs) answer
      ≡ parse_unchecked (setting_at tables i n o) 0 here later
  answer-agrees = unchecked-agree (setting_at tables i n o) here later

  -- ---- its numbers fit

  module _ (fine : Fine tables i n) (w : k < n) where
    fits_by : (cond : Option Condition) → here.field.cond ≡ cond → EmitFits (value_by here.field cond)
    fits_by None e = other_fits s scope fs o here later here.field.desc plain
      where
        plain : large_size (desc_size s scope fs here.field.desc) ≡ false
        plain =
            sym (ap (λ (c : Option Condition). large_size (elim c [ None ↦ desc_size s scope fs here.field.desc | Some cond ↦ Size.Dynamic ])) e)
            ∙ size-fine s rows values fields i n fine k w
    fits_by (Some cond) e = optional-fits s scope cond.id cond.value here.field.desc

    pub answer-fits : EmitFits answer
    answer-fits = fits_by here.field.cond refl
