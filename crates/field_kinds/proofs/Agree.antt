-- The kind with its names as parts of the record is the definitions' kind.
-- Assumes nothing.
use Rattle.std.specs.Prelude.{Option, Some, None}
use mathlib.Core.Bool.{Bool, true, false, ◌||◌}
use mathlib.Core.Path.{◌≡◌, refl, ap, ◌∙◌}
use Rattle.definitions.specs.Bytes.{Text, text, pick, part}
use Rattle.definitions.specs.Sizes.{enum_of, is_payload_id}
use Rattle.definitions.specs.Blocks.{Kind, named}
use Rattle.definitions.specs.FieldParser.{Setting, kind_of, is_cond_for}
use Rattle.definitions.specs.FieldParser as parser
use Rattle.definitions.specs.declared.EnumKind.{EnumKind}
use Rattle.definitions.specs.declared.Arrays.{Arrays}
use Rattle.definitions.specs.declared.Part.{Part}
use Rattle.definitions.specs.declared.FieldDesc.{FieldDesc}
use Rattle.names.specs.declared.WrittenName.{WrittenName}
use Rattle.bit_fields.specs.Kinds.{kind_in, end_text}
use Rattle.bit_fields.specs.declared.KindAt.{KindAt}
use Rattle.bit_fields.specs.declared.End.{End}
use Rattle.conditions.specs.IfNames.{cond_names, is_cond_in}
use Rattle.conditions.proofs.Agree.{is-cond}
use Rattle.field_kinds.specs.KindOf.{scalar_kind, member_kind, enum_kind, kind_at}

-- the word `payload`, or the part
name-picked : (m : Arrays) (s : Text) (of : Part) (end : End) (b : Bool)
    → kind_in m s (text "payload") (KindAt.Number (pick b WrittenName.Payload (WrittenName.Part of)) end)
    ≡ Kind.number (named m (pick b (text "payload") (part s of)) (end_text end))
unfolding kind_in
name-picked m s of end true = refl
name-picked m s of end false = refl

scalar-picked : (m : Arrays) (s : Text) (id : Part) (b : Bool)
    → kind_in m s (text "payload") (pick b (KindAt.Condition id) (member_kind id))
    ≡ pick b (Kind.condition (part s id)) (Kind.number (named m (part s id) (text "_")))
unfolding kind_in
scalar-picked m s id true = refl
scalar-picked m s id false = refl

tested-picked : (m : Arrays) (s : Text) (id type : Part) (b : Bool)
    → kind_in m s (text "payload") (pick b (KindAt.OpenEnum id type) (KindAt.ClosedEnum id type))
    ≡ pick b (Kind.open_enum (named m (part s id) (text "_")) (part s type)) (Kind.closed_enum (named m (part s id) (text "_")) (part s type))
unfolding kind_in
tested-picked m s id type true = refl
tested-picked m s id type false = refl

enum-picked : (m : Arrays) (s : Text) (id type : Part) (e : Option EnumKind)
    → kind_in m s (text "payload") (enum_kind id type e) ≡ parser.enum_kind (named m (part s id) (text "_")) (part s type) e
unfolding kind_in enum_kind
enum-picked m s id type (Some kind) = tested-picked m s id type (kind.is_open || kind.is_complete)
enum-picked m s id type None = refl

pub kinds-agree : (c : Setting) (d : FieldDesc)
    → kind_in c.options.arrays c.source (text "payload") (kind_at c.source c.scope (cond_names c.fields) d) ≡ kind_of c d
unfolding kind_in kind_at kind_of scalar_kind is_cond_for
kinds-agree c (FieldDesc.Checksum of) = refl
kinds-agree c (FieldDesc.Padding size) = refl
kinds-agree c (FieldDesc.Size of width) = name-picked c.options.arrays c.source of End.Size (is_payload_id c.source of)
kinds-agree c (FieldDesc.Count of width) = refl
kinds-agree c (FieldDesc.ElementSize of width) = name-picked c.options.arrays c.source of End.ElementSize (is_payload_id c.source of)
kinds-agree c FieldDesc.Body = refl
kinds-agree c (FieldDesc.Payload modifier) = refl
kinds-agree c (FieldDesc.FixedScalar width value) = refl
kinds-agree c (FieldDesc.FixedEnum type tag) = refl
kinds-agree c (FieldDesc.Reserved width) = refl
kinds-agree c (FieldDesc.Array id width type modifier size) = refl
kinds-agree c (FieldDesc.Scalar id width) =
    scalar-picked c.options.arrays c.source id (is_cond_in c.source (cond_names c.fields) id)
    ∙ ap (λ (b : Bool). pick b (Kind.condition (part c.source id)) (Kind.number (named c.options.arrays (part c.source id) (text "_"))))
    (is-cond c.source id c.fields)
kinds-agree c (FieldDesc.Flag id) = refl
kinds-agree c (FieldDesc.Typedef id type) = enum-picked c.options.arrays c.source id type (enum_of c.source c.scope type)
