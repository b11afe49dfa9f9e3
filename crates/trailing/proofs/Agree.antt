-- What a typedef and a payload come to with their names as parts of the record is what they come to by the definitions on an octet boundary.
-- Assumes nothing.
use Rattle.std.specs.Prelude.{Option, Some, None}
use Prim.Native.Nat.{ℕ, ◌/◌}
use mathlib.Core.Bool.{Bool, true, false}
use mathlib.Core.List.{List}
use mathlib.Core.Path.{◌≡◌, refl}
use lib.Dec.{ltb}
use Rattle.definitions.specs.Bytes.{text, pick, part}
use Rattle.definitions.specs.Sizes.{Annotated, has_payload_size}
use Rattle.definitions.specs.Blocks.{named, Block}
use Rattle.definitions.specs.FieldParser.{Setting, Emit, appends, get_trailing_size, size_backing}
use Rattle.definitions.specs.FieldParser.{typedef_block, typedef_by_size, parse_typedef_field, unsized_payload, payload_name, payload_by_size, parse_payload_field_lite}
use Rattle.definitions.specs.FieldParser as parser
use Rattle.definitions.specs.declared.Modifier.{Modifier}
use Rattle.definitions.specs.declared.Part.{Part}
use Rattle.definitions.specs.declared.Size.{Size}
use Rattle.emits.specs.BlockOf.{block_of, emit_of}
use Rattle.emits.specs.declared.BlockAt.{BlockAt}
use Rattle.emits.specs.declared.EmitAt.{EmitAt}
use Rattle.trailing.specs.Values.{typedef_up_to, typedef_at, unsized_at, payload_at}

module _ (c : Setting) where
  -- the definitions' `Emit` that a value stands for
  abbrev emit : EmitAt → Emit
  emit e = emit_of c.source (text "payload") c.options (λ id. size_backing c.source id c.fields) e

  abbrev bits_behind : List Annotated → Option ℕ
  bits_behind later = get_trailing_size c.options.trailing later

  -- ---- a typedef

  typedef-picked : (id type : Part) (bits : ℕ) (b : Bool)
      → emit (EmitAt.Appends (pick b (BlockAt.NestedUpTo id (bits / 8) type) (BlockAt.Nested id type)))
      ≡ appends
      (pick b (Block.nested_up_to (part c.source id) (bits / 8) (part c.source type) (named c.options.arrays (part c.source id) (text "_")))
      (Block.nested (part c.source type) (named c.options.arrays (part c.source id) (text "_"))))
  unfolding block_of
  typedef-picked id type bits true = refl
  typedef-picked id type bits false = refl

  typedef-trailing : (id type : Part) (trailing : Option ℕ)
      → emit (typedef_up_to id type trailing) ≡ parser.on_trailing trailing (λ bits. appends (typedef_block c id type bits))
  typedef-trailing id type None = refl
  typedef-trailing id type (Some bits) = typedef-picked id type bits (ltb 0 bits)

  typedef-sized : (id type : Part) (later : List Annotated) (z : Size) → emit (typedef_at id type (bits_behind later) z) ≡ typedef_by_size c id type later z
  unfolding block_of
  typedef-sized id type later (Size.Static bits) = refl
  typedef-sized id type later Size.Dynamic = refl
  typedef-sized id type later Size.Unknown = typedef-trailing id type (bits_behind later)

  pub typedefs-agree : (a : Annotated) (id type : Part) (later : List Annotated)
      → emit (typedef_at id type (bits_behind later) a.field_size) ≡ parse_typedef_field c 0 a id type later
  unfolding parse_typedef_field
  typedefs-agree a id type later = typedef-sized id type later a.field_size

  -- ---- a payload

  payload-picked : (bits : ℕ) (b : Bool)
      → emit (EmitAt.Appends (pick b (BlockAt.PayloadUpTo (bits / 8)) BlockAt.PayloadToEnd))
      ≡ appends (pick b (Block.payload_up_to (payload_name c (text "_")) (bits / 8)) (Block.payload_to_end (payload_name c (text "_"))))
  unfolding block_of
  payload-picked bits true = refl
  payload-picked bits false = refl

  payload-trailing : (trailing : Option ℕ)
      → emit (unsized_at trailing) ≡ parser.on_trailing trailing (λ bits. appends (unsized_payload (payload_name c (text "_")) bits))
  payload-trailing None = refl
  payload-trailing (Some bits) = payload-picked bits (ltb 0 bits)

  payload-sized : (modifier : Modifier) (later : List Annotated) (b : Bool)
      → emit (payload_at modifier b (bits_behind later)) ≡ payload_by_size c modifier later b
  unfolding block_of
  payload-sized modifier later true = refl
  payload-sized modifier later false = payload-trailing (bits_behind later)

  pub payloads-agree : (modifier : Modifier) (later : List Annotated)
      → emit (payload_at modifier (has_payload_size c.source c.fields) (bits_behind later)) ≡ parse_payload_field_lite c 0 modifier later
  unfolding parse_payload_field_lite
  payloads-agree modifier later = payload-sized modifier later (has_payload_size c.source c.fields)
