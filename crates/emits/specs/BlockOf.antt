-- The definitions' block, and `Emit`, that the by-value ones stand for.
-- Assumes nothing.
use Rattle.std.specs.Prelude.{Option, Some, None, [], ℕ, ◌<◌, ◌^◌}
use Rattle.definitions.specs.Bytes.{Text, text, part}
use Rattle.definitions.specs.Blocks.{named, Block}
use Rattle.definitions.specs.FieldParser.{Emit, appends, silent, refuses}
use Rattle.definitions.specs.declared.Part.{Part}
use Rattle.definitions.specs.declared.Modifier.{Modifier}
use Rattle.definitions.specs.declared.Options.{Options}
use Rattle.definitions.specs.declared.ElementSize.{ElementSize}
use Rattle.definitions.specs.declared.ArraySize.{ArraySize}
use Rattle.elements.specs.declared.Element.{Element}
use Rattle.arrays.specs.Shapes.{product, array_of}
use Rattle.emits.specs.declared.BlockAt.{BlockAt}
use Rattle.emits.specs.declared.EmitAt.{EmitAt}

-- `type_name`
abbrev pub type_text : Text → Option Part → Text
type_text s None = []
type_text s (Some type) = part s type

-- `with_padding`, of padded bytes; `w` is the size variable's bits, which are not written
abbrev pub array_block : Text → Options → ℕ → Option ℕ → Part → Option Part → Element → Modifier → ElementSize → ArraySize → Block
array_block s o w None id type element modifier e n = Block.array modifier w (array_of o (part s id) (type_text s type) element e n)
array_block s o w (Some bytes) id type element modifier e n =
    Block.padded_array bytes modifier w (array_of o (part s id) (type_text s type) element e n)

-- `bits` gives the bits of an array's size variable: they are not written
unfoldable pub block_of : Text → Text → Options → (Part → ℕ) → BlockAt → Block
block_of s word o bits (BlockAt.SizedPayload modifier) = Block.sized_payload (named o.arrays word (text "_")) (named o.arrays word (text "_size_")) modifier
block_of s word o bits (BlockAt.PayloadUpTo n) = Block.payload_up_to (named o.arrays word (text "_")) n
block_of s word o bits BlockAt.PayloadToEnd = Block.payload_to_end (named o.arrays word (text "_"))
block_of s word o bits (BlockAt.Array padding id type element modifier e n) = array_block s o (bits id) padding id type element modifier e n
block_of s word o bits (BlockAt.OptionalScalar c v w id) = Block.optional_scalar (part s c) v o.endianness w (named o.arrays (part s id) (text "_"))
block_of s word o bits (BlockAt.OptionalOpen c v w id type) =
    Block.optional_open (part s c) v o.endianness w (named o.arrays (part s id) (text "_")) (part s type)
block_of s word o bits (BlockAt.OptionalClosed c v w id type) =
    Block.optional_closed (part s c) v o.endianness w (named o.arrays (part s id) (text "_")) (part s type)
block_of s word o bits (BlockAt.OptionalNested c v id type) = Block.optional_nested (part s c) v (named o.arrays (part s id) (text "_")) (part s type)
block_of s word o bits (BlockAt.Nested id type) = Block.nested (part s type) (named o.arrays (part s id) (text "_"))
block_of s word o bits (BlockAt.NestedUpTo id n type) = Block.nested_up_to (part s id) n (part s type) (named o.arrays (part s id) (text "_"))

-- the bytes of an array of fixed size are a number of the machine
abbrev pub block_bytes : BlockAt → ℕ
block_bytes (BlockAt.SizedPayload modifier) = 0
block_bytes (BlockAt.PayloadUpTo n) = 0
block_bytes BlockAt.PayloadToEnd = 0
block_bytes (BlockAt.Array padding id type element modifier e n) = product e n
block_bytes (BlockAt.OptionalScalar c v w id) = 0
block_bytes (BlockAt.OptionalOpen c v w id type) = 0
block_bytes (BlockAt.OptionalClosed c v w id type) = 0
block_bytes (BlockAt.OptionalNested c v id type) = 0
block_bytes (BlockAt.Nested id type) = 0
block_bytes (BlockAt.NestedUpTo id n type) = 0

abbrev pub BlockFits : BlockAt → Type 0
BlockFits b = block_bytes b < 2 ^ 64

abbrev pub emit_of : Text → Text → Options → (Part → ℕ) → EmitAt → Emit
emit_of s word o bits (EmitAt.Appends b) = appends (block_of s word o bits b)
emit_of s word o bits EmitAt.Silent = silent
emit_of s word o bits (EmitAt.Refuses why) = refuses why

abbrev pub EmitFits : EmitAt → Type 0
EmitFits (EmitAt.Appends b) = BlockFits b
EmitFits EmitAt.Silent = Unit {0}
EmitFits (EmitAt.Refuses why) = Unit {0}
