-- `field_lines::put_block` meets its contract: each arm writes the block that its case stands for.
-- Assumes nothing.
use mathlib.Core.Path.{sym}
use Rattle.emits.specs.BlockOf.{block_of}
use Rattle.field_lines.proofs.put_block.Goals as goal

pub returns-in-SizedPayload : goal.returns-in-SizedPayload
unfolding block_of
returns-in-SizedPayload c = λ bits. rw (c.in-SizedPayload.is, block_of, sym c.name-x.ensures) c.put_sized_payload.ensures

pub returns-in-PayloadUpTo : goal.returns-in-PayloadUpTo
unfolding block_of
returns-in-PayloadUpTo c = λ bits. rw (c.in-PayloadUpTo.is, block_of, sym c.name-x-in-PayloadUpTo.ensures) c.put_payload_up_to.ensures

pub returns-in-PayloadToEnd : goal.returns-in-PayloadToEnd
unfolding block_of
returns-in-PayloadToEnd c = λ bits. rw (c.in-PayloadToEnd.is, block_of, sym c.name-x-in-PayloadToEnd.ensures) c.put_payload_to_end.ensures

pub returns-in-Array : goal.returns-in-Array
unfolding block_of
returns-in-Array c = λ bits. rw (c.in-Array.is, block_of) (c.put_array.ensures (bits c.in-Array.id))

pub returns-in-OptionalScalar : goal.returns-in-OptionalScalar
unfolding block_of
returns-in-OptionalScalar c = λ bits. rw (c.in-OptionalScalar.is, block_of, sym c.part-c.ensures, sym c.part-x.ensures) c.put_optional_scalar.ensures

pub returns-in-OptionalOpen : goal.returns-in-OptionalOpen
unfolding block_of
returns-in-OptionalOpen c =
    λ bits.
    rw (
      c.in-OptionalOpen.is,
      block_of,
      sym c.part-c-in-OptionalOpen.ensures,
      sym c.part-x-in-OptionalOpen.ensures,
      sym c.part-ty.ensures,
    )
    c.put_optional_open.ensures

pub returns-in-OptionalClosed : goal.returns-in-OptionalClosed
unfolding block_of
returns-in-OptionalClosed c =
    λ bits.
    rw (
      c.in-OptionalClosed.is,
      block_of,
      sym c.part-c-in-OptionalClosed.ensures,
      sym c.part-x-in-OptionalClosed.ensures,
      sym c.part-ty-in-OptionalClosed.ensures,
    )
    c.put_optional_closed.ensures

pub returns-in-OptionalNested : goal.returns-in-OptionalNested
unfolding block_of
returns-in-OptionalNested c =
    λ bits.
    rw (
      c.in-OptionalNested.is,
      block_of,
      sym c.part-c-in-OptionalNested.ensures,
      sym c.part-x-in-OptionalNested.ensures,
      sym c.part-ty-in-OptionalNested.ensures,
    )
    c.put_optional_nested.ensures

pub returns-in-Nested : goal.returns-in-Nested
unfolding block_of
returns-in-Nested c =
    λ bits. rw (c.in-Nested.is, block_of, sym c.part-x-in-Nested.ensures, sym c.part-ty-in-Nested.ensures) c.put_nested.ensures

pub returns-in-NestedUpTo : goal.returns-in-NestedUpTo
unfolding block_of
returns-in-NestedUpTo c =
    λ bits. rw (c.in-NestedUpTo.is, block_of, sym c.part-x-in-NestedUpTo.ensures, sym c.part-ty-in-NestedUpTo.ensures) c.put_nested_up_to.ensures
