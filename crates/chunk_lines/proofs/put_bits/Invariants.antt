-- What the loop of `chunk_lines::put_bits` keeps from turn to turn.
-- Assumes nothing.
use mathlib.Core.Path.{◌≡◌}
use Rattle.definitions.specs.Blocks.{raws_behind}
use Rattle.text.specs.Wrote.{Wrote}
use Rattle.chunk_lines.specs.Bits.{bits_of, bits_text}
use Rattle.chunk_lines.proofs.put_bits.Given as goal

abbrev pub invariant-loop-i : goal.invariant-loop-i
invariant-loop-i l =
    Wrote l.initial.w l.w (bits_text l.options l.rec l.word l.whole l.c l.kinds l.i)
    × (l.raws ≡ raws_behind l.whole.raws (bits_of l.options.arrays l.rec l.word l.c l.kinds l.i))
