-- `slots::piece_end` meets its contract, by the laws of Parting.
-- Assumes nothing.
use Rattle.slots.proofs.Parting.{end-past, end-here, end_later}
use Rattle.std.proofs.Common.{refl}
use native.Mathlib.Omega.{arith}
use borrow.Author.Rules.{rules}
use Rattle.slots.proofs.piece_end.Goals as goal

pub loop-p-init : goal.loop-p-init
loop-p-init c = (omega arith, refl)

pub returns-then-s-p : goal.returns-then-s-p
returns-then-s-p c = search (end-here, rules)

pub loop-p-preserved : goal.loop-p-preserved
loop-p-preserved c = (omega arith, search (end_later, rules))

pub returns : goal.returns
returns c = omega (arith, c.max.ensures, end-past c.args.separator c.args.s.now c.loop-p.p c.loop-p.invariant.1 c.loop-p-test.false)
