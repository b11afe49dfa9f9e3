-- `lowering::write_plan` meets its contract, by the laws of Passes.
-- Assumes nothing.
use mathlib.Core.Path.{refl}
use borrow.Author.Rules.{rules}
use Rattle.lowering.proofs.Passes.{of-error, pass-refused, pass-no-room, pass-written, pass-again}
use Rattle.lowering.proofs.write_plan.Goals as goal

pub returns-in_err-lower_target : goal.returns-in_err-lower_target
returns-in_err-lower_target c = λ bits.
    pass-refused _ refl (c.lower_target.ensures bits) c.in_err-lower_target.was (of-error {x = c.from_residual.result} (search rules))

pub returns-then-out-first : goal.returns-then-out-first
returns-then-out-first c = λ bits.
    pass-no-room _ refl (c.lower_target.ensures bits) c.in_ok-lower_target.was c.if-out-first.true refl

pub returns-in_err-lower_target-2 : goal.returns-in_err-lower_target-2
returns-in_err-lower_target-2 c = λ bits.
    pass-again _ refl (c.lower_target.ensures bits) c.in_ok-lower_target.was c.if-out-first.false refl refl
    (c.lower_target-2.ensures bits) c.in_err-lower_target-2.was

pub returns : goal.returns
returns c = λ bits.
    pass-written _ refl (c.lower_target.ensures bits) c.in_ok-lower_target.was c.if-out-first.false refl refl
    (c.lower_target-2.ensures bits) (let same = (c.lower_target-2.ensures bits).wrote.same in search rules)
