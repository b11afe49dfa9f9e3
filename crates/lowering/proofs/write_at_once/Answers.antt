-- `lowering::write_at_once` meets its contract, by the laws of Passes.
-- Assumes nothing.
use mathlib.Core.Path.{refl}
use borrow.Author.Rules.{rules}
use Rattle.lowering.proofs.Passes.{of-error, once-refused, once-written, once-again}
use Rattle.lowering.proofs.write_at_once.Goals as goal

pub returns-in_err-target_verdict : goal.returns-in_err-target_verdict
returns-in_err-target_verdict c = λ bits fits.
    once-refused _ (c.target_verdict.ensures _ _ bits) c.in_err-target_verdict.was (of-error {x = c.from_residual.result} (search rules))

pub returns-in_err-lower_target : goal.returns-in_err-lower_target
returns-in_err-lower_target c = λ bits fits.
    once-again _ (c.target_verdict.ensures _ _ bits) c.in_ok-target_verdict.was refl (c.lower_target.ensures bits) c.in_err-lower_target.was

pub returns : goal.returns
returns c = λ bits fits.
    once-written _ (c.target_verdict.ensures _ _ bits) c.in_ok-target_verdict.was refl (c.lower_target.ensures bits) refl fits (search rules)
