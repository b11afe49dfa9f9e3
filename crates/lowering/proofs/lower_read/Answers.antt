-- `lowering::lower_read` meets its contract, by the laws of Targets.
-- Assumes nothing.
use borrow.Author.Rules.{rules}
use Rattle.lowering.proofs.Passes.{of-error}
use Rattle.lowering.proofs.Targets.{check-refused, target-fine, target-short, all-fine, target-answers, all-answers}
use Rattle.lowering.proofs.lower_read.Goals as goal

pub returns-in_err-i : goal.returns-in_err-i
returns-in_err-i c = check-refused _ _ _ _ _ _ _ c.check_sizes.ensures _ c.in_err-i.was (of-error {x = c.from_residual.result} (search rules))

pub invariant_of-target : goal.invariant_of-target
invariant_of-target c = record { fine = target-fine _ _ _ _ _ _ _ c.check_sizes.ensures c.in_ok-i.was c.requires.1.0 c.count_here.ensures }

pub write_lines-requires : goal.write_lines-requires
write_lines-requires c = target-short _ _ _ _ _ _ _ c.check_sizes.ensures c.in_ok-i.was c.requires.1.1 c.count_here.ensures

pub write_sections-requires : goal.write_sections-requires
write_sections-requires c = all-fine _ _ _ _ _ _ _ c.check_sizes.ensures c.in_ok-i.was c.requires.1.0 c.requires.0

pub returns-in-Target : goal.returns-in-Target
returns-in-Target c = target-answers _ _ _ _ _ _ _ c.check_sizes.ensures c.in_ok-i.was c.in-Target.is c.count_here.ensures c.write_lines.ensures

pub returns-in-All : goal.returns-in-All
returns-in-All c = all-answers _ _ _ _ _ _ _ c.check_sizes.ensures c.in_ok-i.was c.in-All.is c.write_sections.ensures
