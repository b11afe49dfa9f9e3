-- `lowering::write_sections` meets its contract, by the laws of Passes.
-- Assumes nothing.
use mathlib.Core.Path.{refl}
use borrow.Author.Rules.{rules}
use Rattle.lowering.proofs.Passes.{of-error, sections-refused, sections-no-room, sections-written}
use Rattle.lowering.proofs.write_sections.Goals as goal

pub returns-in_err-whole : goal.returns-in_err-whole
returns-in_err-whole c = sections-refused _ c.put_sections.ensures c.in_err-whole.was (of-error {x = c.from_residual.result} (search rules))

pub returns-then-out-whole : goal.returns-then-out-whole
returns-then-out-whole c = sections-no-room _ c.put_sections.ensures c.in_ok-whole.was c.if-out-whole.true refl

pub returns : goal.returns
returns c = sections-written _ c.put_sections.ensures c.in_ok-whole.was c.if-out-whole.false c.put_sections-2.ensures
