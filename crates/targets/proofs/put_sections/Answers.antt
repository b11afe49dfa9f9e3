-- `targets::put_sections` meets its contract, by the laws of Each.
-- Assumes nothing.
use mathlib.Core.Path.{refl}
use borrow.Author.Rules.{rules}
use Rattle.targets.proofs.Each.{at_small, ends, skips, refuses-here, goes-on}
use Rattle.targets.proofs.put_sections.Goals.{then-is_frame+in_ok-put_section, else-is_frame}
use Rattle.targets.proofs.put_sections.Goals as goal

pub returns-in_err-put_section : goal.returns-in_err-put_section
returns-in_err-put_section c =
    refuses-here c.t.view_is refl c.loop-i.invariant c.loop-i-test.true c.decl_here.ensures c.is_frame.ensures c.if-is_frame.true
    c.put_section.ensures c.in_err-put_section.was (search rules) (search rules)

pub loop-i-preserved : goal.loop-i-preserved
loop-i-preserved c = elim c.if-is_frame.branch [
  | then-is_frame+in_ok-put_section w ↦
      goes-on c.t.view_is refl c.loop-i.invariant c.loop-i-test.true c.decl_here.ensures c.is_frame.ensures w.if-is_frame.true
      w.put_section.ensures c.requires.short w.in_ok-put_section.was w.w-is
  | else-is_frame w ↦
      skips c.t.view_is refl c.loop-i.invariant c.loop-i-test.true c.decl_here.ensures c.is_frame.ensures w.if-is_frame.false w.w-is
]

pub returns : goal.returns
returns c = ends c.t.view_is refl c.loop-i.invariant c.loop-i-test.false (search rules)
