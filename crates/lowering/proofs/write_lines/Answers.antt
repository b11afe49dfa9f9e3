-- `lowering::write_lines` meets its contract, by the laws of Passes and those of the plan.
-- Assumes nothing.
use borrow.Author.Rules.{rules}
use Rattle.planner.proofs.Stands.{is-plan}
use Rattle.lowering.proofs.Passes.{plan-answers, once-answers, none_answers}
use Rattle.lowering.proofs.write_lines.Goals as goal

pub returns-then-t-eq0 : goal.returns-then-t-eq0
returns-then-t-eq0 c = none_answers _ _ _ _ c.if-t-eq0.true

pub write_plan-requires : goal.write_plan-requires
write_plan-requires c = (c.args.t.now.fine.few, (is-plan c.args.t.now.fine c.plan_target-plan.ensures).sound)

pub returns-then-out-lt-LONGEST_LINES : goal.returns-then-out-lt-LONGEST_LINES
returns-then-out-lt-LONGEST_LINES c = plan-answers _ _ _ _ c.tables.view_is c.args.t.now.fine c.plan_target-plan.ensures c.write_plan.ensures

pub write_at_once-requires : goal.write_at_once-requires
write_at_once-requires c = (c.args.t.now.fine.few, (is-plan c.args.t.now.fine c.plan_target-plan.ensures).sound)

pub returns : goal.returns
returns c =
    once-answers _ _ _ _ c.tables.view_is c.args.t.now.fine c.plan_target-plan.ensures c.requires c.if-out-lt-LONGEST_LINES.false
    c.write_at_once.ensures
