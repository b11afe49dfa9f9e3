-- `targets::put_section` meets its contract, by the laws of Sections and those of the plan.
-- Assumes nothing.
use Rattle.std.specs.Prelude.{◌≡◌, Err}
use mathlib.Core.Path.{refl, sym, subst}
use borrow.Author.Rules.{rules}
use Rattle.definitions.specs.Refusals.{Verdict}
use Rattle.parser.specs.Driver.{Tells}
use Rattle.targets.specs.Told.{entry_told}
use Rattle.schema.specs.Entries.{entry_in}
use Rattle.targets.proofs.Sections.{count-sound, from-behind, put-refused, put-long, put-short}
use Rattle.targets.proofs.put_section.Goals as goal

pub lower_target-requires : goal.lower_target-requires
lower_target-requires c = count-sound _ _ _ (sym c.t.view_is) c.count_here.ensures c.requires.2 c.plan_target-plan.ensures

pub overflow_sub-w : goal.overflow_sub-w
overflow_sub-w c =
    let p = c.requires in
    from-behind _ _ _ (sym c.t.view_is) p.0 p.1 p.2 c.count_here.ensures c.plan_target-plan.ensures c.id_here-id.ensures c.part.ensures c.name.ensures
    c.lower_target.ensures

pub returns-in_err-lower_target : goal.returns-in_err-lower_target
returns-in_err-lower_target c =
    let p = c.requires in
    let refused : c.from_residual.result ≡ Err c.in_err-lower_target.field-0.0 = search rules in
    subst
    (λ (v : Verdict). Tells (entry_told c.args.t.now.source c.args.options (entry_in c.args.t.now.source c.args.t.now.rows c.args.t.now.values c.args.t.now.fields c.args.i)) c.args.w.now c.lower_target.new.w v)
    (sym refused)
    (put-refused _ _ _ (sym c.t.view_is) p.0 p.1 p.2 c.count_here.ensures c.plan_target-plan.ensures c.id_here-id.ensures c.part.ensures c.name.ensures
    c.lower_target.ensures c.in_err-lower_target.was)

pub returns-then-w-from-gt-LONGEST_SECTION : goal.returns-then-w-from-gt-LONGEST_SECTION
returns-then-w-from-gt-LONGEST_SECTION c =
    let p = c.requires in
    put-long _ _ _ (sym c.t.view_is) p.0 p.1 p.2 c.count_here.ensures c.plan_target-plan.ensures c.id_here-id.ensures c.part.ensures c.name.ensures
    c.lower_target.ensures c.in_ok-lower_target.was c.if-w-from-gt-LONGEST_SECTION.true

pub returns : goal.returns
returns c =
    let p = c.requires in
    put-short _ _ _ (sym c.t.view_is) p.0 p.1 p.2 c.count_here.ensures c.plan_target-plan.ensures c.id_here-id.ensures c.part.ensures c.name.ensures
    c.lower_target.ensures c.in_ok-lower_target.was c.if-w-from-gt-LONGEST_SECTION.false
