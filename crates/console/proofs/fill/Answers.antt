use Rattle.std.proofs.Common.{rules, ◌∙◌}
use Rattle.std.proofs.lemmas.Slice.{take-put_mid_below}
use Rattle.console.proofs.Pieces.{came_behind}
use Rattle.console.proofs.fill.Goals as goal

pub loop-end-preserved : goal.loop-end-preserved
loop-end-preserved g c =
    let (before, kept, came) = c.loop-end.invariant in (
      search rules,
      take-put_mid_below _ _ _ _ _ before (search rules) ∙ kept,
      came_behind _ _ _ _ _ _ before (search rules) (search rules) _ _ _ came c.in-Ok.ensures.bytes.0,
    )
