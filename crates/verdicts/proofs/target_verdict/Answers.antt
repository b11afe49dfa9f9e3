-- `verdicts::target_verdict` meets its contract, by the laws of proofs/Verdicts.
-- Assumes nothing.
use Rattle.verdicts.proofs.Verdicts.{counting-starts, judged, counted-all, entry-fits, entry-refused, entry-passed}
use borrow.Author.Rules.{rules}
use native.Mathlib.Omega.{arith}
use mathlib.Core.Path.{◌≡◌, ◌∙◌}
use Rattle.std.specs.Prelude.{Err}
use Rattle.verdicts.proofs.target_verdict.Goals as goal

pub loop-k-init : goal.loop-k-init
loop-k-init c = search (counting-starts, rules)

pub count-requires : goal.count-requires
count-requires c = (search (entry-fits, rules), omega (arith, c.loop-k.invariant.few, c.loop-k-test.true, c.requires.0))

pub returns-in_err-t : goal.returns-in_err-t
returns-in_err-t c =
    let refused : c.from_residual.result ≡ Err c.in_err-t.field-0.0 = search rules in
    judged _ _ (refused ∙ entry-refused _ _ _ _ c.loop-k.invariant c.loop-k-test.true c.count.ensures c.in_err-t.was)

pub loop-k-preserved : goal.loop-k-preserved
loop-k-preserved c = entry-passed _ _ _ _ c.loop-k.invariant c.loop-k-test.true c.count.ensures c.in_ok-t.was

pub returns : goal.returns
returns c = judged _ _ (search (counted-all, rules))
