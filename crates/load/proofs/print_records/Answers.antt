use Rattle.std.proofs.Common.{rules, arith, ◌+◌, ◌-◌, ◌∙◌}
use Rattle.console.proofs.Pieces.{writes_err}
use Rattle.generator.proofs.Printed.{printed-whole}
use Rattle.load.proofs.Records.{whole_written, written_more, written_short}
use Rattle.load.proofs.print_records.Goals as goal

pub returns-in_err-print_bytes : goal.returns-in_err-print_bytes
returns-in_err-print_bytes g c =
    let text = c.front.ensures ∙ printed-whole c.loop.state (search rules) c.put_record-drawn.ensures.0 in
    writes_err _ _ _ _ c.from_residual.ensures.0
    (written_short _ _ _ _ (c.args.count - (c.loop.counter + 1)) _ (omega arith) _ _ text c.loop.invariant.1 c.in_err-print_bytes.ensures)

pub loop-preserved : goal.loop-preserved
loop-preserved g c =
    let put = c.put_record-drawn.ensures in
    let text = c.front.ensures ∙ printed-whole c.loop.state (search rules) put.0 in
    (search rules, written_more _ _ _ _ _ _ (omega arith) _ _ _ text put.1 c.loop.invariant.1 c.in_ok-print_bytes.ensures)

pub returns : goal.returns
returns g c = whole_written _ _ _ _ _ (omega arith) c.loop.invariant.1
