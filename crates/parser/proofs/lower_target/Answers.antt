-- `parser::lower_target` meets its contract, by the laws of proofs/Turns and proofs/Drives.
-- Assumes nothing.
use mathlib.Core.List.{[]}
use mathlib.Core.Path.{refl}
use Rattle.parser.proofs.Turns.{shift_fits, alone-fits, turned-other, turned-alone, turned-open, closing, turned-closed}
use Rattle.parser.proofs.Drives.{run-start, run-room, run-stop, run_on, run-done}
use borrow.Author.Rules.{rules}
use Rattle.parser.proofs.lower_target.Goals as goal
use Rattle.parser.proofs.lower_target.Goals.{in-Other+in_ok-t-in-Other, in-Bit+then-is_alone+in_ok-t-in-Bit, in-Bit+else-is_alone+then-t-eq0+in_ok-t-in-Bit-2, in-Bit+else-is_alone+else-t-eq0}

pub loop-k-init : goal.loop-k-init
loop-k-init c = run-start _ _ _ _ _ c.requires c.empty-c.ensures c.new-t.ensures (search rules)

pub returns-in_err-t-in-Other : goal.returns-in_err-t-in-Other
returns-in_err-t-in-Other c =
    let run = c.loop-k.invariant in
    let z = c.requires in
    run-stop _ _ _ _ _ _ _ _ _ _ run c.loop-k-test.true
    (turned-other _ _ _ _ _ _ _ _ c.loop-k-test.true z.0 z.1 run.going c.in-Other.is c.parse_other_field.ensures) c.in_err-t-in-Other.was (search rules)

pub close_alone-requires : goal.close_alone-requires
close_alone-requires c =
    let run = c.loop-k.invariant in
    let z = c.requires in
    alone-fits c.args.options [] _ _ _ _ _ _ c.loop-k-test.true z.0 z.1 run.going c.in-Bit.is

pub returns-in_err-t-in-Bit : goal.returns-in_err-t-in-Bit
returns-in_err-t-in-Bit c =
    let run = c.loop-k.invariant in
    let z = c.requires in
    run-stop _ _ _ _ _ _ _ _ _ _ run c.loop-k-test.true
    (turned-alone _ _ _ _ _ _ _ _ c.loop-k-test.true z.0 z.1 run.going c.in-Bit.is c.is_alone.ensures c.if-is_alone.true c.close_alone.ensures)
    c.in_err-t-in-Bit.was (search rules)

pub opened-t-requires : goal.opened-t-requires
opened-t-requires c =
    let run = c.loop-k.invariant in
    let z = c.requires in
    shift_fits c.args.options [] _ _ _ _ _ _ c.loop-k-test.true z.0 z.1 run.going c.in-Bit.is

pub close-requires : goal.close-requires
close-requires c =
    let run = c.loop-k.invariant in
    let z = c.requires in
    closing c.args.options [] _ _ _ _ _ _ c.loop-k-test.true z.0 z.1 run.going c.in-Bit.is c.is_alone.ensures c.if-is_alone.false
    c.grow-c.ensures c.opened-t.ensures c.if-t-eq0.true

pub returns-in_err-t-in-Bit-2 : goal.returns-in_err-t-in-Bit-2
returns-in_err-t-in-Bit-2 c =
    let run = c.loop-k.invariant in
    let z = c.requires in
    run-stop _ _ _ _ _ _ _ _ _ _ run c.loop-k-test.true
    (turned-closed _ _ _ _ _ _ _ _ c.loop-k-test.true z.0 z.1 run.going c.in-Bit.is c.is_alone.ensures c.if-is_alone.false
    c.grow-c.ensures c.opened-t.ensures c.if-t-eq0.true c.close.ensures)
    c.in_err-t-in-Bit-2.was (search rules)

pub loop-k-preserved : goal.loop-k-preserved
loop-k-preserved c =
    let run = c.loop-k.invariant in
    let z = c.requires in
    let h = c.loop-k-test.true in
    elim c.match-plan-k.branch [
      | in-Other+in_ok-t-in-Other w ↦
          rw (w.w-is, w.kinds-is, w.c-is, w.t-is)
          (run_on _ _ _ _ _ _ _ _ _ _ run h
          (turned-other _ _ _ _ _ _ _ _ h z.0 z.1 run.going w.in-Other.is w.parse_other_field.ensures) w.in_ok-t-in-Other.was)
      | in-Bit+then-is_alone+in_ok-t-in-Bit w ↦
          rw (w.w-is, w.kinds-is, w.c-is, w.t-is)
          (run_on _ _ _ _ _ _ _ _ _ _ run h
          (turned-alone _ _ _ _ _ _ _ _ h z.0 z.1 run.going w.in-Bit.is w.is_alone.ensures w.if-is_alone.true w.close_alone.ensures) w.in_ok-t-in-Bit.was)
      | in-Bit+else-is_alone+then-t-eq0+in_ok-t-in-Bit-2 w ↦
          rw (w.w-is, w.kinds-is, w.c-is, w.t-is)
          (run_on _ _ _ _ _ _ _ _ _ _ run h
          (turned-closed _ _ _ _ _ _ _ _ h z.0 z.1 run.going w.in-Bit.is w.is_alone.ensures w.if-is_alone.false
          w.grow-c.ensures w.opened-t.ensures w.if-t-eq0.true w.close.ensures)
          w.in_ok-t-in-Bit-2.was)
      | in-Bit+else-is_alone+else-t-eq0 w ↦
          rw (w.w-is, w.kinds-is, w.c-is, w.t-is)
          (run_on _ _ _ _ _ _ _ _ _ _ run h
          (turned-open _ _ _ _ _ _ _ _ h z.0 z.1 run.going w.in-Bit.is w.is_alone.ensures w.if-is_alone.false
          w.grow-c.ensures w.opened-t.ensures w.if-t-eq0.false _ (run-room _ _ _ _ _ _ _ _ _ _ run))
          refl)
    ]

pub returns : goal.returns
returns c = run-done _ _ _ _ _ _ _ _ _ _ c.loop-k.invariant c.loop-k-test.false c.check_code.ensures
