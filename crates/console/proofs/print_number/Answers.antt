use Rattle.std.proofs.Common.{◌≡◌, decimal, ◌∙◌}
use Rattle.std.proofs.KnownBytes.{Appends-trans}
use Rattle.console.proofs.Pieces.{appends_same, fails_same, fails_before, fails_behind, writes_behind, writes_err}
use Rattle.console.proofs.print_number.Goals as goal

pub returns-in_err-print_bytes : goal.returns-in_err-print_bytes
returns-in_err-print_bytes g c =
    writes_err _ _ _ _ c.from_residual.ensures.0
    (fails_before _ _ _ _ (fails_before _ _ _ _ (fails_before _ _ _ _ c.in_err-print_bytes.ensures)))

pub returns-in_err-print_bytes-2 : goal.returns-in_err-print_bytes-2
returns-in_err-print_bytes-2 g c =
    writes_err _ _ _ _ c.from_residual-in_err-print_bytes-2.ensures.0
    (fails_before _ _ _ _ (fails_before _ _ _ _ (fails_behind _ _ _ _ _ c.in_ok-print_bytes.ensures c.in_err-print_bytes-2.ensures)))

pub returns-in_err-print_bytes-3 : goal.returns-in_err-print_bytes-3
returns-in_err-print_bytes-3 g c =
    let text : c.as_bytes.result.now ≡ decimal c.args.n = c.as_bytes.ensures.value ∙ c.format.ensures.text in
    let name = Appends-trans _ _ _ _ _ c.in_ok-print_bytes.ensures c.in_ok-print_bytes-2.ensures in
    writes_err _ _ _ _ c.from_residual-in_err-print_bytes-3.ensures.0
    (fails_before _ _ _ _ (fails_behind _ _ _ _ _ name (fails_same _ _ _ _ text c.in_err-print_bytes-3.ensures)))

pub returns : goal.returns
returns g c =
    let text : c.as_bytes.result.now ≡ decimal c.args.n = c.as_bytes.ensures.value ∙ c.format.ensures.text in
    let name = Appends-trans _ _ _ _ _ c.in_ok-print_bytes.ensures c.in_ok-print_bytes-2.ensures in
    let number = Appends-trans _ _ _ _ _ name (appends_same _ _ _ _ text c.in_ok-print_bytes-3.ensures) in
    writes_behind _ _ _ _ _ _ number c.print_bytes-4.ensures
