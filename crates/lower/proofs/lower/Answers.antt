use Rattle.std.proofs.Common.{arith}
use Rattle.console.proofs.Pieces.{appends_same, fails_same}
use Rattle.console.proofs.Answers.{printed_lower}
use Rattle.lower.proofs.lower.Goals as goal

pub returns-in-Ok : goal.returns-in-Ok
returns-in-Ok g c = appends_same _ _ _ _ (printed_lower c.args.rec.now _ _ _ (omega arith) c.lower-word.ensures) c.in-Ok.ensures

pub returns-in-Err : goal.returns-in-Err
returns-in-Err g c = fails_same _ _ _ _ (printed_lower c.args.rec.now _ _ _ (omega arith) c.lower-word.ensures) c.in-Err.ensures
