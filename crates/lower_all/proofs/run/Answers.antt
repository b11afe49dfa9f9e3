use Rattle.std.proofs.Common.{arith}
use Rattle.definitions.specs.All.{lower_all}
use Rattle.console.proofs.Answers.{answers_long, lower_all_long}
use Rattle.lower_all.proofs.run.Goals as goal

pub returns-in-Full : goal.returns-in-Full
returns-in-Full g c =
    answers_long _ _ _ (λ s. lower_all s 65536) _ _ _ c.in-Full.ensures.bytes (omega arith) (lower_all_long 65536) c.lower_all.ensures
