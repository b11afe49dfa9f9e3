use Rattle.std.proofs.Common.{arith}
use Rattle.definitions.specs.Answer.{lower}
use Rattle.console.proofs.Answers.{answers_long, lower_long}
use Rattle.lower.proofs.run.Goals as goal

pub returns-in-Full : goal.returns-in-Full
returns-in-Full g c =
    answers_long _ _ _ (λ s. lower s 65536) _ _ _ c.in-Full.ensures.bytes (omega arith) (lower_long 65536) c.lower.ensures
