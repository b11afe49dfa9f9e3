-- `readers::field_at` meets its contract: a name of a field is one of its kind or of its condition.
-- Assumes nothing.
use Rattle.std.proofs.Common.{arith}
use Rattle.std.proofs.lemmas.Grind.{common_steps}
use Rattle.definitions.specs.Record.{field_at}
use Rattle.keywords.proofs.Names.{keyword-append}
use Rattle.readers.proofs.field_at.Goals as goal

pub returns-in_err-desc : goal.returns-in_err-desc
unfolding field_at
returns-in_err-desc c = grind (arith, common_steps, keyword-append)

pub returns-in_err-cond : goal.returns-in_err-cond
unfolding field_at
returns-in_err-cond c = grind (arith, common_steps, keyword-append)

pub returns : goal.returns
unfolding field_at
returns c = grind (arith, common_steps, keyword-append)
