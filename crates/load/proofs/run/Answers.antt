use Rattle.std.proofs.Common.{arith}
use Rattle.load.proofs.Inputs.{nothing_printed}
use Rattle.load.proofs.run.Goals as goal

pub returns-in-Full : goal.returns-in-Full
returns-in-Full g c = nothing_printed _ _ _ _ c.in-Full.ensures.bytes (omega arith)
