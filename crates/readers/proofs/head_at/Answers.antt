-- `readers::head_at` meets its contract, by the laws of Heads.
-- Assumes nothing.
use Rattle.std.specs.Prelude.{None}
use mathlib.Core.Path.{ap, ◌∙◌}
use Rattle.definitions.specs.Record.{head_at}
use Rattle.keywords.specs.Screens.{screen_head}
use Rattle.readers.specs.Heads.{target_at}
use Rattle.readers.proofs.Heads.{chosen}
use Rattle.readers.proofs.head_at.Goals as goal

pub returns : goal.returns
unfolding head_at
returns c =
    c.target_at.ensures
    ∙ ap (screen_head c.args.rec.now) (chosen _ _ None (λ e p. target_at c.args.rec.now p e) _ _ c.choice.ensures c.in_ok-endianness.was)
