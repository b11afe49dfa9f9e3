-- `ranges::too_many` meets its contract, by the laws of Tests.
-- Assumes nothing.
use Rattle.std.proofs.Common.{rules, ◌∙◌, []}
use Rattle.std.proofs.lemmas.Iterator.{YieldsList-from_range}
use borrow.Author.Tests.{tests}
use mathlib.Core.Path.{refl}
use native.Mathlib.Nat.{sub-zero}
use Rattle.tables.proofs.Walks.{declarations, any_turns}
use Rattle.ranges.proofs.Tests.{long, many-declarations, many-fields, many-here}
use Rattle.ranges.proofs.too_many.Goals as goal

pub returns-then-n-gt-MOST_DECLARATIONS : goal.returns-then-n-gt-MOST_DECLARATIONS
returns-then-n-gt-MOST_DECLARATIONS c = search (many-declarations, rules)

pub returns-else-n-gt-MOST_DECLARATIONS : goal.returns-else-n-gt-MOST_DECLARATIONS
returns-else-n-gt-MOST_DECLARATIONS c =
    any_turns (declarations c.args.rows.now [] []) long 0 c.args.n _ _ _ c.any.ensures.ran
    (YieldsList-from_range 0 c.args.n c.args.n refl (sub-zero c.args.n)) refl (λ k b q h. search (many-here, rules, tests))
    ∙ search (many-fields, rules)
