-- `names::key_at` meets its contract, by the laws of Keys.
-- Assumes nothing.
use Rattle.std.proofs.Common.{arith, ◌≡◌, drop}
use Rattle.std.proofs.lemmas.Grind.{common_steps}
use Rattle.names.proofs.Keys.{key-found, key_missed}
use Rattle.names.proofs.key_at.Goals as goal

pub returns-then-starts_with : goal.returns-then-starts_with
returns-then-starts_with c =
    let e : c.unwrap_or-rest.result.now ≡ drop c.args.at c.args.rec.now = grind (arith, common_steps) in
    key-found c.args.rec.now c.args.key.now c.args.at e c.starts_with.ensures.value c.if-starts_with.true

pub returns-else-starts_with : goal.returns-else-starts_with
returns-else-starts_with c =
    let e : c.unwrap_or-rest.result.now ≡ drop c.args.at c.args.rec.now = grind (arith, common_steps) in
    key_missed c.args.rec.now c.args.key.now c.args.at e c.starts_with.ensures.value c.if-starts_with.false
