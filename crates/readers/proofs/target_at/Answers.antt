-- `readers::target_at` meets its contract, by the laws of Heads.
-- Assumes nothing.
use Rattle.std.specs.Prelude.{Option, Some, None}
use Rattle.definitions.specs.declared.Arrays.{Arrays}
use Rattle.definitions.specs.declared.Part.{Part}
use mathlib.Core.Path.{◌≡◌, sym, ap, ◌∙◌}
use Rattle.definitions.specs.Record.{on_arrays, optional_at, head_is}
use Rattle.readers.proofs.Heads.{chosen, target-free, target-taken}
use Rattle.readers.proofs.target_at.Goals as goal

pub returns-in_default : goal.returns-in_default
returns-in_default c =
    target-taken c.args.rec.now
    (λ target q. on_arrays c.args.rec.now q None λ arrays r. head_is c.args.endianness target arrays (optional_at c.args.rec.now r))
    _ c.name_line.ensures (c.in_ok-target.was ∙ ap (λ (t : Option Part). Some (t, c.in_ok-target.p)) c.in_default.is)
    (λ n. sym (chosen Arrays.Lite Arrays.Full None (λ arrays r. head_is c.args.endianness n arrays (optional_at c.args.rec.now r)) _ _ c.choice.ensures c.in_ok-arrays.was)
    ∙ ap (head_is c.args.endianness n c.in_ok-arrays.arrays) (sym c.optional_at-trailing.ensures))

pub returns : goal.returns
returns c =
    target-free c.args.rec.now
    (λ target q. on_arrays c.args.rec.now q None λ arrays r. head_is c.args.endianness target arrays (optional_at c.args.rec.now r))
    _ c.name_line.ensures (c.in_ok-target.was ∙ ap (λ (t : Option Part). Some (t, c.in_ok-target.p)) c.in-Some.is)
    (sym (chosen Arrays.Lite Arrays.Full None (λ arrays r. head_is c.args.endianness c.in-Some.target arrays (optional_at c.args.rec.now r)) _ _ c.choice.ensures c.in_ok-arrays.was)
    ∙ ap (head_is c.args.endianness c.in-Some.target c.in_ok-arrays.arrays) (sym c.optional_at-trailing.ensures))
