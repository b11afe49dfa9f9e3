-- `planner::plan_target` meets its contract, by the laws of Turns.
-- Assumes nothing.
use Rattle.planner.proofs.Turns.{filled-start, filled-bit, filled-other, size_fits, bits_fit}
use borrow.Author.Rules.{rules}
use Rattle.planner.proofs.plan_target.Goals as goal

pub loop-k-init : goal.loop-k-init
loop-k-init c = filled-start _ _ _ _ _ _ _ c.args.t.now.fine

pub field_size-size-requires : goal.field_size-size-requires
field_size-size-requires c = size_fits _ _ _ _ _ _ _ c.loop-k.invariant (search rules) c.field_in-f.ensures

pub overflow_add-later : goal.overflow_add-later
overflow_add-later c = record {
  fits =
      bits_fit _ _ _ _ _ _ _
      c.loop-k.invariant
      (search rules)
      c.field_in-f.ensures
      c.is_bit.ensures
      (search rules)
      c.field_size-size.ensures
      c.static_bits-width.ensures;
}

pub loop-k-preserved-then-is_bit : goal.loop-k-preserved-then-is_bit
loop-k-preserved-then-is_bit c = filled-bit _ _ _ _ _ _ _
    c.loop-k.invariant
    (search rules)
    c.field_in-f.ensures
    c.is_bit.ensures
    (search rules)
    c.field_size-size.ensures
    c.static_bits-width.ensures
    c.conditions-used.ensures
    c.kind_of-kind.ensures

pub loop-k-preserved : goal.loop-k-preserved
loop-k-preserved c = search (filled-other, rules)
