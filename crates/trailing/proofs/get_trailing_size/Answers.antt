-- `trailing::get_trailing_size` meets its contract.
-- Assumes nothing.
use Rattle.trailing.proofs.Trailing.{trailing-end, trailing-none, trailing-turn, room-here, room_next}
use borrow.Author.Rules.{rules}
use Rattle.trailing.proofs.get_trailing_size.Goals as goal

pub returns-in_err-trailing_size : goal.returns-in_err-trailing_size
returns-in_err-trailing_size c = search (trailing-none, rules)

pub overflow_add-trailing_size : goal.overflow_add-trailing_size
overflow_add-trailing_size c =
    record {
      fits = room-here c.args.t.now.tables.now.source c.args.t.now.tables.now.rows c.args.t.now.tables.now.values c.args.t.now.tables.now.fields _ _ _
          c.args.t.now.fine _ _ c.loop-j.invariant.1 (search rules) c.later_size.ensures c.static_bits.ensures (search rules);
    }

pub loop-j-preserved : goal.loop-j-preserved
loop-j-preserved c = (
  search (trailing-turn, rules),
  room_next c.args.t.now.tables.now.source c.args.t.now.tables.now.rows c.args.t.now.tables.now.values c.args.t.now.tables.now.fields _ _ _
      c.args.t.now.fine _ _ c.loop-j.invariant.1 (search rules) c.later_size.ensures c.static_bits.ensures (search rules),
)

pub returns : goal.returns
returns c = search (trailing-end, rules)
