-- `places::fill_fields` meets its contract, by the laws of Filling.
-- Assumes nothing.
use Rattle.places.proofs.Filling.{place-fits, left_out, left-end, left-wrong, left-keyword, left-skip, left-turn}
use borrow.Author.Rules.{rules}
use Rattle.places.proofs.fill_fields.Goals as goal
use Rattle.places.proofs.fill_fields.Goals.{in-Some, in_default-2, in_default}

pub returns-then-is_none : goal.returns-then-is_none
returns-then-is_none c = search (left-end, rules)

pub returns-in_err-field : goal.returns-in_err-field
returns-in_err-field c = search (left-wrong, c.in_err-field.was, rules)

pub put-requires : goal.put-requires
put-requires c = search (place-fits, c.in_ok-field.was, rules)

pub loop-n-preserved : goal.loop-n-preserved
loop-n-preserved c = elim c.match-field.branch [
  | in-Some w ↦ rw (w.values-is, w.fields-is, w.met-is) (search (left-turn, c.in_ok-field.was, rules))
  | in_default-2 w ↦ rw (w.values-is, w.fields-is, w.met-is) (search (left-skip, c.in_ok-field.was, rules))
  | in_default w ↦ rw (w.values-is, w.fields-is, w.met-is) (search (left-keyword, c.in_ok-field.was, rules))
]

pub returns : goal.returns
returns c = search (left_out, rules)
