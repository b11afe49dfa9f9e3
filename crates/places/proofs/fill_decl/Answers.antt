-- `places::fill_decl` meets its contract, by the laws of Filling.
-- Assumes nothing.
use Rattle.places.proofs.Filling.{one-wrong, one-bad, one-filled, one-taken, one-keyword}
use borrow.Author.Rules.{rules}
use Rattle.places.proofs.fill_decl.Goals as goal

pub returns-in_err-decl : goal.returns-in_err-decl
returns-in_err-decl c = search (one-wrong, c.in_err-decl.was, rules)

pub returns-in_err-count-in-Ok : goal.returns-in_err-count-in-Ok
returns-in_err-count-in-Ok c = search (one-bad, c.in_ok-decl.was, c.in_err-count-in-Ok.was, rules)

pub returns-in-Some : goal.returns-in-Some
returns-in-Some c = search (one-filled, c.in_ok-decl.was, c.in_ok-count-in-Ok.was, rules)

pub returns-in_default : goal.returns-in_default
returns-in_default c = search (one-taken, c.in_ok-decl.was, c.in_ok-count-in-Ok.was, rules)

pub returns-in-Err : goal.returns-in-Err
returns-in-Err c = search (one-keyword, c.in_ok-decl.was, rules)
