-- `parser::parse_other_field` meets its contract, by the laws of proofs/Others.
-- Assumes nothing.
use Rattle.parser.proofs.Others.{stays-pending, is-misplaced, is-placed}
use borrow.Author.Rules.{rules}
use Rattle.parser.proofs.parse_other_field.Goals as goal

pub returns-in_err-check_code : goal.returns-in_err-check_code
returns-in_err-check_code c =
    let a = c.args in
    stays-pending a.options _ a.t _ a.aligned a.emit c.check_code.ensures c.in_err-check_code.was (search rules) _ (search rules)

pub returns-then-is_misplaced : goal.returns-then-is_misplaced
returns-then-is_misplaced c =
    let a = c.args in
    is-misplaced a.options _ a.t _ a.aligned a.emit c.check_code.ensures c.in_ok-check_code.was c.is_misplaced.ensures c.if-is_misplaced.true
    _ (search rules)

pub returns : goal.returns
returns c =
    let a = c.args in
    is-placed a.options _ a.t _ a.aligned a.emit c.check_code.ensures c.in_ok-check_code.was c.is_misplaced.ensures c.if-is_misplaced.false
    c.append.ensures
