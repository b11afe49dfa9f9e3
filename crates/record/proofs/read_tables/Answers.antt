-- `record::read_tables` meets its contract, by the laws of Exits.
-- Assumes nothing.
use Rattle.std.specs.Prelude.{◌≡◌, false, []}
use Rattle.std.proofs.lemmas.Result.{err_from_is_err_and}
use Rattle.definitions.specs.Answer.{wrong_length}
use Rattle.record.proofs.Exits.{length-empty, length-long, length-right, head-wrong, form-wrong, target-keyword, refused, passes}
use borrow.Author.Rules.{rules}
use Rattle.record.proofs.read_tables.Goals as goal
use Rattle.record.proofs.read_tables.Goals.{then-is_empty-via-then-is_empty, then-is_empty-via-else-is_empty+then-rec-gt-MOST_BYTES}

pub returns-then-is_empty : goal.returns-then-is_empty
returns-then-is_empty c = elim c.then-is_empty.branch [
  | then-is_empty-via-then-is_empty w ↦ search (length-empty, rules)
  | then-is_empty-via-else-is_empty+then-rec-gt-MOST_BYTES w ↦ search (length-long, rules)
]

pub returns-in_err-target : goal.returns-in_err-target
returns-in_err-target c =
    let right : wrong_length c.args.rec.now ≡ false = length-right _ [] [] [] c.is_empty.ensures c.if-is_empty.false c.if-rec-gt-MOST_BYTES.false in
    let p = err_from_is_err_and c.from_residual.result c.from_residual.ensures.1 in
    rw (p.1, p.2) (search (head-wrong, right, c.in_err-target.was, rules))

pub returns-in_err-n : goal.returns-in_err-n
returns-in_err-n c =
    let right : wrong_length c.args.rec.now ≡ false = length-right _ [] [] [] c.is_empty.ensures c.if-is_empty.false c.if-rec-gt-MOST_BYTES.false in
    let p = err_from_is_err_and c.from_residual-in_err-n.result c.from_residual-in_err-n.ensures.1 in
    rw (p.1, p.2) (search (form-wrong, right, c.in_ok-target.was, c.in_err-n.was, rules))

pub returns-in_err-head : goal.returns-in_err-head
returns-in_err-head c =
    let right : wrong_length c.args.rec.now ≡ false = length-right _ [] [] [] c.is_empty.ensures c.if-is_empty.false c.if-rec-gt-MOST_BYTES.false in
    let p = err_from_is_err_and c.from_residual-in_err-head.result c.from_residual-in_err-head.ensures.1 in
    rw (p.1, p.2) (search (target-keyword, right, c.in_ok-target.was, c.in_ok-n.was, c.in_err-head.was, rules))

pub returns-in_err-read_verdict : goal.returns-in_err-read_verdict
returns-in_err-read_verdict c =
    let right : wrong_length c.args.rec.now ≡ false = length-right _ [] [] [] c.is_empty.ensures c.if-is_empty.false c.if-rec-gt-MOST_BYTES.false in
    let p = err_from_is_err_and c.from_residual-in_err-read_verdict.result c.from_residual-in_err-read_verdict.ensures.1 in
    rw (p.1, p.2) (search (refused, right, c.in_ok-target.was, c.in_ok-n.was, c.in_ok-head.was, c.read_verdict.ensures, c.in_err-read_verdict.was, rules))

pub returns : goal.returns
returns c =
    let right : wrong_length c.args.rec.now ≡ false = length-right _ [] [] [] c.is_empty.ensures c.if-is_empty.false c.if-rec-gt-MOST_BYTES.false in
    search (passes, right, c.in_ok-target.was, c.in_ok-n.was, c.in_ok-head.was, c.read_verdict.ensures, c.in_ok-read_verdict.was, rules)
