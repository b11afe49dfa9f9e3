-- `chunks::close_alone` meets its contract, by the laws of proofs/Closes.
-- Assumes nothing.
use Rattle.chunks.proofs.Closes.{alone-wide, alone-closed}
use borrow.Author.Rules.{rules}
use Rattle.chunks.proofs.close_alone.Goals as goal

pub returns-in_err-ok_or : goal.returns-in_err-ok_or
returns-in_err-ok_or c =
    let a = c.args in
    alone-wide a.options _ a.t _ _ a.kind c.get_cxx_scalar_type.ensures c.ok_or.ensures.value c.in_err-ok_or.was (search rules) _ (search rules)

pub returns : goal.returns
returns c =
    let a = c.args in
    alone-closed a.options _ a.t _ _ a.kind c.get_cxx_scalar_type.ensures c.ok_or.ensures.value _ c.in_ok-ok_or.was
    c.check_size.ensures c.put_alone.ensures c.next_raw.ensures c.closed.ensures
