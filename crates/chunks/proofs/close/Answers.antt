-- `chunks::close` meets its contract, by the laws of proofs/Closes.
-- Assumes nothing.
use mathlib.Core.List.{[]}
use Rattle.chunks.proofs.Closes.{all-wide, closable, all_closed}
use borrow.Author.Rules.{rules}
use Rattle.chunks.proofs.close.Goals as goal

pub returns-in_err-backing : goal.returns-in_err-backing
returns-in_err-backing c =
    let a = c.args in
    all-wide a.options _ a.t a.c a.kinds _ c.requires c.get_cxx_scalar_type.ensures c.ok_or.ensures.value c.in_err-backing.was (search rules) _ (search rules)

pub put_chunk-raws-requires : goal.put_chunk-raws-requires
put_chunk-raws-requires c =
    let a = c.args in
    (closable a.options [] a.t a.c a.kinds _ c.requires c.get_cxx_scalar_type.ensures c.ok_or.ensures.value (search rules) _ c.in_ok-backing.was, c.requires.tested)

pub returns : goal.returns
returns c =
    let a = c.args in
    all_closed a.options _ a.t a.c a.kinds _ c.requires c.get_cxx_scalar_type.ensures c.ok_or.ensures.value _ c.in_ok-backing.was (search rules)
    c.check_size.ensures c.put_chunk-raws.ensures c.next_nr.ensures c.closed.ensures
