-- `lowering::lower_in` meets its contract, by the laws of Records.
-- Assumes nothing.
use borrow.Author.Rules.{rules}
use Rattle.lowering.proofs.Passes.{of-error}
use Rattle.lowering.proofs.Records.{read-refused, read-requires, read-answers}
use Rattle.lowering.proofs.lower_in.Goals as goal

pub returns-in_err-head : goal.returns-in_err-head
returns-in_err-head c = read-refused c.read_record.ensures _ c.in_err-head.was (of-error {x = c.from_residual.result} (search rules))

pub lower_read-requires : goal.lower_read-requires
lower_read-requires c =
    read-requires c.read_record.ensures (record { declarations = search rules; values = search rules; fields = search rules }) c.in_ok-head.was

pub returns : goal.returns
returns c =
    read-answers c.read_record.ensures (record { declarations = search rules; values = search rules; fields = search rules }) c.in_ok-head.was _
    c.lower_read.ensures
