use Rattle.std.specs.Prelude.{None}
use Rattle.pickle_io.proofs.Devices.{Writes-stop}
use Rattle.pickle_list.proofs.PageLines.{line_behind, line_broken}
use Rattle.pickle_list.proofs.put.write_bare_item.Goals as goal

pub returns-in_err-write_head : goal.returns-in_err-write_head
returns-in_err-write_head g c =
    Writes-stop _ _ c.from_residual.result c.from_residual.result _ c.from_residual.ensures.0
    (line_broken _ _ _ c.args.op.now c.args.offset.now c.args.marks None (rw c.opcode.ensures at c.in_err-write_head.ensures.text))

pub returns : goal.returns
returns g c = line_behind _ _ _ _ c.write_rest.result c.args.op.now c.args.offset.now c.args.marks None c.write_rest.ensures (rw c.opcode.ensures at c.in_ok-write_head.ensures.text)
