use Rattle.std.proofs.Common.{length}
use Rattle.pickle_list.specs.Listing.{note_with}
use Rattle.pickle_list.specs.Inside.Marks.{last_element}
use Rattle.pickle_io.proofs.Devices.{Writes-stop}
use Rattle.pickle_list.proofs.PageLines.{line_behind, line_broken}
use Rattle.pickle_list.proofs.put.write_item.Goals as goal

pub returns-in_err-write_head : goal.returns-in_err-write_head
returns-in_err-write_head g c =
    Writes-stop _ _ c.from_residual.result c.from_residual.result _ c.from_residual.ensures.0
    (line_broken _ _ _ c.args.op.now c.args.offset.now (length c.args.lean.now.marked) _ (rw (c.opcode.ensures, c.marks_len.ensures) at c.in_err-write_head.ensures.text))

pub returns : goal.returns
returns g c =
    line_behind _ _ _ _ c.write_rest.result c.args.op.now c.args.offset.now (length c.args.lean.now.marked) (note_with c.args.op.now c.args.lean.now (last_element c.args.opened.now.items))
    (rw c.note_of-note.ensures at c.write_rest.ensures) (rw (c.opcode.ensures, c.marks_len.ensures) at c.in_ok-write_head.ensures.text)
