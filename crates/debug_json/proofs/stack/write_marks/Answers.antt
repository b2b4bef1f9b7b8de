-- One mark more, or an end.
use Rattle.std.proofs.Common.{◌<◌, length, arith}
use Rattle.pickle_machine.specs.State.{marks_of}
use Rattle.pickle_machine.proofs.Shown.{length-marks_of}
use Rattle.pickle_io.proofs.Devices.{below-all, below-stopped, Writes-stop}
use Rattle.debug_json.specs.Array.{nth_text}
use Rattle.debug_json.specs.ShownFields.{mark_json}
use Rattle.debug_json.proofs.stack.write_marks.Goals as goal

pub returns-in_err-write_nth_mark : goal.returns-in_err-write_nth_mark
returns-in_err-write_nth_mark g c =
    let within : c.loop-i.i < length (marks_of c.args.machine.now.state.marked) =
    omega (arith, c.loop-i-test.true, c.marks_len-i-end.ensures, length-marks_of c.args.machine.now.state.marked) in
    Writes-stop _ _ c.from_residual.result c.from_residual.result _ c.from_residual.ensures.0
    (below-stopped (nth_text mark_json (marks_of c.args.machine.now.state.marked)) _ _ _ c.loop-i.i _ within c.in_err-write_nth_mark.ensures c.loop-i.invariant)

pub returns : goal.returns
returns g c =
    below-all _ _ _ c.loop-i.i _ (omega (arith, c.loop-i-test.false, c.loop-i.auto.i-end, c.marks_len-i-end.ensures, length-marks_of c.args.machine.now.state.marked)) c.loop-i.invariant
