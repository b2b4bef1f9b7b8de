-- One object more, or an end.
use Rattle.std.proofs.Common.{◌<◌, length, arith}
use Rattle.pickle_machine.specs.State.{stack_of}
use Rattle.pickle_machine.proofs.Shown.{length-stack_of}
use Rattle.pickle_io.proofs.Devices.{below-all, below-stopped, Writes-stop}
use Rattle.debug_json.specs.Array.{nth_text}
use Rattle.debug_json.specs.ShownFields.{id_json}
use Rattle.debug_json.proofs.stack.write_ids.Goals as goal

pub returns-in_err-write_nth_id : goal.returns-in_err-write_nth_id
returns-in_err-write_nth_id g c =
    let within : c.loop-i.i < length (stack_of c.args.machine.now.state) = omega (arith, c.loop-i-test.true, c.stack_len-i-end.ensures, length-stack_of c.args.machine.now.state) in
    Writes-stop _ _ c.from_residual.result c.from_residual.result _ c.from_residual.ensures.0
    (below-stopped (nth_text id_json (stack_of c.args.machine.now.state)) _ _ _ c.loop-i.i _ within c.in_err-write_nth_id.ensures c.loop-i.invariant)

pub returns : goal.returns
returns g c =
    below-all _ _ _ c.loop-i.i _ (omega (arith, c.loop-i-test.false, c.loop-i.auto.i-end, c.stack_len-i-end.ensures, length-stack_of c.args.machine.now.state)) c.loop-i.invariant
