-- One line more, or an end.
use Rattle.std.proofs.Common.{◌≡◌, ◌<◌, length, get_or, ap, arith}
use Rattle.pickle_io.proofs.Devices.{Writes-stop}
use Rattle.object_texts.specs.ObjectText.{objects_text}
use Rattle.object_texts.proofs.Objects.{objects-none, objects-next, objects-stopped}
use Rattle.object_texts.proofs.object.write_objects.Goals as goal

pub loop-id-init : goal.loop-id-init
loop-id-init g c = objects-none _

pub returns-in_err-write_object_line : goal.returns-in_err-write_object_line
unfolding objects_text
returns-in_err-write_object_line g c =
    let within : c.loop-id.id < length c.args.machine.now.state.heap = omega (arith, c.loop-id-test.true, ap length c.heap-object-items.ensures) in
    let is : c.object-item.result ≡ get_or c.args.machine.now.state.heap c.loop-id.id c.object-item.result = rw c.heap-object-items.ensures at c.object-item.is in
    Writes-stop _ _ c.from_residual.result c.from_residual.result _ c.from_residual.ensures.0
    (objects-stopped _ _ _ c.args.machine.now.state.heap c.loop-id.id c.object-item.result within is c.in_err-write_object_line.ensures c.loop-id.invariant)

pub loop-id-preserved : goal.loop-id-preserved
loop-id-preserved g c =
    let within : c.loop-id.id < length c.args.machine.now.state.heap = omega (arith, c.loop-id-test.true, ap length c.heap-object-items.ensures) in
    let is : c.object-item.result ≡ get_or c.args.machine.now.state.heap c.loop-id.id c.object-item.result = rw c.heap-object-items.ensures at c.object-item.is in
    objects-next _ _ _ c.args.machine.now.state.heap c.loop-id.id c.object-item.result within is c.in_ok-write_object_line.ensures c.loop-id.invariant
