-- One object more, or the sink fails.
use Rattle.std.proofs.Common.{◌<◌, ◌-◌, arith}
use Rattle.pickle_io.proofs.Devices.{below-next, below-stopped, Writes-stop}
use Rattle.debug_json.specs.Array.{range_text}
use Rattle.debug_json.specs.ShownFields.{heap_json}
use Rattle.debug_json.proofs.objects.write_heap_between.Goals as goal

pub returns-in_err-write_placed : goal.returns-in_err-write_placed
returns-in_err-write_placed g c =
    let within : c.loop-i.i < c.args.to - c.args.from = omega (arith, c.loop-i-test.true, c.loop-i.auto.i-end) in
    Writes-stop _ _ c.from_residual.result c.from_residual.result _ c.from_residual.ensures.0
    (below-stopped (range_text heap_json c.args.heap.now c.args.from) _ _ _ c.loop-i.i _ within c.in_err-write_placed.ensures c.loop-i.invariant)

pub loop-i-preserved : goal.loop-i-preserved
loop-i-preserved g c = below-next (range_text heap_json c.args.heap.now c.args.from) _ _ _ c.loop-i.i c.in_ok-write_placed.ensures c.loop-i.invariant
