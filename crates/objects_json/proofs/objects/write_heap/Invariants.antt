-- What the loop over the objects keeps.
use Rattle.std.proofs.Common.{take}
use Rattle.pickle_io.specs.Device.{Wrote}
use Rattle.objects_json.specs.Objects.{lines_from}
use Rattle.objects_json.proofs.objects.write_heap.Given as goal

abbrev pub invariant-loop-id : goal.invariant-loop-id
invariant-loop-id g l = Wrote (g.P.Sink.told l.initial.page) (g.P.Sink.told l.page) (lines_from 0 (take l.id l.machine.state.heap))
