-- The objects so far are written.
use Rattle.pickle_io.specs.Device.{Wrote, each_below}
use Rattle.debug_json.specs.Array.{range_text}
use Rattle.debug_json.specs.ShownFields.{heap_json}
use Rattle.debug_json.proofs.objects.write_heap_between.Given as goal

abbrev pub invariant-loop-i : goal.invariant-loop-i
invariant-loop-i g l = Wrote (g.P.Sink.told l.initial.page) (g.P.Sink.told l.page) (each_below (range_text heap_json l.heap l.from) l.i)
