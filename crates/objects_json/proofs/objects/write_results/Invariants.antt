-- The results so far are written.
use Rattle.std.proofs.Common.{take}
use Rattle.pickle_io.specs.Device.{Wrote, each}
use Rattle.objects_json.specs.Objects.{result_line}
use Rattle.objects_json.proofs.objects.write_results.Given as goal

abbrev pub invariant-loop-id : goal.invariant-loop-id
invariant-loop-id g l = Wrote (g.P.Sink.told l.initial.page) (g.P.Sink.told l.page) (each result_line (take l.id-index l.ids))
