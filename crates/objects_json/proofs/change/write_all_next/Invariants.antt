-- The changes so far are written.
use Rattle.std.proofs.Common.{take}
use Rattle.pickle_io.specs.Device.{Wrote, each}
use Rattle.objects_json.specs.ObjectFields.{next_change}
use Rattle.objects_json.proofs.change.write_all_next.Given as goal

abbrev pub invariant-loop-change : goal.invariant-loop-change
invariant-loop-change g l = Wrote (g.P.Sink.told l.initial.page) (g.P.Sink.told l.page) (each next_change (take l.change-index l.changes))
