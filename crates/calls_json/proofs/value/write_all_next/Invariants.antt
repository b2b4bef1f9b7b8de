-- The objects so far are written.
use Rattle.std.proofs.Common.{take}
use Rattle.pickle_io.specs.Device.{Wrote, each}
use Rattle.calls_json.specs.ValueFields.{next_brief}
use Rattle.calls_json.proofs.value.write_all_next.Given as goal

abbrev pub invariant-loop-id : goal.invariant-loop-id
invariant-loop-id g l = Wrote (g.P.Sink.told l.initial.page) (g.P.Sink.told l.page) (each (next_brief l.naming (g.M.Inspect.state l.machine).heap) (take l.id-index l.ids))
