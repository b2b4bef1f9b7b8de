-- What the loop over the numbers keeps.
use Rattle.std.proofs.Common.{take}
use Rattle.pickle_io.specs.Device.{Wrote, each}
use Rattle.pickle_calls.specs.Brief.{next_brief}
use Rattle.pickle_calls.proofs.brief.write_all_next.Given as goal

abbrev pub invariant-loop-id : goal.invariant-loop-id
invariant-loop-id g l = Wrote (g.S.Sink.told l.initial.page) (g.S.Sink.told l.page) (each (next_brief l.naming (g.M.Inspect.state l.machine).heap) (take l.id-index l.ids))
