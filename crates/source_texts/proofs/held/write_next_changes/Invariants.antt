-- Those so far are written.
use Rattle.std.proofs.Common.{take}
use Rattle.pickle_io.specs.Device.{Wrote, each}
use Rattle.source_texts.specs.Held.{next_change}
use Rattle.source_texts.proofs.held.write_next_changes.Given as goal

abbrev pub invariant-loop-change : goal.invariant-loop-change
invariant-loop-change g l = Wrote (g.S.Sink.told l.initial.page) (g.S.Sink.told l.page) (each (next_change (g.P.Say.says l.inner)) (take l.change-index l.changes))
