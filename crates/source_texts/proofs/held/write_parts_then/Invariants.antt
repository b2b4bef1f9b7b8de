-- Those so far are written.
use Rattle.std.proofs.Common.{take}
use Rattle.pickle_io.specs.Device.{Wrote, each}
use Rattle.source_texts.specs.Held.{then_part}
use Rattle.source_texts.proofs.held.write_parts_then.Given as goal

abbrev pub invariant-loop-id : goal.invariant-loop-id
invariant-loop-id g l = Wrote (g.S.Sink.told l.initial.page) (g.S.Sink.told l.page) (each (then_part (g.P.Say.says l.inner)) (take l.id-index l.ids))
