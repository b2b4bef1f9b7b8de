-- Those so far are written.
use Rattle.std.proofs.Common.{take}
use Rattle.pickle_io.specs.Device.{Wrote, each}
use Rattle.source_texts.specs.Statement.{set_line}
use Rattle.source_texts.proofs.statement.write_set_lines.Given as goal

abbrev pub invariant-loop-change : goal.invariant-loop-change
invariant-loop-change g l = Wrote (g.S.Sink.told l.initial.page) (g.S.Sink.told l.page) (each (set_line (g.P.Say.says l.say) l.offset l.id) (take l.change-index l.changes))
