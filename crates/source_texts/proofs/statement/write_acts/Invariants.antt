-- Those so far are written.
use Rattle.std.proofs.Common.{take}
use Rattle.pickle_io.specs.Device.{Wrote, each}
use Rattle.source_texts.specs.Statement.{act_text}
use Rattle.source_texts.proofs.statement.write_acts.Given as goal

abbrev pub invariant-loop-act : goal.invariant-loop-act
invariant-loop-act g l = Wrote (g.S.Sink.told l.initial.page) (g.S.Sink.told l.page) (each (act_text (g.L.Literals.value l.literals) (g.L.Literals.text l.literals) (g.L.Literals.modules l.literals) (g.L.Literals.names l.literals) l.machine.state.heap l.facts (g.P.Say.says l.say)) (take l.act-index l.acts))
