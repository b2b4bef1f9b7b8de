-- Those so far are written.
use Rattle.std.proofs.Common.{take}
use Rattle.pickle_machine.specs.State.{stack_of}
use Rattle.pickle_io.specs.Device.{Wrote, each}
use Rattle.source_texts.specs.Held.{then_part}
use Rattle.source_texts.proofs.statement.write_left.Given as goal

abbrev pub invariant-loop-below : goal.invariant-loop-below
invariant-loop-below g l = Wrote (g.S.Sink.told l.initial.page) (g.S.Sink.told l.page) (each (then_part (g.P.Say.says l.say)) (take l.below (stack_of l.machine.state)))
