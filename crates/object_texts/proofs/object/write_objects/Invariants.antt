-- What the loop over the objects keeps.
use Rattle.std.proofs.Common.{take}
use Rattle.pickle_io.specs.Device.{Wrote}
use Rattle.object_texts.specs.ObjectText.{lines_from}
use Rattle.object_texts.proofs.object.write_objects.Given as goal

abbrev pub invariant-loop-id : goal.invariant-loop-id
invariant-loop-id g l = Wrote (g.S.Sink.told l.initial.page) (g.S.Sink.told l.page) (lines_from 0 (take l.id l.machine.state.heap))
