-- What the loop over the changes keeps.
use Rattle.std.proofs.Common.{take}
use Rattle.pickle_io.specs.Device.{Wrote, each}
use Rattle.object_texts.specs.ObjectText.{change_text}
use Rattle.object_texts.proofs.object.write_changes.Given as goal

abbrev pub invariant-loop-change : goal.invariant-loop-change
invariant-loop-change g l = Wrote (g.S.Sink.told l.initial.page) (g.S.Sink.told l.page) (each change_text (take l.change-index l.changes))
