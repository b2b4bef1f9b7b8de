-- What the loop over the marks keeps.
use Rattle.std.proofs.Common.{◌≡◌, length}
use Rattle.pickle_machine.specs.State.{objects_below}
use Rattle.pickle_io.specs.Device.{Wrote}
use Rattle.object_texts.specs.StackText.{marked_text}
use Rattle.object_texts.proofs.Stacks.{lowest}
use Rattle.object_texts.proofs.stack.write_marked.Given as goal

abbrev pub invariant-loop-i : goal.invariant-loop-i
invariant-loop-i g l = record {
  wrote : Wrote (g.S.Sink.told l.initial.page) (g.S.Sink.told l.page) (marked_text (lowest l.i l.machine.state.marked));
  from : l.from ≡ length (objects_below (lowest l.i l.machine.state.marked));
}
