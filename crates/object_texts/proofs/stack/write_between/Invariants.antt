-- What the loop over the heights keeps.
use Rattle.std.proofs.Common.{◌≤◌}
use Rattle.pickle_machine.specs.State.{stack_of}
use Rattle.pickle_io.specs.Device.{Wrote, each}
use Rattle.object_texts.specs.Inside.Between.{between}
use Rattle.object_texts.specs.ObjectText.{next_text}
use Rattle.object_texts.proofs.stack.write_between.Given as goal

abbrev pub invariant-loop-below : goal.invariant-loop-below
invariant-loop-below g l = record {
  wrote : Wrote (g.S.Sink.told l.initial.page) (g.S.Sink.told l.page) (each next_text (between l.from l.below (stack_of l.machine.state)));
  stays : l.to ≤ l.from → l.below ≤ l.from;
}
