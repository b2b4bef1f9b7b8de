-- What the loop over the stack keeps.
use Rattle.std.proofs.Common.{◌≡◌, ◌+◌, ◌≤◌, length}
use Rattle.std.specs.Vec.{vec_capacity}
use Rattle.pickle_io.specs.Device.{WroteAllBut}
use Rattle.object_texts.specs.Inside.Walking.{unseen, unwritten_text}
use Rattle.object_texts.proofs.show.go_on.Given as goal

abbrev pub invariant-loop-content : goal.invariant-loop-content
invariant-loop-content g l = record {
  wrote : WroteAllBut (g.S.Sink.told l.initial.page) (g.S.Sink.told l.page) (unwritten_text l.machine.state.heap l.initial.seen.items l.initial.stack.items) (unwritten_text l.machine.state.heap l.seen.items l.stack.items);
  seen : length l.seen.items ≡ length l.machine.state.heap;
  room : length l.stack.items + unseen l.seen.items ≤ vec_capacity l.stack;
}

abbrev pub decreases-loop-content : goal.decreases-loop-content
decreases-loop-content g l = length (unwritten_text l.machine.state.heap l.seen.items l.stack.items) + length l.stack.items
