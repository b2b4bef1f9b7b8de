use Rattle.std.proofs.Common.{◌-◌, ◌≤◌}
use Rattle.gap_list.specs.Inside.GapBuffer.{buffer_items, Becomes}
use Rattle.gap_list.proofs.buffer.GapBuffer.move_gap.Given as goal

abbrev pub invariant-loop-self : goal.invariant-loop-self
invariant-loop-self g l = Becomes l.fn.self l.self (buffer_items l.fn.self)

abbrev pub decreases-loop-self : goal.decreases-loop-self
decreases-loop-self g l = l.self.front - l.k

abbrev pub invariant-loop-self-2 : goal.invariant-loop-self-2
invariant-loop-self-2 g l = record {
  row : Becomes l.fn.self l.self (buffer_items l.fn.self);
  within : l.self.front ≤ l.k;
}

abbrev pub decreases-loop-self-2 : goal.decreases-loop-self-2
decreases-loop-self-2 g l = l.k - l.self.front
