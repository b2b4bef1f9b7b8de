use Rattle.std.proofs.Common.{◌≡◌, ◌++◌}
use Rattle.gap_list.specs.Inside.GapBuffer.{buffer_items, IsBuffer}
use Rattle.gap_list.proofs.buffer.GapBuffer.move_from.Given as goal

abbrev pub invariant-loop-other : goal.invariant-loop-other
invariant-loop-other g l = record {
  row : IsBuffer l.self × (l.self.capacity ≡ l.fn.self.capacity);
  other : IsBuffer l.other × (l.other.capacity ≡ l.fn.other.capacity);
  items : buffer_items l.other ++ buffer_items l.self ≡ buffer_items l.fn.other;
}

abbrev pub decreases-loop-other : goal.decreases-loop-other
decreases-loop-other g l = l.other.size
