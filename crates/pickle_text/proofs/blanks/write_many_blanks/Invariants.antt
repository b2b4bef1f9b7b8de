-- What the loop over the blanks keeps.
use Rattle.std.proofs.Common.{◌≤◌, ◌-◌}
use Rattle.pickle_io.specs.Device.{Wrote}
use Rattle.pickle_text.specs.Column.{blanks}
use Rattle.pickle_text.proofs.blanks.write_many_blanks.Given as goal

abbrev pub invariant-loop-left : goal.invariant-loop-left
invariant-loop-left g l = record {
  wrote : Wrote (g.P.Sink.told l.initial.page) (g.P.Sink.told l.page) (blanks (l.count - l.left));
  within : l.left ≤ l.count;
  room : 208 ≤ g.P.Page.room l.page;
}

abbrev pub decreases-loop-left : goal.decreases-loop-left
decreases-loop-left g l = l.left
