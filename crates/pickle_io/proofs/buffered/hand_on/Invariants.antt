-- What was taken so far was handed on, and the rest is held.
use Rattle.std.proofs.Common.{◌≤◌, ◌-◌, [], length, drop}
use Rattle.pickle_io.specs.Device.{Wrote, holding}
use Rattle.pickle_io.proofs.buffered.hand_on.Given as goal

abbrev pub invariant-loop-place : goal.invariant-loop-place
invariant-loop-place g l =
    record {
      within : l.place ≤ length l.fn.text;
      told : Wrote (holding (g.S.Sink.told l.initial.sink) (drop l.fn.from l.fn.text)) (holding (g.S.Sink.told l.sink) (drop l.place l.fn.text)) [];
    }

abbrev pub decreases-loop-place : goal.decreases-loop-place
decreases-loop-place g l = length l.fn.text - l.place
