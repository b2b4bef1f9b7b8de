-- The marks so far are written.
use Rattle.pickle_io.specs.Device.{Wrote, each_below}
use Rattle.pickle_machine.specs.State.{marks_of}
use Rattle.debug_json.specs.Array.{nth_text}
use Rattle.debug_json.specs.ShownFields.{mark_json}
use Rattle.debug_json.proofs.stack.write_marks.Given as goal

abbrev pub invariant-loop-i : goal.invariant-loop-i
invariant-loop-i g l = Wrote (g.P.Sink.told l.initial.page) (g.P.Sink.told l.page) (each_below (nth_text mark_json (marks_of l.machine.state.marked)) l.i)
