-- The objects so far are written.
use Rattle.pickle_io.specs.Device.{Wrote, each_below}
use Rattle.pickle_machine.specs.State.{stack_of}
use Rattle.debug_json.specs.Array.{nth_text}
use Rattle.debug_json.specs.ShownFields.{id_json}
use Rattle.debug_json.proofs.stack.write_ids.Given as goal

abbrev pub invariant-loop-i : goal.invariant-loop-i
invariant-loop-i g l = Wrote (g.P.Sink.told l.initial.page) (g.P.Sink.told l.page) (each_below (nth_text id_json (stack_of l.machine.state)) l.i)
