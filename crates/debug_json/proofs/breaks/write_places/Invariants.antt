-- The places so far are written, and counted.
use Rattle.std.proofs.Common.{◌≡◌, ◌≤◌, length}
use Rattle.pickle_io.specs.Device.{Wrote, each_below}
use Rattle.json_lines.specs.Line.{whole}
use Rattle.debug_json.specs.Array.{picked, picked_text}
use Rattle.debug_json.specs.OwnFields.{break_at}
use Rattle.debug_json.proofs.breaks.write_places.Given as goal

abbrev pub invariant-loop-place : goal.invariant-loop-place
invariant-loop-place g l = record {
  wrote : Wrote (g.P.Sink.told l.initial.page) (g.P.Sink.told l.page) (each_below (picked_text whole (break_at l.session.session)) l.place);
  count : l.count ≡ length (picked (break_at l.session.session) l.place);
  few : l.count ≤ l.place;
}
