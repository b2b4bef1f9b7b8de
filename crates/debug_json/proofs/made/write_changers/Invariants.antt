-- The items so far are written, and counted, and the offset is that of the next.
use Rattle.std.proofs.Common.{◌≡◌, ◌+◌, ◌≤◌, length}
use Rattle.pickle_io.specs.Device.{Wrote, each_below}
use Rattle.pickle_doc.specs.Place.{offset_of}
use Rattle.debug_json.specs.Array.{picked, picked_text}
use Rattle.debug_json.specs.MadeFields.{changer_from, changer_json}
use Rattle.debug_json.proofs.made.write_changers.Given as goal

abbrev pub invariant-loop-i : goal.invariant-loop-i
invariant-loop-i g l = record {
  wrote : Wrote (g.P.Sink.told l.initial.page) (g.P.Sink.told l.page) (each_below (picked_text changer_json (changer_from l.session.session.document l.first l.number)) l.i);
  count : l.count ≡ length (picked (changer_from l.session.session.document l.first l.number) l.i);
  few : l.count ≤ l.i;
  offset : l.offset ≡ offset_of l.session.session.document (l.first + l.i);
}
