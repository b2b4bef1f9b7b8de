-- The items so far are written, and the offset is that of the next.
use Rattle.std.proofs.Common.{◌≡◌, ◌+◌}
use Rattle.pickle_io.specs.Device.{Wrote, each_below}
use Rattle.pickle_doc.specs.Place.{ops_of, offset_of}
use Rattle.debug_json.specs.Array.{range_text}
use Rattle.debug_json.specs.ItemsFields.{item_json}
use Rattle.debug_json.proofs.items.write_items_between.Given as goal

abbrev pub invariant-loop-i : goal.invariant-loop-i
invariant-loop-i g l = record {
  wrote : Wrote (g.P.Sink.told l.initial.page) (g.P.Sink.told l.page) (each_below (range_text (item_json l.session.session) (ops_of l.session.session.document) l.from) l.i);
  offset : l.offset ≡ offset_of l.session.session.document (l.from + l.i);
}
