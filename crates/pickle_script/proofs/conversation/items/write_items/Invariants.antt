-- What the loop over the places keeps.
use Rattle.std.proofs.Common.{◌≡◌}
use Rattle.pickle_io.specs.Device.{Wrote, each_below}
use Rattle.pickle_doc.specs.Place.{offset_of}
use Rattle.pickle_script.specs.PlaceText.{session_line_at}
use Rattle.pickle_script.proofs.conversation.items.write_items.Given as goal

-- the lines of the places so far were written, and the offset is that of the next
abbrev pub invariant-loop-place : goal.invariant-loop-place
invariant-loop-place g l = record {
  wrote : Wrote (g.S.Sink.told l.initial.page) (g.S.Sink.told l.page) (each_below (session_line_at l.session.session) l.place);
  offset : l.offset ≡ offset_of l.session.session.document l.place;
}
