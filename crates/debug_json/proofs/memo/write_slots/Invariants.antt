-- The slots so far are written.
use Rattle.std.proofs.Common.{◌≡◌, true, [], take}
use Rattle.pickle_io.specs.Device.{Wrote}
use Rattle.pickle_machine.specs.Kept.{kept}
use Rattle.debug_json.specs.Inside.Led.{led, still}
use Rattle.debug_json.proofs.memo.write_slots.Given as goal

abbrev pub invariant-loop-key : goal.invariant-loop-key
invariant-loop-key g l = record {
  wrote : Wrote (g.P.Sink.told l.initial.page) (g.P.Sink.told l.page) (led true (kept 0 (take l.key l.slots) []));
  first : l.first ≡ still true (kept 0 (take l.key l.slots) []);
}
