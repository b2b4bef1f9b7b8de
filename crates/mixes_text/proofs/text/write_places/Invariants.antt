-- The first were written.
use Rattle.std.proofs.Common.{take}
use Rattle.pickle_io.specs.Device.{Wrote, each}
use Rattle.mixes_text.specs.MixText.{place_text}
use Rattle.mixes_text.proofs.text.write_places.Given as goal

abbrev pub invariant-loop-place : goal.invariant-loop-place
invariant-loop-place g l = Wrote (g.S.Sink.told l.initial.page) (g.S.Sink.told l.page) (each (place_text g.T.MixWorder.mixes l.holes l.bytes) (take l.place-index l.places))
