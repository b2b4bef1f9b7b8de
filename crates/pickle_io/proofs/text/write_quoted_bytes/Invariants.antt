-- What the loop over the bytes keeps.
use Rattle.std.proofs.Common.{◌≤◌, take}
use Rattle.pickle_io.specs.Text.{quoted_byte}
use Rattle.pickle_io.specs.Device.{Wrote, each}
use Rattle.pickle_io.proofs.text.write_quoted_bytes.Given as goal

abbrev pub invariant-loop-byte : goal.invariant-loop-byte
invariant-loop-byte g l = record {
  wrote : Wrote (g.P.Sink.told l.initial.page) (g.P.Sink.told l.page) (each quoted_byte (take l.byte-index l.text));
  room : 61 ≤ g.P.Page.room l.page;
}
