-- What the loop over the bytes keeps.
use Rattle.std.proofs.Common.{take}
use Rattle.pickle_io.specs.Device.{Wrote, each}
use Rattle.pickle_io.specs.Text.{quoted_byte}
use Rattle.pickle_names.proofs.value.write_bytes.Given as goal

abbrev pub invariant-loop-byte : goal.invariant-loop-byte
invariant-loop-byte g l = Wrote (g.P.Sink.told l.initial.page) (g.P.Sink.told l.page) (each quoted_byte (take l.byte-index l.bytes))
