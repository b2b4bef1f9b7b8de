-- The bytes so far are written.
use Rattle.std.proofs.Common.{◌≤◌, take}
use Rattle.pickle_io.specs.Device.{Wrote, each}
use Rattle.python_literals.specs.Signs.{ascii_text}
use Rattle.python_literals.proofs.bytes.write_each.Given as goal

abbrev pub invariant-loop-byte : goal.invariant-loop-byte
invariant-loop-byte g l = record {
  wrote : Wrote (g.P.Sink.told l.initial.page) (g.P.Sink.told l.page) (each (ascii_text l.quote) (take l.byte-index l.bytes));
  room : 61 ≤ g.P.Page.room l.page;
}
