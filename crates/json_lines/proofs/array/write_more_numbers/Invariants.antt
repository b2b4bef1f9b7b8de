-- The numbers so far are written.
use Rattle.std.proofs.Common.{take}
use Rattle.pickle_io.specs.Device.{Wrote, each}
use Rattle.json_lines.specs.Line.{next_number}
use Rattle.json_lines.proofs.array.write_more_numbers.Given as goal

abbrev pub invariant-loop-number : goal.invariant-loop-number
invariant-loop-number g l = Wrote (g.P.Sink.told l.initial.page) (g.P.Sink.told l.page) (each next_number (take l.number-index l.numbers))
