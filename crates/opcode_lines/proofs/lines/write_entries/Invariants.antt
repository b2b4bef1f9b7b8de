-- What the loop over the opcodes keeps.
use Rattle.std.proofs.Common.{take}
use Rattle.pickle_io.specs.Device.{Wrote, each}
use Rattle.opcode_lines.specs.EntryFields.{entry_line}
use Rattle.opcode_lines.proofs.lines.write_entries.Given as goal

abbrev pub invariant-loop-opcode : goal.invariant-loop-opcode
invariant-loop-opcode g l = Wrote (g.P.Sink.told l.initial.page) (g.P.Sink.told l.page) (each entry_line (take l.opcode-index l.opcodes))
