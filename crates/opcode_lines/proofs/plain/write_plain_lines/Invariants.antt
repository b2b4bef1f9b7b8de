-- What the loop over the opcodes keeps.
use Rattle.std.proofs.Common.{take}
use Rattle.pickle_io.specs.Device.{Wrote, each}
use Rattle.opcode_lines.specs.EntryFields.{plain_line}
use Rattle.opcode_lines.proofs.plain.write_plain_lines.Given as goal

abbrev pub invariant-loop-opcode : goal.invariant-loop-opcode
invariant-loop-opcode g l = Wrote (g.P.Sink.told l.initial.page) (g.P.Sink.told l.page) (each plain_line (take l.opcode-index l.opcodes))
