use Rattle.std.proofs.Common.{◌≡◌, ◌+◌, ◌≤◌, false, length}
use Rattle.pickle_doc.specs.Document.{Contents, ReadsAs}
use Rattle.pickle_gate.proofs.Lines.{Stands}
use Rattle.pickle_gate.proofs.line.line_at.Given as goal

abbrev pub invariant-items : goal.invariant-items
invariant-items l =
    ((d : Contents) → ReadsAs false l.bytes d → Stands d l.at l.offset l.reader.rest l.reader.left l.machine.state l.naming)
    × (l.reader.loose ≡ false)
    × ((l.machine.rest ≡ l.reader.rest) × (l.machine.place ≡ l.at))
    × (length l.machine.state.heap ≤ l.at)
    × (l.offset + length l.reader.rest ≡ length l.bytes)
    × (l.at ≤ l.place)
