use Rattle.std.proofs.Common.{◌≡◌}
use Rattle.pickle_machine.specs.Reading.{reading}
use Rattle.pickle_machine.proofs.slim.run_first.Given as goal

abbrev pub invariant-opcodes : goal.invariant-opcodes
invariant-opcodes l = (l.machine.state ≡ (reading l.fn.many l.fn.bytes l.place).state) × (l.rest ≡ (reading l.fn.many l.fn.bytes l.place).rest) × ((reading l.fn.many l.fn.bytes l.place).place ≡ l.place)
