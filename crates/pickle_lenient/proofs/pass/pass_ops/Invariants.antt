-- The opcodes so far were passed.
use Rattle.std.proofs.Common.{◌≡◌, ◌+◌, ◌≤◌, drop, length}
use Rattle.pickle_lenient.specs.Passing.{PassesSome}
use Rattle.pickle_lenient.proofs.pass.pass_ops.Given as goal

abbrev pub invariant-opcodes : goal.invariant-opcodes
invariant-opcodes l = (l.rest ≡ drop l.size l.bytes) × (l.size + l.now ≤ length l.bytes) × PassesSome l.fn.left l.bytes l.size l.now

abbrev pub decreases-opcodes : goal.decreases-opcodes
decreases-opcodes l = length l.rest
