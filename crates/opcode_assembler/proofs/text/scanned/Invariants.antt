-- The bytes so far, in front of what is left, are the whole.
use Rattle.std.proofs.Common.{◌≡◌, length}
use Rattle.opcode_assembler.specs.declared.scan.Mode.TheVariants as mode
use Rattle.opcode_assembler.specs.Quotes.{in_front, scanned}
use Rattle.opcode_assembler.proofs.text.scanned.Given as goal

abbrev pub invariant-loop-byte : goal.invariant-loop-byte
invariant-loop-byte l = in_front l.bytes.items (scanned l.quote l.mode l.rest) ≡ scanned l.quote mode.Plain l.text

abbrev pub decreases-loop-byte : goal.decreases-loop-byte
decreases-loop-byte l = length l.rest
