-- The bytes that are left say as much as all.
use Rattle.std.proofs.Common.{◌≡◌, ◌≤◌}
use Rattle.opcode_assembler.specs.Numbers.{least_len}
use Rattle.opcode_assembler.proofs.long.least_len.Given as goal

abbrev pub invariant-loop-count : goal.invariant-loop-count
invariant-loop-count l = record {
  value : least_len l.bytes l.count ≡ least_len l.bytes 16;
  small : l.count ≤ 16;
}

abbrev pub decreases-loop-count : goal.decreases-loop-count
decreases-loop-count l = l.count
