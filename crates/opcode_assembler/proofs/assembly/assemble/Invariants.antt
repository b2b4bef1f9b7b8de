-- The bytes so far and the lines that are left give the whole.
use Rattle.std.proofs.Common.{◌+◌, ◌≤◌, length, option_map}
use Rattle.std.specs.List.{slice_split}
use Rattle.opcode_assembler.specs.Assembly.{is_newline}
use Rattle.opcode_assembler.proofs.Cuts.{size_left}
use Rattle.opcode_assembler.proofs.Lines.{Completes, Finds}
use Rattle.opcode_assembler.proofs.assembly.assemble.Given as goal

abbrev pub invariant-loop-rest : goal.invariant-loop-rest
invariant-loop-rest l = record {
  completes : Completes l.rest l.out.items (slice_split is_newline l.text);
  finds : Finds l.rest l.number (slice_split is_newline l.text);
  counted : l.number + size_left (option_map (λ r. r.now) l.rest) ≤ length l.text + 1;
}

abbrev pub decreases-loop-rest : goal.decreases-loop-rest
decreases-loop-rest l = size_left (option_map (λ r. r.now) l.rest)
