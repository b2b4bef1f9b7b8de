-- What is left of the line decides.
use Rattle.std.proofs.Common.{◌≡◌, drop}
use Rattle.archive_gate.specs.Members.{line_is_ascii}
use Rattle.archive_gate.proofs.begins.line_is_ascii.Given as goal

abbrev pub invariant-loop-byte : goal.invariant-loop-byte
invariant-loop-byte l = line_is_ascii (drop l.byte-index l.bytes) ≡ line_is_ascii l.bytes
