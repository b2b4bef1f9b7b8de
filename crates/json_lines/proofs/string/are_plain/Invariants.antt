-- What is left decides.
use Rattle.std.proofs.Common.{◌≡◌, drop}
use Rattle.std.specs.List.{list_all}
use Rattle.json_lines.specs.Json.{is_plain}
use Rattle.json_lines.proofs.string.are_plain.Given as goal

abbrev pub invariant-loop-byte : goal.invariant-loop-byte
invariant-loop-byte l = list_all is_plain (drop l.byte-index l.bytes) ≡ list_all is_plain l.bytes
