-- What is left decides.
use Rattle.std.proofs.Common.{◌≡◌, drop}
use Rattle.std.specs.List.{list_all}
use Rattle.calls_json.specs.TextFields.{is_own}
use Rattle.calls_json.proofs.text.are_own.Given as goal

abbrev pub invariant-loop-byte : goal.invariant-loop-byte
invariant-loop-byte l = list_all is_own (drop l.byte-index l.bytes) ≡ list_all is_own l.bytes
