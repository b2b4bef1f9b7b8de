-- What is left decides.
use Rattle.std.proofs.Common.{◌≡◌, drop}
use Rattle.std.specs.List.{list_all}
use Rattle.python_literals.specs.Signs.{is_plain}
use Rattle.python_literals.proofs.signs.are_plain.Given as goal

abbrev pub invariant-loop-byte : goal.invariant-loop-byte
invariant-loop-byte l = list_all (is_plain l.quote) (drop l.byte-index l.bytes) ≡ list_all (is_plain l.quote) l.bytes
