-- What is left decides, from where the reader is.
use Rattle.std.proofs.Common.{◌≡◌, drop}
use Rattle.std.specs.Float.Parse.{completes_number}
use Rattle.python_literals.proofs.float.is_number.Given as goal

abbrev pub invariant-loop-byte : goal.invariant-loop-byte
invariant-loop-byte l = completes_number l.state (drop l.byte-index l.text) ≡ completes_number 0 l.text
