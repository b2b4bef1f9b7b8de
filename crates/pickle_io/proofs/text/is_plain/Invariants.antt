-- The bytes so far stand for themselves.
use Rattle.std.proofs.Common.{◌≡◌, take}
use Rattle.pickle_io.specs.Text.{quoted_bytes}
use Rattle.pickle_io.proofs.text.is_plain.Given as goal

abbrev pub invariant-loop-byte : goal.invariant-loop-byte
invariant-loop-byte l = quoted_bytes (take l.byte-index l.text) ≡ take l.byte-index l.text
