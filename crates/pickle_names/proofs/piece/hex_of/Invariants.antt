-- What is left, after the number so far, gives the whole.
use Rattle.std.proofs.Common.{◌≡◌, ◌<◌, drop, Some}
use Rattle.pickle_names.specs.Coding.{hex_after}
use Rattle.pickle_names.proofs.Numbers.{bound}
use Rattle.pickle_names.proofs.piece.hex_of.Given as goal

abbrev pub invariant-loop-byte : goal.invariant-loop-byte
invariant-loop-byte l = record {
  value : hex_after (Some l.number) (drop l.byte-index l.digits) ≡ hex_after (Some 0) l.digits;
  small : l.number < bound l.byte-index;
}
