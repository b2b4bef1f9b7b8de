-- What is left, from what was read, gives the whole.
use Rattle.std.proofs.Common.{◌≡◌, drop}
use Rattle.std.specs.List.{fold}
use Rattle.pickle_source.specs.Value.{after_byte}
use Rattle.pickle_source.specs.declared.value.Numeral.TheVariants as numeral
use Rattle.pickle_source.proofs.value.numeral_of.Given as goal

abbrev pub invariant-loop-byte : goal.invariant-loop-byte
invariant-loop-byte l = fold after_byte l.read (drop l.byte-index l.line) ≡ fold after_byte numeral.Start l.line
