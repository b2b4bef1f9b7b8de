-- What the loop over the digits keeps.
use Rattle.std.proofs.Common.{◌≡◌, ◌<◌, ◌^◌, drop}
use Rattle.std.specs.List.{fold, list_all}
use Rattle.pickle_ops.specs.Shape.{is_digit, add_digit, value_of}
use Rattle.opcode_assembler.proofs.number.wide_of.Given as goal

-- what is left, from the value so far, gives the whole
abbrev pub invariant-loop-b : goal.invariant-loop-b
invariant-loop-b l = record {
  value : fold add_digit l.value (drop l.b-index l.text) ≡ value_of l.text;
  small : l.value < 2 ^ 128;
  digits : list_all is_digit (drop l.b-index l.text) ≡ list_all is_digit l.text;
}
