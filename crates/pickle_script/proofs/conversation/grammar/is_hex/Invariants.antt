-- What the loop over the digits keeps.
use Rattle.std.proofs.Common.{◌≡◌, drop}
use Rattle.std.specs.List.{list_all}
use Rattle.hex.specs.Hex.{is_hex_digit}
use Rattle.pickle_script.proofs.conversation.grammar.is_hex.Given as goal

-- what is left is digits where the whole is
abbrev pub invariant-loop-byte : goal.invariant-loop-byte
invariant-loop-byte l = list_all is_hex_digit (drop l.byte-index l.word) ≡ list_all is_hex_digit l.word
