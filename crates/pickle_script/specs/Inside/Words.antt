-- What the readers of words answer: a test of hexadecimal digits, and the fault of an operation.
use Rattle.std.specs.Prelude.{ℕ, List, length, Bool, ◌==◌, ◌&&◌, ◌%◌}
use Rattle.std.specs.List.{list_all}
use Rattle.hex.specs.Hex.{is_hex_digit}
use Rattle.pickle_ops.specs.declared.fault.OpFault.{OpFault}
use Rattle.pickle_ops.specs.declared.fault.OpFault.TheVariants as fault
use Rattle.pickle_script.specs.declared.conversation.line.Syntax.{Syntax}
use Rattle.pickle_script.specs.declared.conversation.line.Syntax.TheVariants as syntax

-- whether a word is hexadecimal digits of both cases, two a byte
abbrev pub is_hex : List ℕ → Bool
is_hex w = length w % 2 == 0 && list_all is_hex_digit w

-- how a fault of an operation is answered
abbrev pub fault_syntax : OpFault → Syntax
fault_syntax fault.Memory = syntax.Memory
fault_syntax f = syntax.BadOp f
