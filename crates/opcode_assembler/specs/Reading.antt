-- What readers of a line answer.
use Rattle.std.specs.Prelude.{◌≡◌, ⊤, Result, Err}
use Rattle.opcode_assembler.specs.declared.fault.Reason.{Reason}
use Rattle.opcode_assembler.specs.declared.fault.Fault.{Fault}
use Rattle.opcode_assembler.specs.declared.fault.Fault.TheVariants as fault

-- a fault is the one of the definition, or memory ran out
abbrev pub Fails : {A : Type 0} → Result A Reason → Fault → Type 0
Fails says (fault.Wrong r) = says ≡ Err r
Fails says fault.Memory = ⊤
