-- What is left of the device where the table of opcodes was asked for.
-- Source: own.
use Rattle.std.specs.Prelude.{◌≡◌, ℕ, List, Result, IfErr}
use Rattle.pickle_io.specs.Device.{Told}
use Rattle.pickle_text.specs.Output.{Output}
use Rattle.opcode_lines.specs.EntryFields.{plain_text, table_text}
use Rattle.pickle_script.specs.declared.stop.Stop.{Stop}
use Rattle.pickle_script.specs.declared.stop.Stop.TheVariants as stop
use Rattle.program_answers.specs.declared.task.Format.{Format}
use Rattle.program_answers.specs.declared.task.Format.TheVariants as format
use Rattle.program_answers.specs.Device.{TookText}

abbrev pub opcodes_text : Format → List ℕ
opcodes_text format.Text = plain_text
opcodes_text format.Json = table_text

-- the table, whose status is 0
abbrev pub IsOpcodes : Format → Output → Type 0
IsOpcodes f o = o ≡ record { text = opcodes_text f; status = 0 }

-- the device took so of the table. It stops only where the device fails
pub record TookOpcodes (f : Format) (old new : Told) (result : Result ℕ Stop) : Type 0 where
  pub took : TookText (IsOpcodes f) old new result
  pub stops : IfErr result (λ e. e ≡ stop.Write)
