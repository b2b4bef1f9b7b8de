-- What is left of the device where a text of opcodes was to be assembled.
-- Source: own.
use Rattle.std.specs.Prelude.{◌⊎◌, ℕ, List, Result}
use Rattle.std.specs.String.{string_bytes}
use Rattle.pickle_io.specs.Device.{Told}
use Rattle.assembler_script.specs.AssemblyText.{IsAssemblyText}
use Rattle.pickle_script.specs.declared.stop.Stop.{Stop}
use Rattle.program_answers.specs.declared.task.GivenFile.{GivenFile}
use Rattle.program_answers.specs.Device.{TookText, NoneWithoutMemory}
use Rattle.program_answers.specs.Files.{Reports, IsRead}
use Rattle.program_answers.specs.Gated.{IsMissing}

-- the device took so of the bytes that this text is assembled to
pub record TookAssembly (text : List ℕ) (old new : Told) (result : Result ℕ Stop) : Type 0 where
  pub took : TookText (IsAssemblyText text) old new result
  pub last : NoneWithoutMemory old new result

-- all bytes of the file were read; or it was not read
abbrev pub AssemblesFile : GivenFile → {F O : Type 0} → Reports F O → F → Told → Told → Result ℕ Stop → Type 0
AssemblesFile input r files old new result =
    IsMissing (string_bytes input.file) r files old new result
    ⊎ ((text : List ℕ) × IsRead (r.bytes_of files (string_bytes input.file)) text × TookAssembly text old new result)
