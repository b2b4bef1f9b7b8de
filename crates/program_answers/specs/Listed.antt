-- What is left of the device where the members of a file were asked for.
-- Source: own.
use Rattle.std.specs.Prelude.{◌⊎◌, ℕ, List, Result}
use Rattle.std.specs.String.{string_bytes}
use Rattle.pickle_io.specs.Device.{Told}
use Rattle.pickle_text.specs.Output.{Output}
use Rattle.archive_script.specs.MembersText.{IsMembersText}
use Rattle.gate_json.specs.MembersFields.{IsMembersLines}
use Rattle.pickle_script.specs.declared.stop.Stop.{Stop}
use Rattle.program_answers.specs.declared.task.GivenFile.{GivenFile}
use Rattle.program_answers.specs.declared.task.Format.{Format}
use Rattle.program_answers.specs.declared.task.Format.TheVariants as format
use Rattle.program_answers.specs.Device.{TookText, NoneWithoutMemory}
use Rattle.program_answers.specs.Files.{Reports, IsRead}
use Rattle.program_answers.specs.Gated.{IsMissing}

-- what is said, as a text for people or as lines for programs
abbrev pub IsMembersAnswer : Format → List ℕ → Output → Type 0
IsMembersAnswer format.Text bytes o = IsMembersText bytes o
IsMembersAnswer format.Json bytes o = IsMembersLines bytes o

-- the device took so of what is said of the members of these bytes
pub record TookMembers (f : Format) (bytes : List ℕ) (old new : Told) (result : Result ℕ Stop) : Type 0 where
  pub took : TookText (IsMembersAnswer f bytes) old new result
  pub last : NoneWithoutMemory old new result

-- all bytes of the file were read; or it was not read
abbrev pub ListsFile : Format → GivenFile → {F O : Type 0} → Reports F O → F → Told → Told → Result ℕ Stop → Type 0
ListsFile f input r files old new result =
    IsMissing (string_bytes input.file) r files old new result
    ⊎ ((bytes : List ℕ) × IsRead (r.bytes_of files (string_bytes input.file)) bytes × TookMembers f bytes old new result)
