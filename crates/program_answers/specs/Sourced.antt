-- What is left of the device where the source of the pickle in a file was asked for.
-- Source: own.
use Rattle.std.specs.Prelude.{◌⊎◌, ℕ, List, Bool, Result}
use Rattle.std.specs.String.{string_bytes}
use Rattle.pickle_io.specs.Device.{Told}
use Rattle.source_script.specs.SourceText.{IsSourceText}
use Rattle.pickle_script.specs.declared.stop.Stop.{Stop}
use Rattle.program_answers.specs.declared.task.GivenFile.{GivenFile}
use Rattle.program_answers.specs.Device.{TookText, NoneWithoutMemory}
use Rattle.program_answers.specs.Files.{Reports, IsRead}
use Rattle.program_answers.specs.Gated.{IsMissing}

-- the device took so of the source of these bytes
pub record TookSource (many loose : Bool) (bytes : List ℕ) (old new : Told) (result : Result ℕ Stop) : Type 0 where
  pub took : TookText (IsSourceText many loose bytes) old new result
  pub last : NoneWithoutMemory old new result

-- all bytes of the file were read; or it was not read
abbrev pub SourcesFile : GivenFile → {F O : Type 0} → Reports F O → F → Told → Told → Result ℕ Stop → Type 0
SourcesFile input r files old new result =
    IsMissing (string_bytes input.file) r files old new result
    ⊎ ((bytes : List ℕ) × IsRead (r.bytes_of files (string_bytes input.file)) bytes × TookSource input.many input.unframed bytes old new result)
