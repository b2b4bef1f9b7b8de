-- What is left of the device where the pickles in two files were compared.
-- Source: own.
use Rattle.std.specs.Prelude.{◌≡◌, ◌⊎◌, ℕ, List, Bool, Result, Ok}
use Rattle.std.specs.String.{string_bytes}
use Rattle.pickle_io.specs.Device.{Told}
use Rattle.pickle_text.specs.Output.{Output}
use Rattle.same_objects.specs.Same.{SameObjects}
use Rattle.same_script.specs.SameText.{IsSameText}
use Rattle.same_script.specs.SameFields.{IsSameLine}
use Rattle.pickle_script.specs.declared.stop.Stop.{Stop}
use Rattle.program_answers.specs.declared.task.GivenFile.{GivenFile}
use Rattle.program_answers.specs.declared.task.Format.{Format}
use Rattle.program_answers.specs.declared.task.Format.TheVariants as format
use Rattle.program_answers.specs.Device.{TookText, NoneWithoutMemory}
use Rattle.program_answers.specs.Files.{Reports, IsRead}
use Rattle.program_answers.specs.Gated.{IsMissing}

-- what is said of the pickles in these bytes, as a line for people or for programs
abbrev pub IsSameAnswer : Format → Bool → List ℕ → List ℕ → Output → Type 0
IsSameAnswer format.Text many one other o = IsSameText many one other o
IsSameAnswer format.Json many one other o = IsSameLine many one other o

-- the device took so of it. The status is 0 only where they make the same objects
pub record TookComparison (f : Format) (many : Bool) (one other : List ℕ) (old new : Told) (result : Result ℕ Stop) : Type 0 where
  pub took : TookText (IsSameAnswer f many one other) old new result
  pub last : NoneWithoutMemory old new result
  pub same : result ≡ Ok 0 → SameObjects many one other

-- all bytes of both files were read, of the first before the other, and compared; or one of them was not read
abbrev pub ComparesFiles : Format → GivenFile → List ℕ → {F O : Type 0} → Reports F O → F → Told → Told → Result ℕ Stop → Type 0
ComparesFiles f input path r files old new result =
    IsMissing (string_bytes input.file) r files old new result
    ⊎ ((one : List ℕ) × IsRead (r.bytes_of files (string_bytes input.file)) one
    × (IsMissing path r files old new result
    ⊎ ((other : List ℕ) × IsRead (r.bytes_of files path) other × TookComparison f input.many one other old new result)))
