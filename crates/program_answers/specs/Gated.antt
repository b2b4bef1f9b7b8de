-- What is left of the device where the gate was asked about files, by a list in another file.
-- Source: own.
use Rattle.std.specs.Prelude.{◌≡◌, ◌⊎◌, ℕ, zero, suc, List, [], ◌∷◌, map, Result, Ok, Err, IsErr, IsErrAnd, ⊤}
use Rattle.std.specs.String.{string_bytes}
use Rattle.pickle_io.specs.Device.{Told}
use Rattle.pickle_allow.specs.declared.list.Entry.{Entry}
use Rattle.pickle_allow.specs.declared.listing.Listing.{Listing}
use Rattle.pickle_allow.specs.declared.listing.Listing.TheVariants as listing
use Rattle.pickle_allow.specs.Grammar.{IsListing}
use Rattle.archive_gate.specs.File.{PassesFile}
use Rattle.pickle_text.specs.Output.{Output}
use Rattle.archive_script.specs.GateText.{IsGateText, IsNamedText, IsNoList, PassesListed}
use Rattle.gate_json.specs.GateLine.{IsGateLine, IsNamedLine, IsNoListJson}
use Rattle.pickle_script.specs.declared.stop.Stop.{Stop}
use Rattle.pickle_script.specs.declared.stop.Stop.TheVariants as stop
use Rattle.program_answers.specs.declared.task.GivenFile.{GivenFile}
use Rattle.program_answers.specs.declared.task.GateOptions.{GateOptions}
use Rattle.program_answers.specs.declared.task.Format.{Format}
use Rattle.program_answers.specs.declared.task.Format.TheVariants as format
use Rattle.program_answers.specs.Device.{TookText, NoneWithoutMemory}
use Rattle.program_answers.specs.Files.{Reports, IsRead, IsUnread}

-- a file was not read, and nothing was written
abbrev pub IsMissing : List ℕ → {F O : Type 0} → Reports F O → F → Told → Told → Result ℕ Stop → Type 0
IsMissing path r files old new result = IsErrAnd result (IsUnread r files path) × (new ≡ old)

-- ---- one file

-- a text is a list, and these bytes pass by its entries
abbrev pub PassesText : List ℕ → List ℕ → Type 0
PassesText text bytes = (list : Listing) × IsListing text list × PassesListed list bytes

-- what is said, as a text for people or as a line for programs
abbrev pub IsGateAnswer : Format → List ℕ → List ℕ → Output → Type 0
IsGateAnswer format.Text list bytes o = IsGateText list bytes o
IsGateAnswer format.Json list bytes o = IsGateLine list bytes o

-- the device took so of what the gate says, of this list and these bytes. The status is 0 only where they pass
pub record TookGate (f : Format) (list bytes : List ℕ) (old new : Told) (result : Result ℕ Stop) : Type 0 where
  pub took : TookText (IsGateAnswer f list bytes) old new result
  pub last : NoneWithoutMemory old new result
  pub passes : result ≡ Ok 0 → PassesText list bytes

-- all bytes of both files were read, of the list first, and the gate was asked about them; or one of them was not read
abbrev pub GatesFile : Format → GivenFile → List ℕ → {F O : Type 0} → Reports F O → F → Told → Told → Result ℕ Stop → Type 0
GatesFile f input path r files old new result =
    IsMissing path r files old new result
    ⊎ ((list : List ℕ) × IsRead (r.bytes_of files path) list
    × (IsMissing (string_bytes input.file) r files old new result
    ⊎ ((bytes : List ℕ) × IsRead (r.bytes_of files (string_bytes input.file)) bytes × TookGate f list bytes old new result)))

-- ---- several files

-- what is said of a file by the entries of a list, with its name
abbrev pub IsNamedAnswer : Format → List ℕ → List Entry → List ℕ → Output → Type 0
IsNamedAnswer format.Text name list bytes o = IsNamedText name list bytes o
IsNamedAnswer format.Json name list bytes o = IsNamedLine name list bytes o

-- the device took so of what is said of these bytes by the entries of a list, with the name of their file
pub record TookNamed (f : Format) (list : List Entry) (name bytes : List ℕ) (old new : Told) (result : Result ℕ Stop) : Type 0 where
  pub took : TookText (IsNamedAnswer f name list bytes) old new result
  pub last : NoneWithoutMemory old new result
  pub passes : result ≡ Ok 0 → PassesFile list bytes

-- all bytes of the file of this name were read, and it was told of; or it was not read
abbrev pub GatesNamed : Format → List Entry → List ℕ → {F O : Type 0} → Reports F O → F → Told → Told → Result ℕ Stop → Type 0
GatesNamed f list name r files old new result =
    IsMissing name r files old new result ⊎ ((bytes : List ℕ) × IsRead (r.bytes_of files name) bytes × TookNamed f list name bytes old new result)

-- the status of a file and of those behind it: the first that is not 0
abbrev pub first_other : ℕ → ℕ → ℕ
first_other zero next = next
first_other (suc n) next = suc n

abbrev pub joined : ℕ → Result ℕ Stop → Result ℕ Stop
joined status (Ok next) = Ok (first_other status next)
joined status (Err e) = Err e

-- a file has a status, and those behind it were told of
pub record Follows (One Others : Told → Told → Result ℕ Stop → Type 0) (old new : Told) (result : Result ℕ Stop) : Type 0 where
  pub between : Told
  pub status : ℕ
  pub one : One old between (Ok status)
  pub rest : Result ℕ Stop
  pub others : Others between new rest
  pub result_is : result ≡ joined status rest

-- each file was told of in order, up to the first at which the gate stopped
abbrev pub GatesEach : Format → List Entry → List (List ℕ) → {F O : Type 0} → Reports F O → F → Told → Told → Result ℕ Stop → Type 0
GatesEach f list [] r files old new result = (new ≡ old) × (result ≡ Ok 0)
GatesEach f list (name ∷ more) r files old new result =
    (IsErr result × GatesNamed f list name r files old new result)
    ⊎ Follows (GatesNamed f list name r files) (GatesEach f list more r files) old new result

-- a line of a list is no entry
abbrev pub IsNoListAnswer : Format → ℕ → Output → Type 0
IsNoListAnswer format.Text n o = IsNoList n o
IsNoListAnswer format.Json n o = IsNoListJson n o

-- by the entries of a list; or a line of it is no entry
abbrev pub GatesListed : Format → Listing → List (List ℕ) → {F O : Type 0} → Reports F O → F → Told → Told → Result ℕ Stop → Type 0
GatesListed f (listing.Entries list) names r files old new result = GatesEach f list.items names r files old new result
GatesListed f (listing.Wrong n) names r files old new result = TookText (IsNoListAnswer f n) old new result × NoneWithoutMemory old new result

-- by the text of a list; or there was no memory for its entries
abbrev pub GatesText : Format → List ℕ → List (List ℕ) → {F O : Type 0} → Reports F O → F → Told → Told → Result ℕ Stop → Type 0
GatesText f text names r files old new result =
    ((result ≡ Err stop.Memory) × (new ≡ old)) ⊎ ((list : Listing) × IsListing text list × GatesListed f list names r files old new result)

-- all bytes of the list were read first; or it was not read
abbrev pub GatesSeveral : Format → List (List ℕ) → List ℕ → {F O : Type 0} → Reports F O → F → Told → Told → Result ℕ Stop → Type 0
GatesSeveral f names path r files old new result =
    IsMissing path r files old new result ⊎ ((text : List ℕ) × IsRead (r.bytes_of files path) text × GatesText f text names r files old new result)

-- ---- the task

-- of one file the line is its own, and of several each has its name
abbrev pub GatesFiles : Format → GivenFile → List (List ℕ) → List ℕ → {F O : Type 0} → Reports F O → F → Told → Told → Result ℕ Stop → Type 0
GatesFiles f input [] path r files old new result = GatesFile f input path r files old new result
GatesFiles f input (name ∷ more) path r files old new result = GatesSeveral f (string_bytes input.file ∷ name ∷ more) path r files old new result

-- the file of this name was read, and passes by a list
abbrev pub HasPassed : Listing → {F O : Type 0} → Reports F O → F → List ℕ → Type 0
HasPassed list r files name = (bytes : List ℕ) × IsRead (r.bytes_of files name) bytes × PassesListed list bytes

abbrev pub OfEach : (List ℕ → Type 0) → List (List ℕ) → Type 0
OfEach P [] = ⊤
OfEach P (name ∷ more) = P name × OfEach P more

-- the list was read, each line of it is an entry, and each file passes by these
pub record AllPass {F O : Type 0} (r : Reports F O) (files : F) (path : List ℕ) (names : List (List ℕ)) : Type 0 where
  pub text : List ℕ
  pub read : IsRead (r.bytes_of files path) text
  pub list : Listing
  pub lists : IsListing text list
  pub each : OfEach (HasPassed list r files) names

-- the files are told of, and the status is 0 only where each passes
pub record GatesTask (input : GivenFile) (options : GateOptions) {F O : Type 0} (r : Reports F O) (files : F) (old new : Told) (result : Result ℕ Stop) : Type 0 where
  pub tells : GatesFiles options.format input (map string_bytes options.more.items) (string_bytes options.list) r files old new result
  pub is_zero : result ≡ Ok 0 → AllPass r files (string_bytes options.list) (string_bytes input.file ∷ map string_bytes options.more.items)
