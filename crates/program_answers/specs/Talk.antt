-- What is left of the devices of a conversation about a file, and of the file that its document is saved to. `old` and `new` are what the
-- output itself reports, behind the page.
-- Source: own.
use Rattle.std.specs.Prelude.{◌≡◌, ◌≢◌, ◌⊎◌, ◌++◌, ℕ, Bool, IsTrue, List, Option, None, Some, option_map, Result, MatchResult, IsErrAnd}
use Rattle.std.specs.List.{concat}
use Rattle.std.specs.String.{string_bytes}
use Rattle.pickle_io.specs.Device.{Told, HasFailed, Wrote, Broke}
use Rattle.pickle_doc.specs.Document.{document_bytes}
use Rattle.pickle_session.specs.Allowed.{SessionState}
use Rattle.pickle_session.specs.Opening.{IsOpenedIn}
use Rattle.pickle_script.specs.Conversation.{Finishes, StopsReading, StopsWriting, StopsInLine, BrokeSince}
use Rattle.debug_json.specs.Lines.{answer_line}
use Rattle.json_conversation.specs.Transcript.{lines_text}
use Rattle.json_conversation.specs.Conversation as json
use Rattle.pickle_script.specs.declared.stop.Stop.{Stop}
use Rattle.pickle_script.specs.declared.stop.Stop.TheVariants as stop
use Rattle.program_answers.specs.declared.task.GivenFile.{GivenFile}
use Rattle.program_answers.specs.declared.task.Format.{Format}
use Rattle.program_answers.specs.declared.task.Format.TheVariants as format
use Rattle.program_answers.specs.declared.task.Options.{Options}
use Rattle.program_answers.specs.declared.task.Task.{Task}
use Rattle.program_answers.specs.declared.task.Task.TheVariants as task
use Rattle.program_answers.specs.Device.{AnswersFile}
use Rattle.program_answers.specs.Files.{Gives, Reports, IsRead, IsUnread}
use Rattle.program_answers.specs.Gated.{GatesTask}
use Rattle.program_answers.specs.Assembled.{AssemblesFile}
use Rattle.program_answers.specs.Compared.{ComparesFiles}
use Rattle.program_answers.specs.Sourced.{SourcesFile}
use Rattle.program_answers.specs.Listed.{ListsFile}
use Rattle.program_answers.specs.Opcodes.{TookOpcodes}

-- ---- what is saved

-- these bytes were saved to the file of this name, and nothing to another; without a name nothing was. `took` is what the file of a name
-- has taken
abbrev pub Saves : {F : Type 0} → (F → List ℕ → Told) → Option (List ℕ) → F → F → List ℕ → Type 0
Saves took None files files' bytes = files' ≡ files
Saves took (Some path) files files' bytes = Wrote (took files path) (took files' path) bytes
    × ((name : List ℕ) → name ≢ path → took files' name ≡ took files name)

-- ---- a conversation with a session

-- what a conversation leaves, with texts for people or with lines for programs
abbrev pub FinishesIn : Format → SessionState → SessionState → ℕ → Option (List ℕ) → Option (List ℕ) → Told → Told → Type 0
FinishesIn format.Text s after status input input' old new = Finishes s after status input input' old new
FinishesIn format.Json s after status input input' old new = json.Finishes s after status input input' old new

abbrev pub StopsReadingIn : Format → SessionState → SessionState → Option (List ℕ) → Option (List ℕ) → Told → Told → Type 0
StopsReadingIn format.Text s after input input' old new = StopsReading s after input input' old new
StopsReadingIn format.Json s after input input' old new = json.StopsReading s after input input' old new

abbrev pub StopsWritingIn : Format → SessionState → SessionState → Option (List ℕ) → Option (List ℕ) → Told → Told → Type 0
StopsWritingIn format.Text s after input input' old new = StopsWriting s after input input' old new
StopsWritingIn format.Json s after input input' old new = json.StopsWriting s after input input' old new

-- the device failed in the text of some line: what it took is a beginning of the texts up to that, with whole ones of the lines that were
-- whole when more was read the last time
abbrev pub StopsAtDevice : Format → SessionState → SessionState → Option (List ℕ) → Option (List ℕ) → Told → Told → Type 0
StopsAtDevice format.Text s after input input' old new =
    StopsInLine (λ given texts text. Broke old new (concat texts ++ text) × BrokeSince s given old new) s after input input'
StopsAtDevice format.Json s after input input' old new =
    json.StopsInLine (λ given answers answer. Broke old new (lines_text answers ++ answer_line answer) × json.BrokeSince s given old new) s after input input'

-- what a stop leaves of it: the source failed just where that is the stop, and the device where it is Write
abbrev pub Cuts : Format → SessionState → SessionState → Gives → Gives → Told → Told → Stop → Type 0
Cuts f s after input input' old new stop.Read = StopsReadingIn f s after input.remaining input'.remaining old new × HasFailed input.failures input'.failures
Cuts f s after input input' old new stop.Write = StopsAtDevice f s after input.remaining input'.remaining old new × (input'.failures ≡ input.failures)
Cuts f s after input input' old new stop.TooLarge = ⊥
Cuts f s after input input' old new stop.Memory = (after ≡ s) × (input' ≡ input) × (new ≡ old)

-- it was held to its end, and no read failed
pub record IsHeld (f : Format) (s after : SessionState) (status : ℕ) (input input' : Gives) (old new : Told) : Type 0 where
  pub finishes : FinishesIn f s after status input.remaining input'.remaining old new
  pub calm : input'.failures ≡ input.failures

-- it was held to its end, and then saving the document to the file of that name failed so; no other file took anything
pub record IsLost (f : Format) (s after : SessionState) (save : Option (List ℕ)) {F O : Type 0} (r : Reports F O)
    (files files' : F) (input input' : Gives) (old new : Told) (e : Stop) : Type 0 where
  pub path : List ℕ
  pub asked : save ≡ Some path
  pub lost : IsTrue (r.loses files path e)
  pub others : (name : List ℕ) → name ≢ path → r.took files' name ≡ r.took files name
  pub status : ℕ
  pub held : IsHeld f s after status input input' old new

-- nothing was saved of it, since it stopped, or the file did
abbrev pub IsUnsaved : Format → SessionState → SessionState → Option (List ℕ) → {F O : Type 0} → Reports F O → F → F → Gives → Gives → Told → Told → Stop → Type 0
IsUnsaved f s after save r files files' input input' old new e = ((files' ≡ files) × Cuts f s after input input' old new e)
    ⊎ IsLost f s after save r files files' input input' old new e

-- ---- a conversation about bytes

-- the session of the bytes, which keeps as many records as the options say
pub record Opens (many loose : Bool) (bytes : List ℕ) (options : Options) (s : SessionState) : Type 0 where
  pub opened : IsOpenedIn many loose bytes s
  pub limit : s.past.limit ≡ options.window

abbrev pub path_of : Options → Option (List ℕ)
path_of options = option_map string_bytes options.save

-- it was held to its end with a session of the bytes, and its document saved where that is asked for
pub record Talked (many loose : Bool) (bytes : List ℕ) (options : Options) {F O : Type 0} (r : Reports F O)
    (files files' : F) (input input' : Gives) (old new : Told) (status : ℕ) : Type 0 where
  pub start : SessionState
  pub after : SessionState
  pub opens : Opens many loose bytes options start
  pub held : IsHeld options.format start after status input input' old new
  pub saves : Saves r.took (path_of options) files files' (document_bytes after.session.document)

-- there was a session of the bytes, but nothing was saved
pub record Fell (many loose : Bool) (bytes : List ℕ) (options : Options) {F O : Type 0} (r : Reports F O)
    (files files' : F) (input input' : Gives) (old new : Told) (e : Stop) : Type 0 where
  pub start : SessionState
  pub after : SessionState
  pub opens : Opens many loose bytes options start
  pub unsaved : IsUnsaved options.format start after (path_of options) r files files' input input' old new e

-- nothing was read, written or saved
pub record Untouched {F : Type 0} (files files' : F) (input input' : Gives) (old new : Told) : Type 0 where
  pub unsaved : files' ≡ files
  pub unread : input' ≡ input
  pub unwritten : new ≡ old

-- there was no memory for a session
pub record IsUnopened {F : Type 0} (files files' : F) (input input' : Gives) (old new : Told) (e : Stop) : Type 0 where
  pub memory : e ≡ stop.Memory
  pub untouched : Untouched files files' input input' old new

abbrev pub Talks : Bool → Bool → List ℕ → Options → {F O : Type 0} → Reports F O → F → F → Gives → Gives → Told → Told → Result ℕ Stop → Type 0
Talks many loose bytes options r files files' input input' old new result =
    MatchResult result (Talked many loose bytes options r files files' input input' old new)
    (λ e. IsUnopened files files' input input' old new e ⊎ Fell many loose bytes options r files files' input input' old new e)

-- ---- a conversation about a file

-- all bytes of the file were read and talked of; or it was not read, and nothing was read of the input, written or saved
abbrev pub TalksOfFile : GivenFile → Options → {F O : Type 0} → Reports F O → F → F → Gives → Gives → Told → Told → Result ℕ Stop → Type 0
TalksOfFile input options r files files' source source' old new result =
    (IsErrAnd result (IsUnread r files (string_bytes input.file)) × Untouched files files' source source' old new)
    ⊎ ((bytes : List ℕ) × IsRead (r.bytes_of files (string_bytes input.file)) bytes
    × Talks input.many input.unframed bytes options r files files' source source' old new result)

-- ---- a task

-- the text that it asks for was answered of this file; nothing was read of the input, and nothing saved
pub record WritesText (t : Task) (input : GivenFile) {F O : Type 0} (r : Reports F O) (files files' : F) (source source' : Gives)
    (old new : Told) (result : Result ℕ Stop) : Type 0 where
  pub answers : AnswersFile t input r files old new result
  pub unread : source' ≡ source
  pub unsaved : files' ≡ files

abbrev pub CarriesOut : Task → {F O : Type 0} → Reports F O → F → F → Gives → Gives → Told → Told → Result ℕ Stop → Type 0
CarriesOut (task.List input options) r files files' source source' old new result =
    WritesText (task.List input options) input r files files' source source' old new result
CarriesOut (task.Objects input f) r files files' source source' old new result =
    WritesText (task.Objects input f) input r files files' source source' old new result
CarriesOut (task.Calls input pickles) r files files' source source' old new result =
    WritesText (task.Calls input pickles) input r files files' source source' old new result
CarriesOut (task.Form input f) r files files' source source' old new result = WritesText (task.Form input f) input r files files' source source' old new result
CarriesOut (task.Reach input granted f) r files files' source source' old new result =
    WritesText (task.Reach input granted f) input r files files' source source' old new result
CarriesOut (task.Gate input options) r files files' source source' old new result =
    GatesTask input options r files old new result × ((source' ≡ source) × (files' ≡ files))
CarriesOut (task.Members input f) r files files' source source' old new result = ListsFile f input r files old new result × ((source' ≡ source) × (files' ≡ files))
CarriesOut (task.Assemble input) r files files' source source' old new result = AssemblesFile input r files old new result × ((source' ≡ source) × (files' ≡ files))
CarriesOut (task.Source input) r files files' source source' old new result = SourcesFile input r files old new result × ((source' ≡ source) × (files' ≡ files))
CarriesOut (task.Same input other f) r files files' source source' old new result =
    ComparesFiles f input (string_bytes other) r files old new result × ((source' ≡ source) × (files' ≡ files))
CarriesOut (task.Debug input options) r files files' source source' old new result = TalksOfFile input options r files files' source source' old new result
CarriesOut (task.Opcodes f) r files files' source source' old new result = TookOpcodes f old new result × ((source' ≡ source) × (files' ≡ files))
