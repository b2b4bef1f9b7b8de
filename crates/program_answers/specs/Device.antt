-- What is left at the devices of the program: its input, and its output itself, behind the page.
-- Source: own.
use Rattle.std.specs.Prelude.{◌≡◌, ◌⊎◌, ℕ, List, [], Bool, true, false, Option, Result, Ok, Err, IsErr, IsErrAnd, ⊤}
use Rattle.std.specs.String.{string_bytes}
use Rattle.pickle_io.specs.Device.{Told, Wrote, Broke, WroteAllBut}
use Rattle.pickle_io.specs.Whole.{IsWhole}
use Rattle.pickle_io.specs.declared.buffered.Buffered.{Buffered}
use Rattle.pickle_io.specs.declared.whole.ReadStop.{ReadStop}
use Rattle.pickle_doc.specs.Document.{Contents, ReadsIn, ReadsAs, size_limit}
use Rattle.pickle_text.specs.Output.{Output}
use Rattle.pickle_list.specs.Listing.{listing}
use Rattle.whole_listing.specs.WholeArgs.{whole_listing}
use Rattle.object_texts.specs.Report.{IsReport}
use Rattle.pickle_json.specs.Listing as json
use Rattle.objects_json.specs.Objects.{IsObjects}
use Rattle.json_script.specs.CallsLines.{IsLinesOfFile}
use Rattle.json_script.specs.FormLine.{IsFormLine}
use Rattle.json_script.specs.ReachLine.{IsReachLine}
use Rattle.json_script.specs.declared.lines.Lines.{Lines}
use Rattle.json_script.specs.declared.lines.Lines.TheVariants as lines
use Rattle.mixes_text.specs.CallsWith.{IsCalls}
use Rattle.pickle_script.specs.declared.stop.Stop.{Stop}
use Rattle.pickle_script.specs.declared.stop.Stop.TheVariants as stop
use Rattle.pickle_script.specs.declared.texts.written.Text.{Text}
use Rattle.pickle_script.specs.Stop.{stop_of_read}
use Rattle.pickle_script.specs.declared.texts.written.Text.TheVariants as text
use Rattle.pickle_calls.specs.Manner.{manner, whole}
use Rattle.pickle_script.specs.FormText.{form_output}
use Rattle.pickle_script.specs.ReachText.{IsReachText}
use Rattle.pickle_script.specs.Output.{IsCallsOfFile}
use Rattle.program_answers.specs.declared.task.Task.{Task}
use Rattle.program_answers.specs.declared.task.Task.TheVariants as task
use Rattle.program_answers.specs.declared.task.GivenFile.{GivenFile}
use Rattle.program_answers.specs.declared.task.Format.{Format}
use Rattle.program_answers.specs.declared.task.Format.TheVariants as format
use Rattle.program_answers.specs.declared.task.CallsOptions.{CallsOptions}
use Rattle.program_answers.specs.Files.{Gives, Reports, IsCutShort, IsShut}

-- ---- a page

-- the device that a page writes to
abbrev pub device_of : {K : Type 0} → Buffered K → K
device_of page = page.sink

-- ---- a text that a device is handed

-- the device took all of a text, and this is its status; or a beginning, and then the device failed or memory ran out
abbrev pub Took : Output → Told → Told → Result ℕ Stop → Type 0
Took o old new (Ok status) = Wrote old new o.text × (status ≡ o.status)
Took o old new (Err stop.Write) = Broke old new o.text
Took o old new (Err stop.Memory) = (rest : List ℕ) × WroteAllBut old new o.text rest
Took o old new (Err stop.Read) = ⊥
Took o old new (Err stop.TooLarge) = ⊥

abbrev pub nothing : Output
nothing = record { text = []; status = 0 }

-- it took so of the text that `Is` means; or there was an error, and it took nothing
abbrev pub TookText : (Output → Type 0) → Told → Told → Result ℕ Stop → Type 0
TookText Is old new result = ((o : Output) × Is o × Took o old new result) ⊎ (IsErr result × Took nothing old new result)

-- whether a text is written once all is run or read
abbrev pub comes_last : Text → Bool
comes_last text.Objects = true
comes_last text.Form = true
comes_last (text.Reach granted) = true
comes_last _ = false

-- whether lines of JSON are
abbrev pub lines_come_last : Lines → Bool
lines_come_last lines.Listing = false
lines_come_last lines.Objects = true
lines_come_last lines.Form = true
lines_come_last (lines.Reach granted) = true

-- where memory ran out nothing was written
abbrev pub NoneWithoutMemory : Told → Told → Result ℕ Stop → Type 0
NoneWithoutMemory old new result = result ≡ Err stop.Memory → Wrote old new []

-- ---- a text of an input

-- this is the text of bytes: the listing or the report of the document that they read as, what is imported and called, whether the one
-- pickle that they are is in the form that picklers write, or whether a loader of them reaches something
abbrev pub IsTextOf : Text → Bool → Bool → List ℕ → Output → Type 0
IsTextOf text.Listing many loose bytes o = (d : Contents) × ReadsIn many loose bytes d × (o ≡ listing d)
IsTextOf text.Whole many loose bytes o = (d : Contents) × ReadsIn many loose bytes d × (o ≡ whole_listing d)
IsTextOf text.Form many loose bytes o = (d : Contents) × ReadsAs false bytes d × (o ≡ form_output d)
IsTextOf text.Objects many loose bytes o = (d : Contents) × ReadsIn many loose bytes d × IsReport d o.text o.status
IsTextOf (text.Reach granted) many loose bytes o = IsReachText granted bytes o
IsTextOf (text.Calls pickles detail) many loose bytes o = IsCalls (whole detail) pickles bytes o

-- these are the lines of JSON of bytes: the listing of the document that they read as, the objects that it makes, whether the one pickle that
-- they are is in the form that picklers write, or whether a loader of them reaches something
abbrev pub IsLinesOf : Lines → Bool → Bool → List ℕ → Output → Type 0
IsLinesOf lines.Listing many loose bytes o = (d : Contents) × ReadsIn many loose bytes d × (o ≡ json.listing d)
IsLinesOf lines.Objects many loose bytes o = IsObjects many loose bytes o
IsLinesOf lines.Form many loose bytes o = IsFormLine bytes o
IsLinesOf (lines.Reach granted) many loose bytes o = IsReachLine granted bytes o

-- what is said of bytes, as a text or as lines of JSON
abbrev pub is_said : Format → Text → Lines → Bool → Bool → List ℕ → Output → Type 0
is_said format.Text t l many loose = IsTextOf t many loose
is_said format.Json t l many loose = IsLinesOf l many loose

-- the source was not read whole, and nothing was written
pub record WasNotRead (source source' : Gives) (old new : Told) (result : Result ℕ Stop) : Type 0 where
  pub why : ReadStop
  pub result_is : result ≡ Err (stop_of_read why)
  pub cut : IsCutShort source source' why
  pub unwritten : new ≡ old

-- these are all bytes of the source, and the device took so of their text; `Is` says which text bytes have
pub record WasAnswered (Is : List ℕ → Output → Type 0) (source source' : Gives) (old new : Told) (result : Result ℕ Stop) : Type 0 where
  pub bytes : List ℕ
  pub read : IsWhole source.remaining source'.remaining size_limit bytes
  pub calm : source'.failures ≡ source.failures
  pub took : TookText (Is bytes) old new result

abbrev pub AnswersInput : (List ℕ → Output → Type 0) → Gives → Gives → Told → Told → Result ℕ Stop → Type 0
AnswersInput Is source source' old new result = WasNotRead source source' old new result ⊎ WasAnswered Is source source' old new result

-- ---- the text that a task asks for

-- the text of a listing, which may be a whole one
abbrev pub listing_text : Bool → Text
listing_text true = text.Whole
listing_text false = text.Listing

-- what is imported and called by what is left of a file, as a text or as lines of JSON
abbrev pub is_calls_text : CallsOptions → List ℕ → Output → Type 0
is_calls_text options bytes o = IsCallsOfFile (manner options.detail options.holes) options.pickles bytes o

abbrev pub is_calls_lines : CallsOptions → List ℕ → Output → Type 0
is_calls_lines options bytes o = IsLinesOfFile (manner options.detail options.holes) options.pickles bytes o

abbrev pub is_calls_as : Format → CallsOptions → List ℕ → Output → Type 0
is_calls_as format.Text options = is_calls_text options
is_calls_as format.Json options = is_calls_lines options

abbrev pub is_calls : CallsOptions → List ℕ → Output → Type 0
is_calls options = is_calls_as options.format options

-- a conversation asks for no text, the gate for those of files by another, the members of an archive are told of no pickle, a text of opcodes is
-- none, what is the same is told of two, and the table of opcodes of none
abbrev pub asks_for_text : Task → Bool
asks_for_text (task.Gate input options) = false
asks_for_text (task.Members input f) = false
asks_for_text (task.Assemble input) = false
asks_for_text (task.Same input other f) = false
asks_for_text (task.Source input) = false
asks_for_text (task.Debug input options) = false
asks_for_text (task.Opcodes f) = false
asks_for_text _ = true

-- the device took so of the text that is asked for, in the mode that is asked for, of all bytes of the source; a report, the form and what is reached
-- come last
abbrev pub AnswersTask : Task → Gives → Gives → Told → Told → Result ℕ Stop → Type 0
AnswersTask (task.List input options) source source' old new result =
    AnswersInput (is_said options.format (listing_text options.whole) lines.Listing input.many input.unframed) source source' old new result
AnswersTask (task.Objects input f) source source' old new result =
    AnswersInput (is_said f text.Objects lines.Objects input.many input.unframed) source source' old new result × NoneWithoutMemory old new result
AnswersTask (task.Calls input options) source source' old new result = AnswersInput (is_calls options) source source' old new result
AnswersTask (task.Form input f) source source' old new result =
    AnswersInput (is_said f text.Form lines.Form false false) source source' old new result × NoneWithoutMemory old new result
AnswersTask (task.Reach input granted f) source source' old new result =
    AnswersInput (is_said f (text.Reach granted) (lines.Reach granted) false false) source source' old new result × NoneWithoutMemory old new result
AnswersTask (task.Gate input options) source source' old new result = ⊤
AnswersTask (task.Members input f) source source' old new result = ⊤
AnswersTask (task.Assemble input) source source' old new result = ⊤
AnswersTask (task.Same input other f) source source' old new result = ⊤
AnswersTask (task.Source input) source source' old new result = ⊤
AnswersTask (task.Debug input options) source source' old new result = ⊤
AnswersTask (task.Opcodes f) source source' old new result = ⊤

-- of all bytes of a file that was opened
pub record AnswersOpened (t : Task) {F O : Type 0} (r : Reports F O) (file : Option (List ℕ)) (old new : Told) (result : Result ℕ Stop) : Type 0 where
  pub opened : O
  pub left : O
  pub opened_is : (r.file opened).remaining ≡ file
  pub answers : AnswersTask t (r.file opened) (r.file left) old new result

-- of all bytes of this file; or it could not be opened, and nothing was written
abbrev pub AnswersFile : Task → GivenFile → {F O : Type 0} → Reports F O → F → Told → Told → Result ℕ Stop → Type 0
AnswersFile t input r files old new result =
    (IsErrAnd result (IsShut r files (string_bytes input.file)) × (new ≡ old))
    ⊎ AnswersOpened t r (r.bytes_of files (string_bytes input.file)) old new result
