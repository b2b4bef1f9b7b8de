-- The command line, as clap's words say it, and the task that clap's matches of the words name.
-- Source: own; what clap's words mean is said by clap's crate.
use Rattle.std.specs.Prelude.{◌≡◌, ◌≢◌, ◌⊎◌, ◌≤◌, Bool, IsTrue, ℕ, List, [], map, drop, Option, None, Some, IfSome, option_map, true, false, pos, codes, ⊤}
use Rattle.std.specs.Option.{unwrap_or}
use Rattle.std.specs.String.{string_bytes}
use Rattle.std.specs.Str.Parse.{IsNumeral, digits_value, without_leading_plus}
use Rattle.clap.specs.Words.{App, Row, Rule, Text, all_of, first_of, one_of, kind_of, new_app, new_rule, with_rule, with_subcommand}
use Rattle.clap.specs.declared.builder.action.ArgAction.TheVariants.{Append, Set, SetTrue}
use Rattle.clap.specs.declared.builder.value_parser.ValueParser.TheVariants as parser
use Rattle.clap.specs.declared.error.kind.ErrorKind.TheVariants as kind
use Rattle.pickle_io.specs.declared.hole.Hole.{Hole}
use Rattle.pickle_script.specs.GivenHoles.{holes_of}
use Rattle.pickle_calls.specs.declared.naming.Detail.{Detail}
use Rattle.pickle_calls.specs.declared.naming.Detail.TheVariants as detail
use Rattle.pickle_further.specs.declared.way.Pickles.{Pickles}
use Rattle.pickle_reach.specs.declared.granted.Granted.{Granted}
use Rattle.pickle_further.specs.declared.way.Pickles.TheVariants as pickles
use Rattle.program_answers.specs.declared.task.Task.{Task}
use Rattle.program_answers.specs.declared.task.Task.TheVariants as task
use Rattle.program_answers.specs.declared.task.Word.{Word}
use Rattle.program_answers.specs.declared.task.Word.TheVariants as word
use Rattle.program_answers.specs.declared.task.GivenFile.{GivenFile}
use Rattle.program_answers.specs.declared.task.Format.{Format}
use Rattle.program_answers.specs.declared.task.Format.TheVariants as format
use Rattle.program_answers.specs.declared.task.ListOptions.{ListOptions}
use Rattle.program_answers.specs.declared.task.CallsOptions.{CallsOptions}
use Rattle.program_answers.specs.declared.task.GateOptions.{GateOptions}
use Rattle.program_answers.specs.declared.task.Options.{Options}
use Rattle.program_answers.specs.declared.task.Usage.{Usage}
use Rattle.program_answers.specs.declared.task.Usage.TheVariants as usage

-- ---- the definition of the command line

-- the greatest number of step records that a conversation may be asked to keep
abbrev pub most_records : ℕ
most_records = 1000000

abbrev pub file_rule : Rule
file_rule = record (new_rule (codes "FILE")) { required = true; action = Some Set }

abbrev pub list_rule : Rule
list_rule = record (new_rule (codes "LIST")) { required = true; action = Some Set }

abbrev pub other_rule : Rule
other_rule = record (new_rule (codes "OTHER")) { required = true; action = Some Set }

-- one file, or several
abbrev pub files_rule : Rule
files_rule = record (new_rule (codes "FILE")) { required = true; action = Some Append }

abbrev pub window_rule : Rule
window_rule =
    record (new_rule (codes "window")) {
      long = Some (codes "window");
      value_names = 1;
      parser = Some (parser.Signed (pos 1) (pos most_records));
      action = Some Set;
    }

abbrev pub save_rule : Rule
save_rule = record (new_rule (codes "save")) { long = Some (codes "save"); value_names = 1; action = Some Set }

abbrev pub many_rule : Rule
many_rule = record (new_rule (codes "many")) { long = Some (codes "many"); action = Some SetTrue }

abbrev pub unframed_rule : Rule
unframed_rule = record (new_rule (codes "unframed")) { long = Some (codes "unframed"); action = Some SetTrue }

abbrev pub json_rule : Rule
json_rule = record (new_rule (codes "json")) { long = Some (codes "json"); action = Some SetTrue }

abbrev pub whole_rule : Rule
whole_rule = record (new_rule (codes "whole")) { long = Some (codes "whole"); action = Some SetTrue }

abbrev pub first_rule : Rule
first_rule = record (new_rule (codes "first")) { long = Some (codes "first"); action = Some SetTrue }

abbrev pub memo_rule : Rule
memo_rule = record (new_rule (codes "memo")) { long = Some (codes "memo"); value_names = 1; action = Some Set }

abbrev pub skip_rule : Rule
skip_rule = record (new_rule (codes "skip")) { long = Some (codes "skip"); value_names = 1; action = Some Append }

abbrev pub full_rule : Rule
full_rule = record (new_rule (codes "full")) { long = Some (codes "full"); action = Some SetTrue }

-- a subcommand that is done on one file, as one pickle or as several
abbrev pub on_file : Text → App
on_file name = with_rule (with_rule (new_app name) file_rule) many_rule

-- one that may be done without a look at frames
abbrev pub frames_app : Text → App
frames_app name = with_rule (on_file name) unframed_rule

-- and whose answer may be JSON
abbrev pub json_app : Text → App
json_app name = with_rule (frames_app name) json_rule

abbrev pub list_app : App
list_app = with_rule (json_app (codes "list")) whole_rule

abbrev pub detailed_app : App
detailed_app = with_rule (with_rule (with_rule (with_rule (on_file (codes "calls")) first_rule) memo_rule) full_rule) skip_rule

abbrev pub calls_app : App
calls_app = with_rule detailed_app json_rule

abbrev pub debug_app : App
debug_app = with_rule (with_rule (with_rule (frames_app (codes "debug")) window_rule) save_rule) json_rule

abbrev pub form_app : App
form_app = with_rule (on_file (codes "form")) json_rule

abbrev pub listed_app : App
listed_app = with_rule (with_rule (new_app (codes "gate")) list_rule) files_rule

abbrev pub gate_app : App
gate_app = with_rule listed_app json_rule

abbrev pub extensions_rule : Rule
extensions_rule = record (new_rule (codes "extensions")) { long = Some (codes "extensions"); action = Some SetTrue }

abbrev pub persistent_rule : Rule
persistent_rule = record (new_rule (codes "persistent-ids")) { long = Some (codes "persistent-ids"); action = Some SetTrue }

abbrev pub buffers_rule : Rule
buffers_rule = record (new_rule (codes "buffers")) { long = Some (codes "buffers"); action = Some SetTrue }

abbrev pub granted_app : App
granted_app = with_rule (with_rule (with_rule (with_rule (new_app (codes "reach")) file_rule) extensions_rule) persistent_rule) buffers_rule

abbrev pub reach_app : App
reach_app = with_rule granted_app json_rule

abbrev pub members_app : App
members_app = with_rule (with_rule (new_app (codes "members")) file_rule) json_rule

abbrev pub assemble_app : App
assemble_app = with_rule (new_app (codes "assemble")) file_rule

abbrev pub same_app : App
same_app = with_rule (with_rule (on_file (codes "same")) other_rule) json_rule

abbrev pub source_app : App
source_app = frames_app (codes "source")

abbrev pub opcodes_app : App
opcodes_app = with_rule (new_app (codes "opcodes")) json_rule

abbrev pub wants_subcommand : App → App
wants_subcommand a = record a { top = record a.top { subcommand_required = true } }

abbrev pub program : App
program =
    with_subcommand (with_subcommand (with_subcommand (with_subcommand (with_subcommand (with_subcommand (with_subcommand (with_subcommand (with_subcommand (with_subcommand (with_subcommand (with_subcommand (wants_subcommand
    (new_app (codes "picklestep"))) list_app.top) (json_app (codes "objects")).top) calls_app.top) debug_app.top)
    form_app.top) gate_app.top) reach_app.top) members_app.top) assemble_app.top) same_app.top) source_app.top) opcodes_app.top

-- ---- the task that matches name

-- the subcommand that clap's matches name, and what was matched after it
abbrev pub Matches : Type 0
Matches = Option (Text × List Row)

-- a text that writes a number within the bounds
pub record IsCount (text : Text) (n : ℕ) : Type 0 where
  pub numeral : IsNumeral 10 (without_leading_plus text)
  pub value : n ≡ digits_value 10 (without_leading_plus text)
  pub least : 1 ≤ n
  pub most : n ≤ most_records

abbrev pub IsWindow : Option Text → Option ℕ → Type 0
IsWindow None None = ⊤
IsWindow (Some text) (Some n) = IsCount text n
IsWindow None (Some n) = ⊥
IsWindow (Some text) None = ⊥

-- the words have this FILE, and `--many` and `--unframed` where the input says so
pub record HasInput (rows : List Row) (input : GivenFile) : Type 0 where
  pub file_is : first_of (codes "FILE") rows ≡ Some (string_bytes input.file)
  pub many_is : IsTrue input.many → first_of (codes "many") rows ≡ Some (codes "true")
  pub one_is : first_of (codes "many") rows ≡ Some (codes "true") → IsTrue input.many
  pub unframed_is : IsTrue input.unframed → first_of (codes "unframed") rows ≡ Some (codes "true")
  pub framed_is : first_of (codes "unframed") rows ≡ Some (codes "true") → IsTrue input.unframed

-- a subcommand of this name, and what was matched after it
abbrev pub matches_of : Text → List Row → Matches
matches_of name rows = Some (name, rows)

-- the subcommand of this name was used on this input
pub record IsUsed (name : Text) (matches : Matches) (input : GivenFile) : Type 0 where
  pub rows : List Row
  pub used : matches ≡ Some (name, rows)
  pub input_is : HasInput rows input

-- the pickles that are read: all, the first, or all with the memo kept
abbrev pub GivesReading : Bool → Option Text → Pickles → Type 0
GivesReading first memo pickles.First = IsTrue first × (memo ≡ None)
GivesReading first memo pickles.All = (first ≡ false) × (memo ≡ None)
GivesReading first memo pickles.OneMemo = (first ≡ false) × (memo ≡ Some (codes "kept"))

-- with `--first` or not, and with `--memo` and its word or not
pub record HasReading (rows : List Row) (p : Pickles) : Type 0 where
  pub first : Bool
  pub first_is : IsTrue first → first_of (codes "first") rows ≡ Some (codes "true")
  pub all_is : first_of (codes "first") rows ≡ Some (codes "true") → IsTrue first
  pub gives : GivesReading first (first_of (codes "memo") rows) p

-- arguments are shown in full with `--full`, and are cut without it
abbrev pub HasDetail : List Row → Detail → Type 0
HasDetail rows detail.Full = first_of (codes "full") rows ≡ Some (codes "true")
HasDetail rows detail.Cut = first_of (codes "full") rows ≢ Some (codes "true")

-- the answer is JSON with `--json`, and text without it
abbrev pub HasFormat : List Row → Format → Type 0
HasFormat rows format.Json = first_of (codes "json") rows ≡ Some (codes "true")
HasFormat rows format.Text = first_of (codes "json") rows ≢ Some (codes "true")

-- the texts behind each `--skip`
abbrev pub skips_of : List Row → List Text
skips_of rows = unwrap_or (all_of (codes "skip") rows) []

-- the holes of a file are what these texts are
abbrev pub HasHoles : List Row → List Hole → Type 0
HasHoles rows holes = holes_of (skips_of rows) ≡ Some holes

pub record HasCallsOptions (rows : List Row) (options : CallsOptions) : Type 0 where
  pub pickles_is : HasReading rows options.pickles
  pub detail_is : HasDetail rows options.detail
  pub holes_is : HasHoles rows options.holes
  pub format_is : HasFormat rows options.format

-- the words have this text behind a name
abbrev pub HasText : Text → List Row → Text → Type 0
HasText name rows text = first_of name rows ≡ Some text

-- each FILE behind the first
abbrev pub more_of : List Row → List Text
more_of rows = drop 1 (unwrap_or (all_of (codes "FILE") rows) [])

pub record HasGateOptions (rows : List Row) (options : GateOptions) : Type 0 where
  pub list_is : HasText (codes "LIST") rows (string_bytes options.list)
  pub more_is : map string_bytes options.more.items ≡ more_of rows
  pub format_is : HasFormat rows options.format

-- an option without a value is among them, or not
abbrev pub HasFlag : List Row → Text → Bool → Type 0
HasFlag rows name given = (IsTrue given → first_of name rows ≡ Some (codes "true")) × (first_of name rows ≡ Some (codes "true") → IsTrue given)

-- a listing is whole, and what it is written as
pub record HasListOptions (rows : List Row) (options : ListOptions) : Type 0 where
  pub whole_is : HasFlag rows (codes "whole") options.whole
  pub format_is : HasFormat rows options.format

-- what a loader was given besides the bytes
pub record HasGranted (rows : List Row) (granted : Granted) : Type 0 where
  pub extensions_is : HasFlag rows (codes "extensions") granted.extensions
  pub persistent_is : HasFlag rows (codes "persistent-ids") granted.persistent
  pub buffers_is : HasFlag rows (codes "buffers") granted.buffers

pub record HasOptions (rows : List Row) (options : Options) : Type 0 where
  pub save_is : first_of (codes "save") rows ≡ option_map string_bytes options.save
  pub window_is : IsWindow (one_of (codes "window") rows) options.window
  pub format_is : HasFormat rows options.format

-- the subcommand of this name was used, which is done on no file, and its answer is written so
pub record IsAsked (name : Text) (matches : Matches) (f : Format) : Type 0 where
  pub rows : List Row
  pub used : matches ≡ Some (name, rows)
  pub format_is : HasFormat rows f

abbrev pub IsNamed : Matches → Task → Type 0
IsNamed matches (task.List input options) = (u : IsUsed (codes "list") matches input) × HasListOptions u.rows options
IsNamed matches (task.Objects input f) = (u : IsUsed (codes "objects") matches input) × HasFormat u.rows f
IsNamed matches (task.Calls input options) = (u : IsUsed (codes "calls") matches input) × HasCallsOptions u.rows options
IsNamed matches (task.Form input f) = (u : IsUsed (codes "form") matches input) × HasFormat u.rows f
IsNamed matches (task.Gate input options) = (u : IsUsed (codes "gate") matches input) × HasGateOptions u.rows options
IsNamed matches (task.Reach input granted f) = (u : IsUsed (codes "reach") matches input) × (HasGranted u.rows granted × HasFormat u.rows f)
IsNamed matches (task.Members input f) = (u : IsUsed (codes "members") matches input) × HasFormat u.rows f
IsNamed matches (task.Assemble input) = IsUsed (codes "assemble") matches input
IsNamed matches (task.Source input) = IsUsed (codes "source") matches input
IsNamed matches (task.Same input other f) = (u : IsUsed (codes "same") matches input) × (HasText (codes "OTHER") u.rows (string_bytes other) × HasFormat u.rows f)
IsNamed matches (task.Debug input options) = (u : IsUsed (codes "debug") matches input) × HasOptions u.rows options
IsNamed matches (task.Opcodes f) = IsAsked (codes "opcodes") matches f

-- ---- the matches that name a task

-- `--memo` is left out, or has its word and no `--first` beside it
abbrev pub FitsMemo : List Row → Type 0
FitsMemo rows = (first_of (codes "memo") rows ≡ None)
    ⊎ ((first_of (codes "memo") rows ≡ Some (codes "kept")) × (first_of (codes "first") rows ≢ Some (codes "true")))

-- and the texts behind each `--skip` are holes in order
pub record FitsCalls (rows : List Row) : Type 0 where
  pub memo : FitsMemo rows
  pub skips : holes_of (skips_of rows) ≢ None

-- where the matches are those of `calls`, its options fit
abbrev pub FitsOptions : Matches → Type 0
FitsOptions matches = (rows : List Row) → matches ≡ Some (codes "calls", rows) → FitsCalls rows

-- the name of a command
abbrev pub name_of : Word → Text
name_of word.List = codes "list"
name_of word.Objects = codes "objects"
name_of word.Calls = codes "calls"
name_of word.Debug = codes "debug"
name_of word.Form = codes "form"
name_of word.Gate = codes "gate"
name_of word.Reach = codes "reach"
name_of word.Members = codes "members"
name_of word.Assemble = codes "assemble"
name_of word.Same = codes "same"
name_of word.Source = codes "source"
name_of word.Opcodes = codes "opcodes"

abbrev pub IsCommand : Text → Type 0
IsCommand name = (w : Word) × (name ≡ name_of w)

-- one of the commands was used, but for `opcodes` with a FILE, of `gate` with a LIST, of `same` with an OTHER, a window that is none or within the bounds,
-- and options of `calls` that fit
pub record NamesTask (matches : Matches) : Type 0 where
  pub name : Text
  pub rows : List Row
  pub used : matches ≡ Some (name, rows)
  pub command : IsCommand name
  pub file_is : name ≢ codes "opcodes" → first_of (codes "FILE") rows ≢ None
  pub list_is : name ≡ codes "gate" → first_of (codes "LIST") rows ≢ None
  pub other_is : name ≡ codes "same" → first_of (codes "OTHER") rows ≢ None
  pub window : Option ℕ
  pub window_is : IsWindow (one_of (codes "window") rows) window
  pub fits : FitsOptions matches

-- a number of step records is within the bounds
abbrev pub IsBounded : Task → Type 0
IsBounded (task.List input options) = ⊤
IsBounded (task.Objects input f) = ⊤
IsBounded (task.Calls input options) = ⊤
IsBounded (task.Form input f) = ⊤
IsBounded (task.Gate input options) = ⊤
IsBounded (task.Reach input granted f) = ⊤
IsBounded (task.Members input f) = ⊤
IsBounded (task.Assemble input) = ⊤
IsBounded (task.Same input other f) = ⊤
IsBounded (task.Source input) = ⊤
IsBounded (task.Debug input options) = IfSome options.window (λ n. (1 ≤ n) × (n ≤ most_records))
IsBounded (task.Opcodes f) = ⊤

-- the words are refused where memory runs out
abbrev pub IsMemory : Usage → Type 0
IsMemory usage.Memory = ⊤
IsMemory (usage.Words e) = kind_of e ≡ kind.OutOfMemory
