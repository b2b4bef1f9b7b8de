-- The source of the pickle that bytes are, as it is written: a statement for what each opcode does, where reading ends before a STOP why and what is on
-- the stack then, and how many bytes follow the STOP.
-- Source: own.
use Rattle.std.specs.Prelude.{◌≡◌, ◌≢◌, ℕ, suc, ◌-◌, ◌==◌, if◌then◌else◌, Bool, false, List, [], length, slice_get, codes, decimal, Option, Some, None, Result, Err, IfOk, IfErr}
use Rattle.std.specs.BTreeMap.{BTreeMap}
use Rattle.pickle_io.specs.Text.{◌⧺◌}
use Rattle.pickle_io.specs.Device.{Told}
use Rattle.pickle_machine.specs.State.{State}
use Rattle.pickle_text.specs.Output.{Output}
use Rattle.pickle_text.specs.Closing.{closing_status}
use Rattle.pickle_text.specs.declared.closing.Closing.{Closing}
use Rattle.pickle_text.specs.declared.closing.Closing.TheVariants as closing
use Rattle.pickle_source.specs.declared.fact.Fact.{Fact}
use Rattle.pickle_source.specs.declared.act.Act.{Act}
use Rattle.pickle_source.specs.Tale.{TaleOf}
use Rattle.source_texts.specs.Statement.{source_text}
use Rattle.source_literals.specs.declared.floats.FloatText.{FloatText}
use Rattle.source_literals.specs.Floats.{text_in, AreRead}
use Rattle.source_literals.specs.Spelling.{value_text, spelled}
use Rattle.source_literals.specs.Naming.{is_name, is_module}
use Rattle.pickle_script.specs.GateText.{WroteText, StopsGate}
use Rattle.pickle_script.specs.declared.stop.Stop.{Stop}
use Rattle.pickle_script.specs.declared.stop.Stop.TheVariants as stop

-- ---- bytes behind a STOP

unfoldable pub behind_words : List ℕ
behind_words = codes " bytes after STOP are not read\n"

unfoldable pub behind_text : ℕ → List ℕ
behind_text n = codes "# " ⧺ decimal n ⧺ behind_words

unfoldable pub behind_line : ℕ → List ℕ
behind_line n = if n == 0 then [] else behind_text n

-- STOP is the last opcode that does something, and has one byte
abbrev pub behind_last : ℕ → Option Act → ℕ
behind_last size None = 0
behind_last size (Some a) = size - suc a.offset

abbrev pub behind : ℕ → List Act → Closing → ℕ
behind size acts closing.Stopped = behind_last size (slice_get acts (length acts - 1))
behind size acts _ = 0

-- ---- the first lines

-- of a pickle that was read to its end
unfoldable pub whole_head : List ℕ
whole_head = codes "# What loading the pickle would do. Running this does the same.\n"

-- of one that was not, or behind which bytes follow
unfoldable pub part_head : List ℕ
part_head = codes "# What loading the file would do first: the last lines say why this is not all.\n"

-- where frames were not looked at, as each loader does
unfoldable pub loose_head : List ℕ
loose_head = codes "# What the opcodes would do if the lengths of frames counted for nothing. A loader may end earlier, or do something else.\n"

abbrev pub is_all : ℕ → Closing → Bool
is_all left closing.Stopped = left == 0
is_all left _ = false

unfoldable pub head_text : Bool → ℕ → Closing → List ℕ
head_text loose left c = if loose then loose_head else if is_all left c then whole_head else part_head

-- the functions that the statements call
unfoldable pub import_line : List ℕ
import_line = codes "from picklestep.running import *\n"

-- ---- the text

-- `texts` has the texts of floats
unfoldable pub statements : BTreeMap ℕ FloatText → State → List Fact → List Act → Closing → List ℕ
statements texts s facts acts c = source_text (value_text (text_in texts)) spelled is_module is_name s facts acts c

unfoldable pub whole_source : Bool → BTreeMap ℕ FloatText → ℕ → State → List Fact → List Act → Closing → List ℕ
whole_source loose texts left s facts acts c =
    head_text loose left c ⧺ import_line ⧺ statements texts s facts acts c ⧺ behind_line left

-- of the pickle that the bytes are, or of several; and the status, which is 0 where reading ends by a STOP
pub record IsSourceText (many loose : Bool) (bytes : List ℕ) (o : Output) : Type 0 where
  pub state : State
  pub facts : List Fact
  pub acts : List Act
  pub closing : Closing
  pub texts : BTreeMap ℕ FloatText
  pub tale : TaleOf many loose bytes state facts acts closing
  pub read : AreRead texts
  pub text_is : o ≡ record { text = whole_source loose texts (behind (length bytes) acts closing) state facts acts closing; status = closing_status closing }

-- what is answered where that was to be written to a sink, of which `told` says what it reports
pub record AnswersSource (many loose : Bool) (bytes : List ℕ) {S : Type 0} (told : S → Told) (old new : S) (answer : Result ℕ Stop) : Type 0 where
  pub whole : IfOk answer (WroteText (IsSourceText many loose bytes) (told old) (told new))
  pub stopped : IfErr answer (StopsGate (IsSourceText many loose bytes) (told old) (told new))
  pub fits : answer ≢ Err stop.TooLarge
