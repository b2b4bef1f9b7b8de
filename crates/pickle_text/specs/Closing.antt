-- The lines that close a text: how many bytes are after STOP, and how the run over a document's items ended.
-- Source: own.
use Rattle.std.specs.Prelude.{ℕ, Bool, true, false, List, [], codes, Option, Some, None, decimal, ◌==◌, if◌then◌else◌}
use Rattle.pickle_ops.specs.Spelling.{Operation}
use Rattle.pickle_io.specs.Text.{◌⧺◌}
use Rattle.pickle_doc.specs.declared.fault.TailFault.{TailFault}
use Rattle.pickle_machine.specs.declared.refusal.Refusal.{Refusal}
use Rattle.pickle_machine.specs.State.{State}
use Rattle.pickle_machine.specs.Move.{refusal_at}
use Rattle.pickle_text.specs.declared.closing.Closing.{Closing}
use Rattle.pickle_text.specs.declared.closing.Closing.TheVariants as closing
use Rattle.pickle_text.specs.Column.{newline}
use Rattle.pickle_text.specs.ReportLine.{item_refused, fault_line}

-- ---- bytes after STOP

-- more than sixteen bytes, closed in proofs under a name
unfoldable pub kept_words : List ℕ
kept_words = codes " bytes after STOP"

unfoldable pub kept_text : ℕ → List ℕ
kept_text count = codes "kept: " ⧺ decimal count ⧺ kept_words ⧺ newline

-- the bytes after STOP, if there are any
unfoldable pub kept_line : ℕ → List ℕ
kept_line count = if count == 0 then [] else kept_text count

-- ---- how a run ended

unfoldable pub refused_item_line : ℕ → Refusal → List ℕ
refused_item_line place r = codes "refused: " ⧺ item_refused place r ⧺ newline

-- where STOP ends the run there is no closing line
unfoldable pub closing_line : Closing → List ℕ
closing_line closing.Stopped = []
closing_line (closing.Refused place r) = refused_item_line place r
closing_line (closing.Fault f offset) = fault_line f offset

-- the status: 0 where nothing is refused and nothing is at fault
abbrev pub closing_status : Closing → ℕ
closing_status closing.Stopped = 0
closing_status (closing.Refused place r) = 1
closing_status (closing.Fault f offset) = 1

-- how a run ends that went over all items: by STOP, or by the fault of the tail at this offset
abbrev pub closing_at : Bool → TailFault → ℕ → Closing
closing_at true f offset = closing.Stopped
closing_at false f offset = closing.Fault f offset

-- why the machine refuses an item, if it is there and is refused
abbrev pub refused_on : Option Operation → State → Option Refusal
refused_on (Some o) s = refusal_at o s
refused_on None s = None
