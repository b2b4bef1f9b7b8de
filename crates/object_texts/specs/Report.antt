-- The report of a document: the objects that its items make, and how their run ended.
-- Source: own.
use Rattle.std.specs.Prelude.{◌≡◌, ℕ, Bool, List, length, codes, Some}
use Rattle.pickle_io.specs.Text.{◌⧺◌}
use Rattle.pickle_doc.specs.declared.fault.End.TheVariants as end
use Rattle.pickle_doc.specs.Document.{Contents, items_of, ReadsIn}
use Rattle.pickle_doc.specs.Place.{ops_of, item_at, end_of}
use Rattle.pickle_ops.specs.Object.{Object}
use Rattle.pickle_machine.specs.State.{State, start}
use Rattle.pickle_machine.specs.Run.{run}
use Rattle.pickle_io.specs.Device.{Told, Wrote, Broke, each}
use Rattle.pickle_text.specs.declared.closing.Closing.{Closing}
use Rattle.pickle_text.specs.declared.closing.Closing.TheVariants as closing
use Rattle.pickle_text.specs.Column.{newline}
use Rattle.object_texts.specs.ObjectText.{next_text, objects_text}
use Rattle.pickle_text.specs.Closing.{closing_line, closing_status, refused_on}

-- ---- the objects, the results, and the closing line

unfoldable pub result_line : ℕ → List ℕ
result_line id = codes "result" ⧺ next_text id ⧺ newline

-- the lines of all objects, one for each result, and the closing line
unfoldable pub report_text : List Object → List ℕ → Closing → List ℕ
report_text heap results c = objects_text heap ⧺ each result_line results ⧺ closing_line c

-- ---- the report of a document

-- how a run ends that has come to a place: the machine refuses the item there; or after the last item the document
-- stops, or the tail has a fault
abbrev pub Closes : Contents → ℕ → State → Closing → Type 0
Closes d place s closing.Stopped = (place ≡ length (items_of d)) × (end_of d ≡ end.Stopped)
Closes d place s (closing.Refused k r) = (k ≡ place) × (refused_on (item_at d place) s ≡ Some r)
Closes d place s (closing.Fault f offset) = (place ≡ length (items_of d)) × (end_of d ≡ end.Fault f offset)

-- the items are run from nothing, as one pickle or as several, as far as they have moves; the state that they reach and the closing of their run give
-- the text and the status
pub record IsReport (d : Contents) (text : List ℕ) (status : ℕ) : Type 0 where
  pub place : ℕ
  pub state : State
  pub closing : Closing
  pub reached : run (start d.many) (ops_of d) place ≡ Some state
  pub closes : Closes d place state closing
  pub lines : text ≡ report_text state.heap state.results closing
  pub answers : status ≡ closing_status closing

-- the report was written, and this is its status
abbrev pub WroteReport : Contents → Told → Told → ℕ → Type 0
WroteReport d old new status = (text : List ℕ) × IsReport d text status × Wrote old new text

-- a front of it was written, and then a failure came
abbrev pub BrokeReport : Contents → Told → Told → Type 0
BrokeReport d old new = (text : List ℕ) × (status : ℕ) × IsReport d text status × Broke old new text

-- ---- of bytes: the report of the document that they read as, as several pickles or as one, and with all items loose or with frames

-- the report was written, and this is its status
abbrev pub IsReported : Bool → Bool → List ℕ → Told → Told → ℕ → Type 0
IsReported many loose bytes old new status = (d : Contents) × ReadsIn many loose bytes d × WroteReport d old new status

-- a front of it was written, and then a failure came
abbrev pub BreaksReport : Bool → Bool → List ℕ → Told → Told → Type 0
BreaksReport many loose bytes old new = (d : Contents) × ReadsIn many loose bytes d × BrokeReport d old new

-- ---- laws

-- a document has one report, with one status
abbrev pub OneReport : Type 0
OneReport = (d : Contents) (text other : List ℕ) (status last : ℕ) → IsReport d text status → IsReport d other last → (text ≡ other) × (status ≡ last)
